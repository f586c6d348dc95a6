-- The program's session of which no more is said from some text on.
use Rattle.std.proofs.Common.{◌≡◌, ◌⊎◌, ⊎_elim, inl, inr, ℕ, ◌+◌, Bool, List, [], ◌++◌, length, drop, Option, Some, refl, ap, sym, ◌∙◌, subst, append_assoc}
use Rattle.std.proofs.Math.Seq.{drop-append_seam}
use Rattle.file_traits.specs.Lists.{NamedBytes}
use Rattle.file_traits.specs.State.{FileState}
use Rattle.host_lines.specs.Traffic.{Ahead, Answer as LineAnswer}
use Rattle.host_lines.specs.Told.{ahead_of}
use Rattle.host_lines.specs.State.{LineState}
use Rattle.unit_files.specs.Attachments.{Held, attachments_of, attachment_at, no_files}
use Rattle.unit_files.specs.Buffer.{disk_unit}
use Rattle.unit_files.specs.InStep.{StepAt, InStep}
use Rattle.file_commands.specs.declared.note.FaultNote.{FaultNote}
use Rattle.file_commands.specs.Notes.{Note, notes_said}
use Rattle.file_commands.specs.Counts.{AreCounted}
use Rattle.expect_actions.specs.KeysFile.{Key}
use Rattle.unit_trait.specs.Calls.{UnitState}
use Rattle.nova_machine.specs.Machine.{MachineState, attached_files}
use Rattle.nova_machine.specs.Comes.{output}
use Rattle.observations.specs.Observations.{reads_of}
use Rattle.command_session.specs.Live.{CommandState, Beyond, beyond}
use Rattle.scp_script.specs.declared.perform_session.Opening.{Opening}
use Rattle.scp_script.specs.Session.{Session, step, ComesTo}
use Rattle.scp_script.specs.Perform.{beginning, SaysUpTo, SaysNoMore as SessionSaysNoMore}
use Rattle.command_words.specs.declared.options.Options.{Options}
use Rattle.command_words.specs.Words.{options_of}
use Rattle.program_start.specs.Start.{start_of}
use Rattle.nova_top.specs.Outside.{session_with, opening}
use Rattle.nova_top.specs.Ends.{NoneFailed}
use Rattle.nova_top.specs.Resumption.{SaysNoMore}
use Rattle.nova_top.specs.Program.{script_text}
use Rattle.nova_top.proofs.ProgramLemmas.{Begun, follows, same-start, no-notes}

-- where nothing is attached, nothing has to be in step
pub bare-step : (m : MachineState) (files : List NamedBytes) → m.slots ≡ no_files → InStep (attached_files m) files
bare-step m files bare =
    subst (λ (slots : List (Option Held)). StepAt (attachment_at (attachments_of slots) disk_unit) m.disk m.aside files) (sym bare) tt

opening-input : (units : List UnitState) (words : List (List ℕ)) (options : Options) (keys : List Key) (script : Option (List ℕ)) (files : List NamedBytes) (ahead : Ahead) (input : List ℕ) (own : List Note)
    → (opening units words options keys script files ahead input own).input ≡ input
unfolding session_with
opening-input units words options keys script files ahead input own = refl

-- the session that was begun is the one that the definition opens
pub says-no-more : (tells : Bool) (Told : Type 0) (units : List UnitState) (words : List (List ℕ)) (options : Options) (s : CommandState) (o : Opening) (was mid : FileState) (lines : LineState) (whole : List LineAnswer) (new : Beyond)
    (input left before after : List ℕ) (notes' : List Note) → options_of words ≡ Some options → Begun Told units words options s o was mid → Told
    → SessionSaysNoMore (λ (w : List LineAnswer) (n : List Note). beginning s (beyond mid.files lines w) o input n) tells whole left (output before lines.sent) (output after new.lines.sent) (notes_said s.notes) notes'
    → SaysNoMore tells units words input left before after (beyond was.files lines whole) new notes'
says-no-more tells Told units words options s o was mid lines whole new input left before after notes' chosen begun told p =
    let ahead = ahead_of lines.told p.recorded in
    let kept = notes_said s.notes in
    let start : List Note → Session = λ n. opening units words options s.keys (script_text o) was.files ahead input n in
    let by_start : (List Note → Session) → Type 0 = λ from. SaysUpTo from tells left (output before lines.sent) (output after new.lines.sent) kept notes' in
    let says : SaysUpTo start tells left (output before lines.sent) (output after new.lines.sent) kept notes' =
    subst by_start (λ i (n : List Note). same-start Told units words options s o was mid lines p.recorded input n begun told i) p.says in
    let follow = follows units words options s.keys (script_text o) was.files ahead input says.own says.first in
    let reads = reads_of (says.done ++ (step says.reached).made) + says.made in
    record {
      own = kept ++ says.own;
      later = says.later;
      kept = says.kept ∙ sym (append_assoc kept says.own says.later);
      recorded = p.recorded;
      same = p.same;
      front = says.done;
      at = says.reached;
      reaches = record {
        options = options;
        keys = s.keys;
        script = script_text o;
        used = length kept;
        count = says.count;
        starts = ap (λ (c : Option Options). start_of c words was.files (kept ++ says.own)) chosen ∙ begun.starts told says.own follow;
        comes = subst (λ (n : List Note). ComesTo says.count (start n) says.done says.reached) (sym (drop-append_seam kept says.own)) says.comes;
      };
      state = says.state;
      last = says.last;
      more = says.more;
      printed = says.written;
      heard = says.heard;
      made = says.made;
      rest = says.rest ∙ ap (drop reads) (opening-input units words options s.keys (script_text o) was.files ahead input says.own);
    }

-- where no call on a file failed, no note was kept
pub without-notes : (tells : Bool) (units : List UnitState) (words : List (List ℕ)) (input left before after : List ℕ) (old new : Beyond) (items : List FaultNote) (was now : FileState) → AreCounted items was now → NoneFailed was now
    → SaysNoMore tells units words input left before after old new (notes_said items) → SaysNoMore tells units words input left before after old new []
without-notes tells units words input left before after old new items was now counted none =
    subst (λ (l : List FaultNote). SaysNoMore tells units words input left before after old new (notes_said l)) (no-notes items was now counted none)

-- what follows of either
pub either-said : {A B C D : Type 0} → (A → C) → (B → D) → A ⊎ B → C ⊎ D
either-said one other said = ⊎_elim (λ a. inl (one a)) (λ b. inr (other b)) said

pub or-said : {A B C : Type 0} → (B → C) → A ⊎ B → A ⊎ C
or-said other said = ⊎_elim inl (λ b. inr (other b)) said
