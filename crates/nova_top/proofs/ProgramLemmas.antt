-- How the program starts and what its session comes to.
use Rattle.std.proofs.Common.{◌≡◌, ◌≢◌, ◌⊎◌, inl, inr, ℕ, zero, suc, ◌≤◌, Bool, true, false, IsTrue, List, [], ◌∷◌, ◌++◌, length, get_or, map, replicate, refl, ap, sym, ◌∙◌, subst, arith, append-nil, Option, Some, None, IfSome, IsSome, is_some, is_none}
use Rattle.std.proofs.Math.Seq.{drop-append_seam, drop-length}
use Rattle.std.proofs.lemmas.Bool.{eq-eqb}
use Rattle.fault_counts.specs.Faults.{raised, Rose}
use Rattle.file_traits.specs.Lists.{NamedBytes}
use Rattle.file_traits.specs.State.{FileState, Opened}
use Rattle.file_traits.specs.declared.files.FileId.{FileId}
use Rattle.host_lines.specs.Traffic.{Peer, Gone, Ahead, Answer as LineAnswer}
use Rattle.host_lines.specs.Told.{ahead_of}
use Rattle.host_lines.specs.State.{LineState}
use Rattle.telnet_lines.specs.Line.{LineOf, unconnected, renamed}
use Rattle.telnet_lines.specs.Joined.{seen_line}
use Rattle.unit_trait.specs.declared.kind.UnitName.{UnitName}
use Rattle.unit_trait.specs.Calls.{UnitState}
use Rattle.unit_list.specs.Bus.{kinds_of}
use Rattle.unit_list.proofs.Resets.{reset-kinds}
use Rattle.unit_files.specs.Attachments.{Attachment, Held, attachment_at, file_place, file_units, no_files}
use Rattle.unit_files.specs.Open.{AllOpen, Around}
use Rattle.file_commands.specs.declared.note.FaultNote.{FaultNote}
use Rattle.file_commands.specs.Notes.{CommandNote, Note, numbered, Follow, notes_said}
use Rattle.file_commands.specs.Counts.{one_if, is_of, is_opening, noted, openings_noted, RoseBy, AreCounted, AreExact}
use Rattle.file_commands.proofs.Adding.{counted-both}
use Rattle.file_commands.proofs.Exact.{exact-both, exact-kept, exact-none}
use Rattle.file_commands.specs.AllUnits.{IsUnwritten}
use Rattle.file_commands.proofs.Emptying.{unwritten-since}
use Rattle.expect_actions.specs.KeysFile.{Key}
use Rattle.expect_actions.specs.Watch.{WatchState, empty_watch}
use Rattle.nova_machine.specs.Machine.{MachineState, line_count, lines_for, new_machine, reset_machine, reset_devices}
use Rattle.nova_machine.specs.Seen.{seen, beside, erased, attached_in}
use Rattle.nova_machine.specs.Comes.{Output, output}
use Rattle.state_transfer.specs.SavedValid.{AreStandard}
use Rattle.command_session.specs.Live.{Live, CommandState, Beyond, beyond, live_in}
use Rattle.command_session.specs.Doing.{IsLate, ComeBehind}
use Rattle.scp_script.specs.declared.progress.Finish.{Finish}
use Rattle.scp_script.specs.declared.progress.Finish.TheVariants.{Exit, EndOfInput, FlushFailed, Commands, Console, Input, OutOfMemory}
use Rattle.scp_script.specs.Session.{Session}
use Rattle.scp_script.specs.Loop.{IsExitStatus, FinishCause, AreKept, KeptCause, MayFollow, status_of}
use Rattle.scp_script.specs.declared.perform_session.Opening.{Opening}
use Rattle.scp_script.specs.Perform.{beginning, beginning_with, IsSession, RunsShort, IsPerformed, Performed}
use Rattle.command_words.specs.declared.options.Options.{Options}
use Rattle.command_words.specs.Standard.{IsStandard}
use Rattle.session_texts.specs.Actions.{texts_of as waiting_texts}
use Rattle.command_words.specs.Words.{options_of}
use Rattle.program_start.specs.Workload.{with_workload}
use Rattle.program_start.specs.Start.{Denial, Begins, Refused, denied, start_of, usage_text}
use Rattle.nova_top.specs.Outside.{session_with, opening}
use Rattle.nova_top.specs.Ends.{IsOutcome, IsCutShort, HasKeysFile, HasScript, StatusCause, NoneFailed, IsComplete, KeptUnwritten, HasWorkload}
use Rattle.program_start.specs.WordFiles.{AreWordClosings, StartsWith, AddsNoted, RefusalCause, denial_of, IsRefused, RefusedCause, IsDenied, DeniedCause}
use Rattle.program_start.specs.declared.word_files.Refusal.{Refusal}
use Rattle.program_start.specs.declared.word_files.Refusal.TheVariants.{Unopened, BadKeys}
use Rattle.program_start.specs.declared.word_files.Refusal.TheVariants as refusal
use Rattle.nova_top.specs.Program.{OpensAs, script_text}
use Rattle.nova_top.proofs.OutsideLemmas.{refused-outcome, session-outcome, complete}
use Rattle.nova_top.proofs.PortLemmas.{lines-by-kinds}

-- ---- a new machine has no file

none-attached : (slots place : ℕ) → get_or {A = Option Attachment} (replicate slots None) place None ≡ None
none-attached zero place = refl
none-attached (suc slots) zero = refl
none-attached (suc slots) (suc place) = none-attached slots place

no-slots : (workload : Option ℕ) (units : List UnitState) (unit : UnitName) → attachment_at (attached_in (erased (with_workload workload (new_machine units)))) unit ≡ None
unfolding new_machine reset_machine reset_devices
no-slots None units unit = none-attached file_units (file_place unit)
no-slots (Some number) units unit = none-attached file_units (file_place unit)

pub new-slots : (workload : Option ℕ) (units : List UnitState) → (with_workload workload (new_machine units)).slots ≡ no_files
unfolding new_machine reset_machine reset_devices
new-slots None units = refl
new-slots (Some number) units = refl

-- a new machine of the standard units has their kinds
pub new-kinds : (workload : Option ℕ) (units : List UnitState) → kinds_of (with_workload workload (new_machine units)).units ≡ kinds_of units
unfolding new_machine reset_machine reset_devices
new-kinds None units = reset-kinds units
new-kinds (Some number) units = reset-kinds units

pub new-standard : (workload : Option ℕ) (units : List UnitState) → IsStandard units → AreStandard (with_workload workload (new_machine units)).units
new-standard workload units (inl is) = inl (new-kinds workload units ∙ ap kinds_of is)
new-standard workload units (inr is) = inr (new-kinds workload units ∙ ap kinds_of is)

no-closing : (workload : Option ℕ) (units : List UnitState) (live : Live) (n : CommandNote) → live.machine ≡ erased (with_workload workload (new_machine units)) → IsLate live n → ⊥
no-closing workload units live n new closing =
    let none = ap (λ (m : MachineState). attachment_at (attached_in m) closing.unit) new ∙ no-slots workload units closing.unit in
    let no : false ≡ true = subst (λ (a : Option Attachment). IsTrue (is_some a)) none closing.there in
    cc

no-behind : (workload : Option ℕ) (units : List UnitState) (live : Live) (behind : List CommandNote) → live.machine ≡ erased (with_workload workload (new_machine units)) → ComeBehind live behind → behind ≡ []
no-behind workload units live [] new come = refl
no-behind workload units live (n ∷ behind) new come = absurd (no-closing workload units live n new come.0)

-- so no closing comes behind its start, and the notes are those of its commands
pub follows : (units : List UnitState) (words : List (List ℕ)) (options : Options) (keys : List Key) (script : Option (List ℕ)) (files : List NamedBytes) (ahead : Ahead) (input : List ℕ) (own : List Note)
    → MayFollow (opening units words options keys script files ahead input []).spent (opening units words options keys script files ahead input []).live own → Follow 0 own
unfolding session_with
follows units words options keys script files ahead input own h =
    let none = no-behind options.workload units (opening units words options keys script files ahead input []).live h.behind refl h.closings in
    subst (λ (n : List Note). Follow 0 n) (sym (h.are ∙ ap (λ (b : List CommandNote). numbered 0 b ++ h.later) none)) h.follows

-- ---- what stands before the first line

-- A session that is begun: with a new machine, in whose memory a workload may be, with nothing watched, with keys and a script of which the notes so far are all that was used, and
-- opened as the words say.
pub record Begun (Told : Type 0) (units : List UnitState) (words : List (List ℕ)) (options : Options) (s : CommandState) (o : Opening) (old new : FileState) : Type 0 where
  pub command : s.command ≡ 0
  pub limit : s.limit ≡ options.limit
  pub machine : s.machine ≡ with_workload options.workload (new_machine units)
  pub watch : s.watch ≡ empty_watch
  pub open_ : AllOpen s.machine.slots new.opened
  pub around : Around s.machine.slots old.opened new.opened
  pub files : Told → new.files ≡ old.files
  pub opens : OpensAs words options o
  pub starts : Told → StartsWith words options old.files (notes_said s.notes) (Begins options s.keys (script_text o))
  pub keeps : AddsNoted [] s.notes old new

-- a session as it was made
pub record Made (units : List UnitState) (options : Options) (s : CommandState) : Type 0 where
  pub standard : IsStandard units
  pub machine : s.machine ≡ new_machine units
  pub watch : s.watch ≡ empty_watch
  pub limit : s.limit ≡ options.limit
  pub notes : s.notes ≡ []
  pub command : s.command ≡ 0
  pub open_ : (opened : List Opened) → AllOpen s.machine.slots opened
  pub around : (opened : List Opened) → Around s.machine.slots opened opened

-- a workload leaves the files of a machine
workload-slots : (workload : Option ℕ) (m : MachineState) → (with_workload workload m).slots ≡ m.slots
workload-slots None m = refl
workload-slots (Some number) m = refl

-- with what the files of the words say, and its workload
pub begun-files : (Told : Type 0) (units : List UnitState) (words : List (List ℕ)) (options : Options) (i s : CommandState) (m : MachineState) (keys : List Key) (o : Opening) (notes : List FaultNote) (spare : ℕ) (old new : FileState)
    → Made units options s → i ≡ s → m ≡ with_workload options.workload i.machine → (Told → StartsWith words options old.files (notes_said notes) (Begins options keys (script_text o))) → OpensAs words options o
    → (Told → new.files ≡ old.files) → new.opened ≡ old.opened → AddsNoted [] notes old new
    → Begun Told units words options (record { machine = m; watch = i.watch; keys = keys; limit = i.limit; notes = notes; command = i.command; spare = spare }) o old new
begun-files Told units words options i s m keys o notes spare old new made same filled starts opens files opened keeps =
    let whole : m ≡ with_workload options.workload s.machine = filled ∙ ap (λ (u : CommandState). with_workload options.workload u.machine) same in
    let slots : s.machine.slots ≡ m.slots = sym (workload-slots options.workload s.machine) ∙ ap (λ (x : MachineState). x.slots) (sym whole) in
    record {
      command = ap (λ (u : CommandState). u.command) same ∙ made.command;
      limit = ap (λ (u : CommandState). u.limit) same ∙ made.limit;
      machine = whole ∙ ap (with_workload options.workload) made.machine;
      watch = ap (λ (u : CommandState). u.watch) same ∙ made.watch;
      open_ = subst (λ (h : List (Option Held)). AllOpen h new.opened) slots (made.open_ new.opened);
      around = subst (λ (h : List (Option Held)). Around h old.opened new.opened) slots (subst (λ (o : List Opened). Around s.machine.slots old.opened o) (sym opened) (made.around old.opened));
      files = files;
      opens = opens;
      starts = starts;
      keeps = keeps;
    }

-- ---- a session from where it begins

-- nobody is behind a line of a new machine, which has no port
nobody-seen : (s : LineState) (n : ℕ) → map (seen_line s) (replicate {A = LineOf ℕ} n (unconnected None)) ≡ map (renamed (λ _. Gone)) (replicate {A = LineOf ℕ} n (unconnected None))
nobody-seen s zero = refl
nobody-seen s (suc n) = ap (λ (l : List (LineOf Peer)). unconnected None ∷ l) (nobody-seen s n)

first-lines : (workload : Option ℕ) (units : List UnitState) (s : LineState) → map (seen_line s) (with_workload workload (new_machine units)).lines ≡ map (renamed (λ _. Gone)) (with_workload workload (new_machine units)).lines
unfolding new_machine reset_machine reset_devices
first-lines None units s = nobody-seen s (suc (line_count units))
first-lines (Some number) units s = nobody-seen s (suc (line_count units))

own-lines : (workload : Option ℕ) (units : List UnitState) → (with_workload workload (new_machine units)).lines ≡ lines_for units
unfolding new_machine reset_machine reset_devices
own-lines None units = refl
own-lines (Some number) units = refl

pub begun-lines : (Told : Type 0) (units : List UnitState) (words : List (List ℕ)) (options : Options) (s : CommandState) (o : Opening) (old mid : FileState) → Begun Told units words options s o old mid
    → s.machine.lines ≡ lines_for s.machine.units
begun-lines Told units words options s o old mid begun =
    let kinds = ap (λ (m : MachineState). kinds_of m.units) begun.machine ∙ new-kinds options.workload units in
    ap (λ (m : MachineState). m.lines) begun.machine ∙ own-lines options.workload units ∙ sym (lines-by-kinds s.machine.units units kinds)

pub same-start : (Told : Type 0) (units : List UnitState) (words : List (List ℕ)) (options : Options) (s : CommandState) (o : Opening) (old mid : FileState) (lines : LineState) (whole : List LineAnswer) (input : List ℕ) (notes : List Note)
    → Begun Told units words options s o old mid → Told
    → beginning s (beyond mid.files lines whole) o input notes ≡ opening units words options s.keys (script_text o) old.files (ahead_of lines.told whole) input notes
unfolding beginning beginning_with session_with
same-start Told units words options s o old mid lines whole input notes begun told =
    let seen_lines = ap (λ (m : MachineState). map (seen_line lines) m.lines) begun.machine ∙ first-lines options.workload units lines in
    λ i. record {
      live = record {
        machine = erased (begun.machine i);
        watch = begun.watch i;
        keys = s.keys;
        files = begun.files told i;
        lines = seen_lines i;
        ahead = ahead_of lines.told whole;
      };
      notes = notes;
      spent = begun.command i;
      limit = begun.limit i;
      budget = begun.opens.budget i;
      texts = waiting_texts [] (begun.opens.scripts i);
      reads = begun.opens.reads i;
      prompt = begun.opens.prompt i;
      input = input;
      open_ = true;
    }

-- what came of a session, seen (beside as the program) lets it go
pub lines-told : (s t v : CommandState) (o : Opening) (old new : Beyond) (input left : List ℕ) (before after : Output) (finish : Finish) → v ≡ t → t.keys ≡ s.keys
    → Performed (λ (n : List Note). beginning s old o input n) finish (live_in t new) left before after (notes_said s.notes) (notes_said t.notes)
    → Performed (λ (n : List Note). beginning s old o input n) finish (seen (beside v.watch s.keys new.files new.lines) new.whole v.machine) left before after (notes_said s.notes) (notes_said v.notes)
lines-told s t v o old new input left before after finish view keys p =
    let left_off : CommandState → Type 0 =
    λ u. Performed (λ (n : List Note). beginning s old o input n) finish (live_in u new) left before after (notes_said s.notes) (notes_said u.notes) in
    let seen_keys : List Key → Type 0 =
    λ k. Performed (λ (n : List Note). beginning s old o input n) finish (seen (beside v.watch k new.files new.lines) new.whole v.machine) left before after (notes_said s.notes) (notes_said v.notes) in
    subst seen_keys (ap (λ (u : CommandState). u.keys) view ∙ keys) (subst left_off (sym view) p)

-- ---- what the session comes to

performed-session : (start : Session) (finish : Finish) (live : Live) (left : List ℕ) (before after : Output) → status_of finish ≢ 103 → IsPerformed start finish live left before after
    → IsSession start finish live left before after
performed-session start (Exit status) live left before after s h = h
performed-session start EndOfInput live left before after s h = h
performed-session start FlushFailed live left before after s h = h
performed-session start Commands live left before after s h = h
performed-session start Console live left before after s h = h
performed-session start Input live left before after s h = h
performed-session start OutOfMemory live left before after s h = absurd (s refl)

performed-short : (start : Session) (finish : Finish) (live : Live) (left : List ℕ) (before after : Output) → IsExitStatus finish → status_of finish ≡ 103 → IsPerformed start finish live left before after
    → RunsShort start live left before after
performed-short start (Exit status) live left before after small s h = absurd (omega (arith, small, s))
performed-short start EndOfInput live left before after small s h = absurd (omega (arith, s))
performed-short start FlushFailed live left before after small s h = absurd (omega (arith, s))
performed-short start Commands live left before after small s h = absurd (omega (arith, s))
performed-short start Console live left before after small s h = absurd (omega (arith, s))
performed-short start Input live left before after small s h = absurd (omega (arith, s))
performed-short start OutOfMemory live left before after small s h = h

-- the session that was begun is the one that the definition opens
at-opening : (Told : Type 0) (units : List UnitState) (words : List (List ℕ)) (options : Options) (s : CommandState) (o : Opening) (old mid : FileState) (lines : LineState) (whole : List LineAnswer) (input left : List ℕ) (before after : Output) (finish : Finish) (live : Live) (notes' : List Note)
    → Begun Told units words options s o old mid → Told
    → Performed (λ (n : List Note). beginning s (beyond mid.files lines whole) o input n) finish live left before after (notes_said s.notes) notes'
    → Performed (λ (n : List Note). opening units words options s.keys (script_text o) old.files (ahead_of lines.told whole) input n) finish live left before after (notes_said s.notes) notes'
at-opening Told units words options s o old mid lines whole input left before after finish live notes' begun told p =
    let by_start : (List Note → Session) → Type 0 = λ start. Performed start finish live left before after (notes_said s.notes) notes' in
    subst by_start (λ i (n : List Note). same-start Told units words options s o old mid lines whole input n begun told i) p

-- What a session came to that was begun with those files, and with what stands around it, to what stands around it now.
abbrev pub CameTo : CommandState → Opening → FileState → Beyond → Beyond → List ℕ → List ℕ → List ℕ → List ℕ → Finish → WatchState → MachineState → List Note → Type 0
CameTo s o mid old new input left before after finish watch now notes' =
    Performed (λ (n : List Note). beginning s (beyond mid.files old.lines old.whole) o input n) finish (seen (beside watch s.keys new.files new.lines) new.whole now) left
    (output before old.lines.sent) (output after new.lines.sent) (notes_said s.notes) notes'

pub performed-outcome : (Told : Type 0) (units : List UnitState) (words : List (List ℕ)) (options : Options) (s : CommandState) (o : Opening) (was mid : FileState) (lines : LineState) (whole : List LineAnswer) (new : Beyond) (input left before after : List ℕ) (finish : Finish) (watch : WatchState) (now : MachineState) (notes' : List Note)
    → options_of words ≡ Some options → Begun Told units words options s o was mid → Told → IsExitStatus finish → status_of finish ≢ 103
    → CameTo s o mid (beyond was.files lines whole) new input left before after finish watch now notes'
    → IsOutcome units words input left before after (beyond was.files lines whole) new (status_of finish) (Some now) notes'
performed-outcome Told units words options s o was mid lines whole new input left before after finish watch now notes' chosen begun told small other came =
    let old = beyond was.files lines whole in
    let ahead = ahead_of lines.told whole in
    let live = seen (beside watch s.keys new.files new.lines) new.whole now in
    let p = at-opening Told units words options s o was mid lines whole input left (output before lines.sent) (output after new.lines.sent) finish live notes' begun told came in
    let follow = follows units words options s.keys (script_text o) was.files ahead input p.own p.first in
    let start = ap (λ (c : Option Options). start_of c words was.files (notes_said s.notes ++ p.own)) chosen ∙ begun.starts told p.own follow in
    let session = performed-session (opening units words options s.keys (script_text o) was.files ahead input p.own) finish live left (output before lines.sent) (output after new.lines.sent) other p.is in
    subst (λ (n : List Note). IsOutcome units words input left before after old new (status_of finish) (Some now) n) (sym p.kept)
    (session-outcome units words options s.keys s.keys (script_text o) input left before after old new finish watch now (notes_said s.notes ++ p.own) p.own (length (notes_said s.notes)) start
    (drop-append_seam (notes_said s.notes) p.own) small session)

pub performed-cut : (Told : Type 0) (units : List UnitState) (words : List (List ℕ)) (options : Options) (s : CommandState) (o : Opening) (was mid : FileState) (lines : LineState) (whole : List LineAnswer) (new : Beyond) (input left before after : List ℕ) (finish : Finish) (watch : WatchState) (now : MachineState) (notes' : List Note)
    → options_of words ≡ Some options → Begun Told units words options s o was mid → Told → IsExitStatus finish → status_of finish ≡ 103
    → CameTo s o mid (beyond was.files lines whole) new input left before after finish watch now notes'
    → IsCutShort units words input left before after (beyond was.files lines whole) new (Some now) notes'
performed-cut Told units words options s o was mid lines whole new input left before after finish watch now notes' chosen begun told small memory came =
    let old = beyond was.files lines whole in
    let ahead = ahead_of lines.told whole in
    let live = seen (beside watch s.keys new.files new.lines) new.whole now in
    let p = at-opening Told units words options s o was mid lines whole input left (output before lines.sent) (output after new.lines.sent) finish live notes' begun told came in
    let follow = follows units words options s.keys (script_text o) was.files ahead input p.own p.first in
    let short = performed-short (opening units words options s.keys (script_text o) was.files ahead input p.own) finish live left (output before lines.sent) (output after new.lines.sent) small memory p.is in
    subst (λ (n : List Note). IsCutShort units words input left before after old new (Some now) n) (sym p.kept)
    (record {
      options = options;
      words_are = chosen;
      cut = inr (record {
        keys = s.keys;
        script = script_text o;
        used = length (notes_said s.notes);
        starts = begun.starts told p.own follow;
        live = live;
        is = refl;
        short = subst (λ (n : List Note). RunsShort (opening units words options s.keys (script_text o) was.files ahead input n) live left (output before lines.sent) (output after new.lines.sent))
            (sym (drop-append_seam (notes_said s.notes) p.own)) short;
      });
    })

-- the same at the names of the code
pub session-answer : (Told : Type 0) (units : List UnitState) (words : List (List ℕ)) (options : Options) (s : CommandState) (o : Opening) (was mid : FileState) (lines : LineState) (whole : List LineAnswer) (new : Beyond) (input left before after : List ℕ) (finish : Finish) (watch : WatchState) (now : MachineState) (status : ℕ) (machine : Option MachineState) (notes' : List Note)
    → options_of words ≡ Some options → Begun Told units words options s o was mid → Told → IsExitStatus finish → status ≡ status_of finish → machine ≡ Some now → status ≢ 103
    → CameTo s o mid (beyond was.files lines whole) new input left before after finish watch now notes'
    → IsOutcome units words input left before after (beyond was.files lines whole) new status machine notes'
session-answer Told units words options s o was mid lines whole new input left before after finish watch now status machine notes' chosen begun told small is there other came =
    let old = beyond was.files lines whole in
    subst (λ (m : Option MachineState). IsOutcome units words input left before after old new status m notes') (sym there)
    (subst (λ (n : ℕ). IsOutcome units words input left before after old new n (Some now) notes') (sym is)
    (performed-outcome Told units words options s o was mid lines whole new input left before after finish watch now notes' chosen begun told small (λ e. other (is ∙ e)) came))

pub memory-answer : (Told : Type 0) (units : List UnitState) (words : List (List ℕ)) (options : Options) (s : CommandState) (o : Opening) (was mid : FileState) (lines : LineState) (whole : List LineAnswer) (new : Beyond) (input left before after : List ℕ) (finish : Finish) (watch : WatchState) (now : MachineState) (status : ℕ) (machine : Option MachineState) (notes' : List Note)
    → options_of words ≡ Some options → Begun Told units words options s o was mid → Told → IsExitStatus finish → status ≡ status_of finish → machine ≡ Some now → status ≡ 103
    → CameTo s o mid (beyond was.files lines whole) new input left before after finish watch now notes'
    → IsCutShort units words input left before after (beyond was.files lines whole) new machine notes'
memory-answer Told units words options s o was mid lines whole new input left before after finish watch now status machine notes' chosen begun told small is there memory came =
    subst (λ (m : Option MachineState). IsCutShort units words input left before after (beyond was.files lines whole) new m notes') (sym there)
    (performed-cut Told units words options s o was mid lines whole new input left before after finish watch now notes' chosen begun told small (sym is ∙ memory) came)

-- ---- causes

-- one more fault is a rise
rose : (before now : ℕ) → now ≡ raised before → Rose before now
rose before now is = omega (arith, is)

-- a finish says whose fault it is, and no text refuses a session
finish-cause : (words : List (List ℕ)) (options : Options) (finish : Finish) (sink sink_now source source_now : ℕ) → options_of words ≡ Some options
    → FinishCause finish sink sink_now source source_now → StatusCause words (status_of finish) sink sink_now source source_now
finish-cause words options (Exit status) sink sink_now source source_now chosen c = record {
  usage = λ s. absurd (omega (arith, c.exit, s));
  bad_words = λ none. absurd (let both = sym chosen ∙ none in cc);
  unopened = λ s. absurd (omega (arith, c.exit, s));
  bad_keys = λ s. absurd (omega (arith, c.exit, s));
  console = λ s. absurd (omega (arith, c.exit, s));
  input = λ s. absurd (omega (arith, c.exit, s));
  console_only = λ _. c.console_only (λ e. cc);
  input_only = λ _. c.input_only (λ e. cc);
  listed = inl c.exit;
}
finish-cause words options EndOfInput sink sink_now source source_now chosen c = record {
  usage = λ s. absurd (omega (arith, s));
  bad_words = λ none. absurd (let both = sym chosen ∙ none in cc);
  unopened = λ s. absurd (omega (arith, s));
  bad_keys = λ s. absurd (omega (arith, s));
  console = λ s. absurd (omega (arith, s));
  input = λ s. absurd (omega (arith, s));
  console_only = λ _. c.console_only (λ e. cc);
  input_only = λ _. c.input_only (λ e. cc);
  listed = inl (omega arith);
}
finish-cause words options FlushFailed sink sink_now source source_now chosen c = record {
  usage = λ s. absurd (omega (arith, s));
  bad_words = λ none. absurd (let both = sym chosen ∙ none in cc);
  unopened = λ s. absurd (omega (arith, s));
  bad_keys = λ s. absurd (omega (arith, s));
  console = λ s. absurd (omega (arith, s));
  input = λ s. absurd (omega (arith, s));
  console_only = λ _. c.console_only (λ e. cc);
  input_only = λ _. c.input_only (λ e. cc);
  listed = inr (inr (inr (inr (inr (inr (inr (inr refl)))))));
}
finish-cause words options Commands sink sink_now source source_now chosen c = record {
  usage = λ s. absurd (omega (arith, s));
  bad_words = λ none. absurd (let both = sym chosen ∙ none in cc);
  unopened = λ s. absurd (omega (arith, s));
  bad_keys = λ s. absurd (omega (arith, s));
  console = λ s. absurd (omega (arith, s));
  input = λ s. absurd (omega (arith, s));
  console_only = λ _. c.console_only (λ e. cc);
  input_only = λ _. c.input_only (λ e. cc);
  listed = inr (inr (inr (inr (inr (inl refl)))));
}
finish-cause words options Console sink sink_now source source_now chosen c = record {
  usage = λ s. absurd (omega (arith, s));
  bad_words = λ none. absurd (let both = sym chosen ∙ none in cc);
  unopened = λ s. absurd (omega (arith, s));
  bad_keys = λ s. absurd (omega (arith, s));
  console = λ _. c.console refl;
  input = λ s. absurd (omega (arith, s));
  console_only = λ s. absurd (s refl);
  input_only = λ _. c.input_only (λ e. cc);
  listed = inr (inr (inr (inl refl)));
}
finish-cause words options Input sink sink_now source source_now chosen c = record {
  usage = λ s. absurd (omega (arith, s));
  bad_words = λ none. absurd (let both = sym chosen ∙ none in cc);
  unopened = λ s. absurd (omega (arith, s));
  bad_keys = λ s. absurd (omega (arith, s));
  console = λ s. absurd (omega (arith, s));
  input = λ _. c.input refl;
  console_only = λ _. c.console_only (λ e. cc);
  input_only = λ s. absurd (s refl);
  listed = inr (inr (inr (inr (inr (inr (inr (inl refl)))))));
}
finish-cause words options OutOfMemory sink sink_now source source_now chosen c = record {
  usage = λ s. absurd (omega (arith, s));
  bad_words = λ none. absurd (let both = sym chosen ∙ none in cc);
  unopened = λ s. absurd (omega (arith, s));
  bad_keys = λ s. absurd (omega (arith, s));
  console = λ s. absurd (omega (arith, s));
  input = λ s. absurd (omega (arith, s));
  console_only = λ _. c.console_only (λ e. cc);
  input_only = λ _. c.input_only (λ e. cc);
  listed = inr (inr (inr (inr (inl refl))));
}

pub session-cause : (words : List (List ℕ)) (options : Options) (finish : Finish) (status sink sink_now source source_now : ℕ) → options_of words ≡ Some options → status ≡ status_of finish
    → FinishCause finish sink sink_now source source_now → StatusCause words status sink sink_now source source_now
session-cause words options finish status sink sink_now source source_now chosen is c =
    subst (λ (n : ℕ). StatusCause words n sink sink_now source source_now) (sym is) (finish-cause words options finish sink sink_now source source_now chosen c)

-- a text that refuses was printed where the console did not fail
pub refused-status : (there status sink sink_now : ℕ) → RefusedCause there status sink sink_now → (Rose sink sink_now → ⊥) → status ≡ there
refused-status there status sink sink_now (inl h) a = h.0
refused-status there status sink sink_now (inr h) a = absurd (a (rose sink sink_now h.1))

-- ---- a file that is refused

refused-at : (units : List UnitState) (words : List (List ℕ)) (options : Options) (input before after : List ℕ) (old new : Beyond) (status_there status : ℕ) (text : List ℕ) (machine : Option MachineState) (kept : List Note)
    → options_of words ≡ Some options → StartsWith words options old.files kept (Refused status_there text) → machine ≡ None → new ≡ old → status_there ≢ 106
    → IsRefused status_there text status before after → IsOutcome units words input input before after old new status machine kept
refused-at units words options input before after old new status_there status text machine kept chosen starts none same other refused =
    let start = ap (λ (o : Option Options). start_of o words old.files kept) chosen
    ∙ ap (λ (n : List Note). start_of (Some options) words old.files n) (sym (append-nil kept)) ∙ starts [] tt in
    refused-outcome units words input before after old new status_there status text machine kept (length kept) start (drop-length kept) none same other refused

files-refused : (units : List UnitState) (words : List (List ℕ)) (options : Options) (input before after : List ℕ) (old new : Beyond) (refusal : Refusal) (status : ℕ) (machine : Option MachineState) (kept : List Note)
    → options_of words ≡ Some options → IfSome (denial_of words refusal) (λ (d : Denial). StartsWith words options old.files kept (denied d)) → machine ≡ None → new ≡ old → status ≢ 103
    → IsDenied (denial_of words refusal) status before after → IsOutcome units words input input before after old new status machine kept
files-refused units words options input before after old new (Unopened place) status machine kept chosen starts none same other refused =
    refused-at units words options input before after old new 101 status _ machine kept chosen starts none same (λ e. omega (arith, e)) refused
files-refused units words options input before after old new (BadKeys place) status machine kept chosen starts none same other refused =
    refused-at units words options input before after old new 105 status _ machine kept chosen starts none same (λ e. omega (arith, e)) refused
files-refused units words options input before after old new refusal.OutOfMemory status machine kept chosen starts none same other refused = absurd (other refused.0)

pub files-status : (words : List (List ℕ)) (refusal : Refusal) (status sink sink_now : ℕ) → DeniedCause (denial_of words refusal) status sink sink_now → (Rose sink sink_now → ⊥) → (status ≢ 102) × (status ≢ 106)
files-status words (Unopened place) status sink sink_now cause quiet = let is = refused-status 101 status sink sink_now cause quiet in (λ s. omega (arith, is, s), λ s. omega (arith, is, s))
files-status words (BadKeys place) status sink sink_now cause quiet = let is = refused-status 105 status sink sink_now cause quiet in (λ s. omega (arith, is, s), λ s. omega (arith, is, s))
files-status words refusal.OutOfMemory status sink sink_now cause quiet = let is = cause.0 in (λ s. omega (arith, is, s), λ s. omega (arith, is, s))

-- the same at the names of the code
pub files-answer : (units : List UnitState) (words : List (List ℕ)) (options : Options) (input before after : List ℕ) (old new : Beyond) (refusal : Refusal) (status : ℕ) (machine : Option MachineState) (items items' : List FaultNote)
    → options_of words ≡ Some options → IfSome (denial_of words refusal) (λ (d : Denial). StartsWith words options old.files (notes_said items) (denied d)) → machine ≡ None → new ≡ old → status ≢ 103
    → IsDenied (denial_of words refusal) status before after → items' ≡ items → IsOutcome units words input input before after old new status machine (notes_said items')
files-answer units words options input before after old new refusal status machine items items' chosen starts none same other refused same_items =
    subst (λ (l : List FaultNote). IsOutcome units words input input before after old new status machine (notes_said l)) (sym same_items)
    (files-refused units words options input before after old new refusal status machine (notes_said items) chosen starts none same other refused)

-- whose fault it was
denied-cause : (words : List (List ℕ)) (there status sink sink_now source : ℕ) → (there ≡ 101) ⊎ (there ≡ 105) → (there ≡ 101 → HasKeysFile words ⊎ HasScript words) → (there ≡ 105 → HasKeysFile words)
    → (options_of words ≡ None → ⊥) → RefusedCause there status sink sink_now → StatusCause words status sink sink_now source source
denied-cause words there status sink sink_now source which unopened bad_keys chosen (inl h) = record {
  usage = λ s. absurd (elim which [ inl a ↦ omega (arith, a, s, h.0) | inr b ↦ omega (arith, b, s, h.0) ]);
  bad_words = λ none. absurd (chosen none);
  unopened = λ s. unopened (sym h.0 ∙ s);
  bad_keys = λ s. bad_keys (sym h.0 ∙ s);
  console = λ s. absurd (elim which [ inl a ↦ omega (arith, a, s, h.0) | inr b ↦ omega (arith, b, s, h.0) ]);
  input = λ s. absurd (elim which [ inl a ↦ omega (arith, a, s, h.0) | inr b ↦ omega (arith, b, s, h.0) ]);
  console_only = λ _. h.1;
  input_only = λ _. refl;
  listed = elim which [ inl a ↦ inr (inr (inl (h.0 ∙ a))) | inr b ↦ inr (inr (inr (inr (inr (inr (inl (h.0 ∙ b))))))) ];
}
denied-cause words there status sink sink_now source which unopened bad_keys chosen (inr h) = record {
  usage = λ s. absurd (omega (arith, s, h.0));
  bad_words = λ none. absurd (chosen none);
  unopened = λ s. absurd (omega (arith, s, h.0));
  bad_keys = λ s. absurd (omega (arith, s, h.0));
  console = λ _. h.1;
  input = λ s. absurd (omega (arith, s, h.0));
  console_only = λ s. absurd (s h.0);
  input_only = λ _. refl;
  listed = inr (inr (inr (inl h.0)));
}

no-cause : (words : List (List ℕ)) (status sink sink_now source : ℕ) → (options_of words ≡ None → ⊥) → (status ≡ 103) × (sink_now ≡ sink) → StatusCause words status sink sink_now source source
no-cause words status sink sink_now source chosen h = record {
  usage = λ s. absurd (omega (arith, s, h.0));
  bad_words = λ none. absurd (chosen none);
  unopened = λ s. absurd (omega (arith, s, h.0));
  bad_keys = λ s. absurd (omega (arith, s, h.0));
  console = λ s. absurd (omega (arith, s, h.0));
  input = λ s. absurd (omega (arith, s, h.0));
  console_only = λ _. h.1;
  input_only = λ _. refl;
  listed = inr (inr (inr (inr (inl h.0))));
}

pub files-cause : (words : List (List ℕ)) (options : Options) (refusal : Refusal) (status sink sink_now source : ℕ) → options_of words ≡ Some options → RefusalCause words options refusal
    → DeniedCause (denial_of words refusal) status sink sink_now → StatusCause words status sink sink_now source source
files-cause words options (Unopened place) status sink sink_now source chosen cause denied =
    denied-cause words 101 status sink sink_now source (inl refl)
    (λ _. elim cause.1 [
      | inl k ↦ inl (record { options = options; words_are = chosen; named = k })
      | inr k ↦ inr (record { options = options; words_are = chosen; named = k })
    ])
    (λ e. absurd (omega (arith, e))) (λ none. let both = sym chosen ∙ none in cc) denied
files-cause words options (BadKeys place) status sink sink_now source chosen cause denied =
    denied-cause words 105 status sink sink_now source (inr refl) (λ e. absurd (omega (arith, e))) (λ _. record { options = options; words_are = chosen; named = cause })
    (λ none. let both = sym chosen ∙ none in cc) denied
files-cause words options refusal.OutOfMemory status sink sink_now source chosen cause denied =
    no-cause words status sink sink_now source (λ none. let both = sym chosen ∙ none in cc) denied

-- words outside their grammar
pub usage-answer : (units : List UnitState) (words : List (List ℕ)) (input before after : List ℕ) (old : Beyond) (status : ℕ) (machine : Option MachineState) (items : List FaultNote) → options_of words ≡ None → machine ≡ None → items ≡ []
    → IsRefused 100 usage_text status before after → IsOutcome units words input input before after old old status machine (notes_said items)
usage-answer units words input before after old status machine items chosen none nothing refused =
    let start = ap (λ (o : Option Options). start_of o words old.files (notes_said items)) chosen in
    refused-outcome units words input before after old old 100 status usage_text machine (notes_said items) 0 start (ap notes_said nothing) none refl (λ e. omega (arith, e)) refused

-- ---- notes

rose-some : (n before now : ℕ) → 1 ≤ n → RoseBy n before now → Rose before now
rose-some n before now some (later, inl rise) = omega (arith, later, rise, some)
rose-some n before now some (later, inr end) = omega (arith, later, end)

-- where no count rose, there is no note
pub no-notes : (items : List FaultNote) (old new : FileState) → AreCounted items old new → NoneFailed old new → items ≡ []
no-notes [] old new counted none = refl
no-notes (n ∷ items) old new counted none = absurd (by-file n.file refl)
  where
    by-file : (file : Option FileId) → n.file ≡ file → ⊥
    by-file None is =
        let one = ap (λ (f : Option FileId). one_if (is_opening f)) is in
        none.1 (rose-some (openings_noted (n ∷ items)) old.open_faults new.open_faults (omega (arith, one)) counted.openings)
    by-file (Some id) is =
        let one : one_if (is_of id.0 n.file) ≡ 1 = ap (λ (f : Option FileId). one_if (is_of id.0 f)) is ∙ ap one_if (eq-eqb id.0 id.0 refl) in
        none.0 id.0 (rose-some (noted id.0 (n ∷ items)) (old.faults id.0) (new.faults id.0) (omega (arith, one)) (counted.files id.0))

pub kept-counted : (most given_most : ℕ) (notes items : List FaultNote) (old mid new : FileState) → AddsNoted [] notes old mid → AreKept most given_most notes items mid new → AreCounted items old new
kept-counted most given_most notes items old mid new first second =
    let all = counted-both first.more second.kept old mid new first.counted second.counted in
    subst (λ (l : List FaultNote). AreCounted l old new) (sym (second.added ∙ ap (λ (l : List FaultNote). l ++ second.kept) first.added)) all

-- those of a file that was refused
pub refused-counted : (before notes items : List FaultNote) (old new : FileState) → before ≡ [] → items ≡ notes → AddsNoted before notes old new → AreCounted items old new
refused-counted before notes items old new none same kept =
    subst (λ (l : List FaultNote). AreCounted l old new) (sym (same ∙ kept.added ∙ ap (λ (l : List FaultNote). l ++ kept.more) none)) kept.counted

-- and each call that failed has its own, but for the closing of a file that was given back
pub kept-exact : (most given_most : ℕ) (notes items : List FaultNote) (machine : Option MachineState) (old mid new : FileState) → AddsNoted [] notes old mid
    → AreKept most given_most notes items mid new → IsTrue (is_some machine)
    → AreExact (is_some machine) items old new
kept-exact most given_most notes items machine old mid new first second there =
    let all = exact-both true first.more second.kept old mid new (exact-kept true first.more old mid first.exact) second.exact in
    subst (λ (b : Bool). AreExact b items old new) (sym there)
    (subst (λ (l : List FaultNote). AreExact true l old new) (sym (second.added ∙ ap (λ (l : List FaultNote). l ++ second.kept) first.added)) all)

pub no-exact : (items : List FaultNote) (machine : Option MachineState) (s : FileState) → items ≡ [] → AreExact (is_some machine) items s s
no-exact items machine s none = subst (λ (l : List FaultNote). AreExact (is_some machine) l s s) (sym none) (exact-none (is_some machine) s)

pub refused-exact : (before notes items : List FaultNote) (machine : Option MachineState) (old new : FileState) → before ≡ [] → items ≡ notes → AddsNoted before notes old new → machine ≡ None
    → AreExact (is_some machine) items old new
refused-exact before notes items machine old new none same kept never =
    subst (λ (m : Option MachineState). AreExact (is_some m) items old new) (sym never)
    (subst (λ (l : List FaultNote). AreExact false l old new) (sym (same ∙ kept.added ∙ ap (λ (l : List FaultNote). l ++ kept.more) none)) kept.exact)

pub complete-answer : (units : List UnitState) (words : List (List ℕ)) (input left before after : List ℕ) (old new : Beyond) (status : ℕ) (machine : Option MachineState) (items : List FaultNote) (was now : FileState)
    → (status ≢ 102) × (status ≢ 106) → AreCounted items was now → NoneFailed was now
    → IsOutcome units words input left before after old new status machine (notes_said items) → IsComplete units words input left before after old new status machine
complete-answer units words input left before after old new status machine items was now other counted none o =
    complete units words input left before after old new status machine other.0 other.1
    (subst (λ (l : List FaultNote). IsOutcome units words input left before after old new status machine (notes_said l)) (no-notes items was now counted none) o)

-- a status of the session that is no fault's
pub session-status : (words : List (List ℕ)) (status sink sink_now source source_now : ℕ) → StatusCause words status sink sink_now source source_now → (Rose sink sink_now → ⊥) → (Rose source source_now → ⊥)
    → (status ≢ 102) × (status ≢ 106)
session-status words status sink sink_now source source_now cause quiet fed = (λ s. quiet (rose sink sink_now (cause.console s)), λ s. fed (rose source source_now (cause.input s)))

-- ---- a disk that kept its file

pub unwritten-finish : (finish : Finish) (m : MachineState) (notes : List FaultNote) (old new : FileState) → IsExitStatus finish → status_of finish ≡ 107 → KeptCause finish m.slots notes old new
    → IsUnwritten m.slots notes old new
unwritten-finish FlushFailed m notes old new small is kept = kept
unwritten-finish (Exit status) m notes old new small is kept = absurd (omega (arith, small, is))
unwritten-finish EndOfInput m notes old new small is kept = absurd (omega (arith, is))
unwritten-finish Commands m notes old new small is kept = absurd (omega (arith, is))
unwritten-finish Console m notes old new small is kept = absurd (omega (arith, is))
unwritten-finish Input m notes old new small is kept = absurd (omega (arith, is))
unwritten-finish OutOfMemory m notes old new small is kept = absurd (omega (arith, is))

-- since before its files of the words were read
pub unwritten-whole : (machine : Option MachineState) (notes before before' : List FaultNote) (old mid new : FileState) → AddsNoted before before' old mid → KeptUnwritten machine notes mid new
    → KeptUnwritten machine notes old new
unwritten-whole None notes before before' old mid new a k = k
unwritten-whole (Some m) notes before before' old mid new a k = unwritten-since m.slots notes old mid new (λ file. (a.counted.files file).0) k

-- a refusal has another status
pub never-unwritten : (there status sink sink_now : ℕ) (machine : Option MachineState) (notes : List FaultNote) (old new : FileState) → RefusedCause there status sink sink_now → there ≤ 106 → status ≡ 107
    → KeptUnwritten machine notes old new
never-unwritten there status sink sink_now machine notes old new (inl h) low is = absurd (let h0 = h.0 in omega (arith, h0, low, is))
never-unwritten there status sink sink_now machine notes old new (inr h) low is = absurd (let h0 = h.0 in omega (arith, h0, is))

pub denied-unwritten : (words : List (List ℕ)) (refusal : Refusal) (status sink sink_now : ℕ) (machine : Option MachineState) (notes : List FaultNote) (old new : FileState)
    → DeniedCause (denial_of words refusal) status sink sink_now → status ≡ 107 → KeptUnwritten machine notes old new
denied-unwritten words (Unopened place) status sink sink_now machine notes old new h is = never-unwritten 101 status sink sink_now machine notes old new h (omega arith) is
denied-unwritten words (BadKeys place) status sink sink_now machine notes old new h is = never-unwritten 105 status sink sink_now machine notes old new h (omega arith) is
denied-unwritten words refusal.OutOfMemory status sink sink_now machine notes old new h is = absurd (let h0 = h.0 in omega (arith, h0, is))

-- ---- memory that ran out for a file

not-refused : (there status : ℕ) (text before after : List ℕ) → IsRefused there text status before after → there ≢ 103 → status ≢ 103
not-refused there status text before after (inl h) other is = let h0 = h.0 in other (sym h0 ∙ is)
not-refused there status text before after (inr h) other is = let h0 = h.0 in omega (arith, h0, is)

cut-before : (units : List UnitState) (words : List (List ℕ)) (options : Options) (input before after : List ℕ) (old new : Beyond) (machine : Option MachineState) (notes : List Note)
    → options_of words ≡ Some options → machine ≡ None → new ≡ old → after ≡ before → AreWordClosings notes
    → IsCutShort units words input input before after old new machine notes
cut-before units words options input before after old new machine notes chosen none same unprinted closings = record {
  options = options;
  words_are = chosen;
  cut = inl (record { none = none; unprinted = unprinted; unread = refl; unchanged = same; closings = closings });
}

pub files-memory : (units : List UnitState) (words : List (List ℕ)) (options : Options) (input before after : List ℕ) (old new : Beyond) (why : Refusal) (status : ℕ) (machine : Option MachineState) (notes : List Note)
    → options_of words ≡ Some options → machine ≡ None → new ≡ old → status ≡ 103 → IsDenied (denial_of words why) status before after
    → (why ≡ refusal.OutOfMemory → AreWordClosings notes)
    → IsCutShort units words input input before after old new machine notes
files-memory units words options input before after old new (Unopened place) status machine notes chosen none same is denied closings =
    absurd (not-refused 101 status _ before after denied (λ e. omega (arith, e)) is)
files-memory units words options input before after old new (BadKeys place) status machine notes chosen none same is denied closings =
    absurd (not-refused 105 status _ before after denied (λ e. omega (arith, e)) is)
files-memory units words options input before after old new refusal.OutOfMemory status machine notes chosen none same is denied closings =
    cut-before units words options input before after old new machine notes chosen none same denied.1 (closings refl)

-- ---- a workload

some-given : (o : Option ℕ) → IsSome o → is_none o ≡ false
some-given (Some number) given = refl
some-given None given = sym given

-- a workload that is among the words is that of their options
pub workload-given : (words : List (List ℕ)) (options : Options) → options_of words ≡ Some options → HasWorkload words → is_none options.workload ≡ false
workload-given words options is given =
    let both : Some options ≡ Some given.options = sym is ∙ given.words_are in
    let same : options ≡ given.options = cc in
    ap (λ (o : Options). is_none o.workload) same ∙ some-given given.options.workload given.given
