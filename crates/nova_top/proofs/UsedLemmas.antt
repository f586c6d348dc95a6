-- What the program uses of files and lines is what its session uses, and the files that its words name.
use Rattle.std.proofs.Common.{◌≡◌, ◌⊎◌, inl, inr, ℕ, Bool, IsTrue, List, [], ◌++◌, length, Option, Some, ap, sym, ◌∙◌, subst}
use Rattle.std.proofs.Math.Seq.{drop-append_seam}
use Rattle.file_traits.specs.State.{FileState}
use Rattle.host_lines.specs.Told.{ahead_of}
use Rattle.host_lines.specs.State.{LineState}
use Rattle.file_commands.specs.Notes.{Note, notes_said}
use Rattle.command_session.specs.Live.{CommandState, beyond}
use Rattle.command_words.specs.declared.options.Options.{Options}
use Rattle.command_words.specs.Words.{options_of}
use Rattle.scp_script.specs.declared.perform_session.Opening.{Opening}
use Rattle.scp_script.specs.Session.{Session, ComesTo}
use Rattle.scp_script.specs.Loop.{MayFollow}
use Rattle.scp_script.specs.Perform.{beginning}
use Rattle.scp_script.specs.Used.{CourseTold}
use Rattle.program_start.specs.Start.{start_of}
use Rattle.nova_top.specs.Outside.{opening}
use Rattle.nova_top.specs.Program.{script_text}
use Rattle.nova_top.specs.Ends.{HasKeysFile, HasScript}
use Rattle.nova_top.specs.Used.{ProgramTold}
use Rattle.program_start.specs.WordFiles.{NamesTold}
use Rattle.nova_top.proofs.ProgramLemmas.{Begun, follows, same-start}
use Rattle.unit_trait.specs.Calls.{UnitState}

-- ---- the files of the words

pub words-named : (tells : Bool) (words : List (List ℕ)) (options : Options) → options_of words ≡ Some options → (HasKeysFile words ⊎ HasScript words → IsTrue tells) → NamesTold tells options
unfolding NamesTold
words-named tells words options chosen told = λ some. elim some [
  | inl keys ↦ told (inl (record { options = options; words_are = chosen; named = keys }))
  | inr script ↦ told (inr (record { options = options; words_are = chosen; named = script }))
]

-- ---- the session

pub course-told : (files lines : Bool) (Told : Type 0) (units : List UnitState) (words : List (List ℕ)) (options : Options) (s : CommandState) (o : Opening) (was mid : FileState) (l : LineState) (input : List ℕ) → options_of words ≡ Some options
    → Begun Told units words options s o was mid → Told → ProgramTold files lines units words input was.files l
    → CourseTold files lines (λ whole notes. beginning s (beyond mid.files l whole) o input notes)
course-told files lines Told units words options s o was mid l input chosen begun told used whole notes follow count made at comes =
    let ahead = ahead_of l.told whole in
    let kept = notes_said s.notes in
    let start : List Note → Session = λ n. opening units words options s.keys (script_text o) was.files ahead input n in
    let same = λ (n : List Note). same-start Told units words options s o was mid l whole input n begun told in
    let first = follows units words options s.keys (script_text o) was.files ahead input notes (subst (λ (x : Session). MayFollow x.spent x.live notes) (same []) follow) in
    used.texts whole (kept ++ notes) made at (record {
      options = options;
      keys = s.keys;
      script = script_text o;
      used = length kept;
      count = count;
      starts = ap (λ (c : Option Options). start_of c words was.files (kept ++ notes)) chosen ∙ begun.starts told notes first;
      comes = subst (λ (x : Session). ComesTo count x made at) (same notes ∙ ap start (sym (drop-append_seam kept notes))) comes;
    })
