-- What stands behind a command for which memory ran out.
use Rattle.std.proofs.Common.{◌≡◌, ℕ, Bool, IsTrue, List, [], ◌∷◌, ◌++◌, Option, Some, None, refl, ap, sym, ◌∙◌, subst, append-nil}
use Rattle.std.specs.List.{AllByRecursion}
use Rattle.unit_files.specs.Attachments.{Held}
use Rattle.file_commands.specs.declared.note.Subject.{Subject}
use Rattle.file_commands.specs.declared.note.FaultNote.{FaultNote}
use Rattle.file_commands.specs.Notes.{Note, notes_said}
use Rattle.scp_parser.specs.Command.{Request, Do, Load, Restore}
use Rattle.command_session.specs.declared.fault.CommandFault.{CommandFault}
use Rattle.command_session.specs.declared.fault.CommandFault.TheVariants as fault
use Rattle.nova_machine.specs.Comes.{Output}
use Rattle.command_session.specs.Live.{Live}
use Rattle.command_session.specs.Asked.{Asked}
use Rattle.command_session.specs.FaultText.{fault_text}
use Rattle.command_session.specs.Remains.{reader_of}
use Rattle.command_session.specs.Doing.{says_files, IsShutNote, NotesRemain}
use Rattle.command_session.proofs.CloseLemmas.{said-append}
use Rattle.scp_script.specs.declared.progress.Progress.{Progress}
use Rattle.scp_script.specs.declared.progress.Progress.TheVariants.{GoesOn, IsOver}
use Rattle.scp_script.specs.declared.progress.Finish.TheVariants.{Exit, EndOfInput, FlushFailed, Commands, Console, Input, OutOfMemory}
use Rattle.scp_script.specs.Loop.{AreClosings, StandsShort, IsShort, Complains, Denies}
use Rattle.command_session.specs.Nature.{nature}
use Rattle.scp_script.specs.Used.{FilesTold}
use Rattle.scp_script.proofs.TextLemmas.{same-output}

-- where the files that a command uses are told, it is said that all are as they were
pub says : (tells : Bool) (request : Request) (slots : List (Option Held)) → FilesTold (nature request).telling tells slots → IsTrue (says_files tells request)
says tells (Do echo strict name arguments) slots told = told
says tells (Load name) slots told = told
says tells (Restore force name) slots told = told
says tells request slots told = refl

same-behind : (before more own : List Note) → before ++ more ≡ before ++ own → more ≡ own
same-behind [] more own same = same
same-behind (n ∷ before) more own same = let rest : before ++ more ≡ before ++ own = cc in same-behind before more own rest

-- its notes are those of the closing
pub short-notes : (reads : Option Subject) (number time : ℕ) (notes notes' : List FaultNote) (own : List Note) → NotesRemain reads number time notes notes'
    → notes_said notes' ≡ notes_said notes ++ own → AreClosings reads number own
short-notes None number time notes notes' own same is =
    sym (same-behind (notes_said notes) [] own (append-nil (notes_said notes) ∙ sym (ap notes_said same) ∙ is))
short-notes (Some who) number time notes notes' own (kept, added, all) is =
    subst (λ (l : List Note). AreClosings (Some who) number l)
    (same-behind (notes_said notes) (notes_said kept) own (sym (ap notes_said added ∙ said-append notes kept) ∙ is))
    (closed kept all)
  where
    closed : (kept : List FaultNote) → AllByRecursion (IsShutNote who number time) kept → AreClosings (Some who) number (notes_said kept)
    closed [] all = tt
    closed (n ∷ kept) all = ((all.0.0.0, all.0.1.0, all.0.1.1), closed kept all.1)

-- an answer by a text is not for want of memory
complained-short : (what : Asked) (number : ℕ) (result : Progress) (tells : Bool) (old new : Live) (own : List Note) (before mid after : Output) (text : List ℕ)
    → Complains tells mid.console text result after.console → IsShort what number result old new own before after
complained-short what number GoesOn tells old new own before mid after text told = tt
complained-short what number (IsOver OutOfMemory) tells old new own before mid after text told = absurd told
complained-short what number (IsOver (Exit status)) tells old new own before mid after text told = tt
complained-short what number (IsOver EndOfInput) tells old new own before mid after text told = tt
complained-short what number (IsOver FlushFailed) tells old new own before mid after text told = tt
complained-short what number (IsOver Commands) tells old new own before mid after text told = tt
complained-short what number (IsOver Console) tells old new own before mid after text told = tt
complained-short what number (IsOver Input) tells old new own before mid after text told = tt

-- what stands behind a command that was refused, where it was for that
pub refused-short : (what : Asked) (number : ℕ) (why : CommandFault) (result : Progress) (tells : Bool) (old new : Live) (own : List Note) (before mid after : Output) (sink sink_now : ℕ)
    → (why ≡ fault.OutOfMemory → StandsShort what old new × AreClosings (reader_of what) number own × (mid ≡ before))
    → after.heard ≡ mid.heard → Denies why tells result mid.console after.console sink sink_now → IsShort what number result old new own before after
refused-short what number fault.OutOfMemory result tells old new own before mid after sink sink_now left heard told =
    let all = left refl in
    subst (λ (p : Progress). IsShort what number p old new own before after) (sym told.0) (all.0, all.1, same-output after mid told.1 heard ∙ all.2)
refused-short what number fault.Console result tells old new own before mid after sink sink_now left heard told =
    subst (λ (p : Progress). IsShort what number p old new own before after) (sym told.0) tt
refused-short what number why result tells old new own before mid after sink sink_now left heard told =
    complained-short what number result tells old new own before mid after (fault_text why) told.0
