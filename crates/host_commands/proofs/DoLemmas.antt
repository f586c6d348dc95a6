-- What DO comes to, and why.
use Rattle.std.proofs.Common.{◌≡◌, ℕ, Bool, List, ◌++◌, length, Option, Some, None, IfSome}
use Rattle.file_commands.specs.declared.note.Subject.TheVariants as subject
use Rattle.file_commands.specs.declared.note.FaultNote.{FaultNote}
use Rattle.file_commands.specs.Notes.{CommandNote, notes_said}
use Rattle.whole_files.specs.declared.whole.Whole.{Whole}
use Rattle.whole_files.specs.Whole.{WholeSaid, whole_act}
use Rattle.whole_files.specs.Claims.{said_of, claimed}
use Rattle.nova_machine.specs.Comes.{Output}
use Rattle.command_session.specs.Live.{Live}
use Rattle.command_session.specs.Reply.{Answer}
use Rattle.host_commands.specs.DoEffects.{script_of, do_reply}
use Rattle.command_session.specs.WholeCalls.{whole_answer, read_notes}
use Rattle.command_session.specs.Doing.{Did}
use Rattle.command_session.proofs.WholeLemmas.{script-is, read-did}

pub do-did : (number : ℕ) (live new : Live) (echo strict : Bool) (name : List ℕ) (w : Whole) (answer : Answer) (tells : Bool)
    (text : Output) (notes notes' : List FaultNote) → answer ≡ whole_answer subject.Script (script_of echo strict) w.bytes
    → new ≡ live
    → IfSome (said_of w) (λ (said : WholeSaid). whole_act (claimed w) name live.files ≡ (said, length (claimed w)))
    → notes' ≡ notes ++ read_notes subject.Script (record { command = number; time = live.machine.time }) w
    → Did (λ (own : List CommandNote). do_reply own live echo strict name) number answer new tells text text (notes_said notes) (notes_said notes')
unfolding do_reply
do-did number live new echo strict name w answer tells text notes notes' answered same told noted =
    read-did subject.Script (script_of echo strict) (λ (said : WholeSaid). live) number live.machine.time new name live.files w answer
    tells text notes notes' script-is (λ bytes. tt) answered (if-said (said_of w)) told noted
  where
    if-said : (o : Option WholeSaid) → IfSome o (λ (said : WholeSaid). new ≡ live)
    if-said None = tt
    if-said (Some said) = same
