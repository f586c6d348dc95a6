-- A file that is read or written whole by a command: which of the command's notes are of it, what is answered, and the
-- notes that are kept of its calls that failed.
use Rattle.std.specs.Prelude.{ℕ, ◌==◌, ◌&&◌, Bool, List, [], ◌∷◌, ◌++◌, map, take_while, Option, Some, None}
use Rattle.std.specs.Prelude.{Result, Ok, Err}
use Rattle.std.specs.Global.{Vec}
use Rattle.file_traits.specs.declared.files.FileCall.{FileCall}
use Rattle.file_commands.specs.declared.note.Subject.{Subject}
use Rattle.file_commands.specs.declared.note.FaultNote.{FaultNote}
use Rattle.file_commands.specs.Notes.{CommandNote, same_subject}
use Rattle.file_commands.specs.declared.stamp.Stamp.{Stamp}
use Rattle.whole_files.specs.declared.whole.FailedCall.{FailedCall}
use Rattle.whole_files.specs.declared.whole.Whole.{Whole}
use Rattle.whole_files.specs.declared.whole.WholeFault.{WholeFault}
use Rattle.whole_files.specs.declared.writing.Written.{Written}
use Rattle.whole_files.specs.Whole.{WholeSaid, WholeIs, NotThere, TooLong, CallFailed}
use Rattle.whole_files.specs.Writing.{FailingCall, WriteSaid, AllWritten, WriteFailed}
use Rattle.command_session.specs.declared.next.Next.TheVariants.{Go}
use Rattle.command_session.specs.declared.fault.CommandFault.TheVariants.{NoFile, FileTooLong, FileFailed}
use Rattle.command_session.specs.FaultText.{whole_fault}
use Rattle.command_session.specs.Reply.{Answer}

-- ---- the calls that fail

-- those of a subject stand first among the notes of its command
abbrev pub is_of_whole : Subject → ℕ → CommandNote → Bool
is_of_whole whose time n = (n.time == time) && same_subject n.subject whose

abbrev pub whole_calls : Subject → ℕ → List CommandNote → List FileCall
whole_calls whose time notes = map (λ (n : CommandNote). n.failure.call) (take_while (is_of_whole whose time) notes)

-- the same with what each had written
abbrev pub write_calls : Subject → ℕ → List CommandNote → List FailingCall
write_calls whose time notes =
    map (λ (n : CommandNote). (n.failure.call, n.failure.done))
    (take_while (is_of_whole whose time) notes)

-- ---- what is answered

-- of a file that was to be read: what its bytes come to, or why there are none
abbrev pub said_answer : Subject → (List ℕ → Answer) → WholeSaid → Answer
said_answer whose comes_to (WholeIs bytes) = comes_to bytes
said_answer whose comes_to NotThere = Err NoFile
said_answer whose comes_to TooLong = Err FileTooLong
said_answer whose comes_to CallFailed = Err (FileFailed whose)

-- the same of what a reading answered
abbrev pub whole_answer : Subject → (List ℕ → Answer) → Result (Vec ℕ) WholeFault → Answer
whole_answer whose comes_to (Ok v) = comes_to v.items
whole_answer whose comes_to (Err why) = Err (whole_fault whose why)

-- of a file that was to be written
abbrev pub wrote_answer : Subject → WriteSaid → Answer
wrote_answer whose AllWritten = Ok Go
wrote_answer whose WriteFailed = Err (FileFailed whose)

abbrev pub written_answer : Subject → Result (Unit {0}) WholeFault → Answer
written_answer whose (Ok u) = Ok Go
written_answer whose (Err why) = Err (whole_fault whose why)

-- ---- the notes that are kept

-- the note of a call that failed, which had written so many bytes
abbrev pub call_note : Subject → Stamp → ℕ → FailedCall → FaultNote
call_note whose stamp done f =
    record { command = stamp.command; time = stamp.time; subject = whose; file = f.file; call = f.call; done = done }

abbrev pub call_notes : Subject → Stamp → ℕ → Option FailedCall → List FaultNote
call_notes whose stamp done None = []
call_notes whose stamp done (Some f) = call_note whose stamp done f ∷ []

-- those of a file, of which one call may have failed before the closing
abbrev pub both_notes : Subject → Stamp → ℕ → Option FailedCall → Option FailedCall → List FaultNote
both_notes whose stamp done failed closing = call_notes whose stamp done failed ++ call_notes whose stamp 0 closing

abbrev pub read_notes : Subject → Stamp → Whole → List FaultNote
read_notes whose stamp w = both_notes whose stamp 0 w.failed w.closing

abbrev pub write_notes : Subject → Stamp → Written → List FaultNote
write_notes whose stamp w = both_notes whose stamp w.done w.failed w.closing
