-- How much a call that failed can have written.
use Rattle.std.specs.Prelude.{◌≡◌, ℕ, ◌≤◌, if◌then◌else◌}
use Rattle.file_traits.specs.declared.files.FileCall.{FileCall}
use Rattle.file_traits.specs.declared.files.FileCall.TheVariants.{Write}
use Rattle.unit_trait.specs.declared.kind.Kind.{Kind}
use Rattle.unit_files.specs.Attachments.{is_disk}
use Rattle.unit_files.specs.Buffer.{disk_bytes}
use Rattle.file_commands.specs.declared.note.Subject.{Subject}
use Rattle.file_commands.specs.declared.note.Subject.TheVariants as subject
use Rattle.file_commands.specs.declared.note.FaultNote.{FaultNote}

-- A write for the disk is of its copy. One for another unit is that of a run: at most the longest block of a tape.
abbrev pub most_written : Kind → ℕ
most_written kind = if is_disk kind then disk_bytes else 8200

-- One of DUMP is of a tape that has at most all words of the largest memory.
abbrev pub IsWritten : Subject → ℕ → Type 0
IsWritten (subject.Unit unit) done = done ≤ most_written unit.kind
IsWritten subject.Dump done = done ≤ 77830
IsWritten who done = Unit {0}

-- every other call has written nothing
abbrev pub MayHaveWritten : FileCall → Subject → ℕ → Type 0
MayHaveWritten Write who done = IsWritten who done
MayHaveWritten call who done = done ≡ 0

abbrev pub IsPossible : FaultNote → Type 0
IsPossible n = MayHaveWritten n.call n.subject n.done
