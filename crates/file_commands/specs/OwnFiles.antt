-- The files that kept notes name, also where files tell nothing.
use Rattle.std.specs.Prelude.{◌≡◌, ◌⊎◌, ℕ, ◌≤◌, List, ◌++◌, Option, Some, None}
use Rattle.std.specs.List.{AllByRecursion}
use Rattle.file_traits.specs.declared.files.FileCall.{FileCall}
use Rattle.file_traits.specs.declared.files.FileCall.TheVariants.{Opening}
use Rattle.file_traits.specs.declared.files.FileId.{FileId}
use Rattle.file_traits.specs.State.{FileState}
use Rattle.unit_files.specs.Attachments.{Held, held_at}
use Rattle.unit_files.specs.Causes.{IsNewId, AreFrom}
use Rattle.file_commands.specs.declared.note.Subject.{Subject}
use Rattle.file_commands.specs.declared.note.Subject.TheVariants as subject
use Rattle.file_commands.specs.declared.note.FaultNote.{FaultNote}

-- the file with that number is attached to the unit that a note is of
abbrev pub IsHeldBy : List (Option Held) → Subject → ℕ → Type 0
IsHeldBy slots (subject.Unit unit) file = (h : Held) × (held_at slots unit ≡ Some h) × (h.file ≡ file)
IsHeldBy slots who file = ⊥

-- a call has no file exactly where it is an opening; and else it is one of the unit's own file, or of one that was
-- opened since
abbrev pub OwnFile : Option FileId → FileCall → Subject → List (Option Held) → FileState → FileState → Type 0
OwnFile None call who slots old new = call ≡ Opening
OwnFile (Some id) call who slots old new = (call ≡ Opening → ⊥) × (IsHeldBy slots who id.0 ⊎ IsNewId old new id.0)

abbrev pub IsOwnNote : List (Option Held) → FileState → FileState → FaultNote → Type 0
IsOwnNote slots old new n = OwnFile n.file n.call n.subject slots old new

-- The notes that were kept are of own files, by what was attached before; and what is attached now was so before, or
-- was opened since. So it can be said of calls one behind another.
pub record AreOwn (slots slots' : List (Option Held)) (notes notes' : List FaultNote) (old new : FileState) : Type 0 where
  pub kept : List FaultNote
  pub added : notes' ≡ notes ++ kept
  pub own : AllByRecursion (IsOwnNote slots old new) kept
  pub from : AreFrom slots slots' old new
  pub ids : old.given ≤ new.given
