-- Files that were attached are given back, the last one first.
use Rattle.std.specs.List.{AllByRecursion}
use Rattle.std.specs.Prelude.{◌≡◌, ◌≢◌, ◌≤◌, ℕ, false, IsTrue, is_some, List, [], ◌∷◌, Option, Some}
use Rattle.std.specs.Prelude.{if◌then◌else◌}
use Rattle.file_traits.specs.State.{FileState}
use Rattle.unit_files.specs.Attachments.{Attachment, Held, held_at, attachment_at, is_disk}
use Rattle.unit_files.specs.Acts.{detached}
use Rattle.unit_files.specs.Buffer.{Buffer, no_buffer}
use Rattle.saved_session.specs.Parts.{FilePart}
use Rattle.saved_session.specs.Ranges.{kind_at}
use Rattle.saved_files.specs.Putting.{unit_of}

-- the unit of a file has one
abbrev pub IsHeldIn : List (Option Attachment) → FilePart → Type 0
IsHeldIn attached f = IsTrue (is_some (attachment_at attached (unit_of f)))

-- a file is not the disk's
abbrev pub IsNoDisk : FilePart → Type 0
IsNoDisk f = is_disk (kind_at f.position) ≡ false

-- what is attached once the units of these files have none
abbrev pub without_all : List (Option Attachment) → List FilePart → List (Option Attachment)
without_all attached [] = attached
without_all attached (f ∷ fs) = detached (unit_of f) (without_all attached fs)

-- the disk's copy then
abbrev pub copy_behind : Buffer → List FilePart → Buffer
copy_behind disk [] = disk
copy_behind disk (f ∷ fs) = if is_disk (kind_at f.position) then no_buffer else copy_behind disk fs

-- the unit of a file has another open file than this one
abbrev pub IsNotItsFile : List (Option Held) → ℕ → FilePart → Type 0
IsNotItsFile slots file f = (h : Held) → held_at slots (unit_of f) ≡ Some h → file ≢ h.file

-- no count but those of the files that the units of these had has changed, and none has fallen
pub record OnlyTheirCounts (slots : List (Option Held)) (fs : List FilePart) (old new : FileState) : Type 0 where
  pub others : (file : ℕ) → AllByRecursion (IsNotItsFile slots file) fs → new.faults file ≡ old.faults file
  pub later : (file : ℕ) → old.faults file ≤ new.faults file
  pub openings : new.open_faults ≡ old.open_faults
  pub ids : new.given ≡ old.given
