-- The notes that commands on the files of units keep.
use Rattle.std.specs.Prelude.{◌≡◌, ◌⊎◌, ℕ, Bool, IsTrue, List, [], ◌∷◌, Option, Some, None, Result, Ok, Err}
use Rattle.fault_counts.specs.Faults.{Rose}
use Rattle.file_traits.specs.declared.files.FileCall.TheVariants.{Opening, Length, Read}
use Rattle.file_traits.specs.State.{FileState}
use Rattle.unit_trait.specs.declared.kind.UnitName.{UnitName}
use Rattle.unit_files.specs.declared.faults.UnitFault.{UnitFault}
use Rattle.unit_files.specs.declared.faults.AttachFault.{AttachFault}
use Rattle.unit_files.specs.declared.faults.AttachFault.TheVariants as attach
use Rattle.unit_files.specs.declared.faults.DetachFault.{DetachFault}
use Rattle.unit_files.specs.declared.faults.DetachFault.TheVariants as detach
use Rattle.unit_files.specs.Attachments.{is_disk}
use Rattle.unit_files.specs.Answers.{failure_in}
use Rattle.file_commands.specs.declared.note.Subject.TheVariants as subject
use Rattle.file_commands.specs.declared.note.FaultNote.{FaultNote}
use Rattle.file_commands.specs.Notes.{CommandNote}
use Rattle.file_commands.specs.declared.stamp.Stamp.{Stamp}

-- the note of a failed call on a unit's file
abbrev pub fault_note : Stamp → UnitFault → FaultNote
fault_note stamp f = record { command = stamp.command; time = stamp.time; subject = subject.Unit f.unit; file = f.file; call = f.call; done = f.done }

-- the same as a command's own
abbrev pub own_note : ℕ → UnitFault → CommandNote
own_note time f = record { time = time; subject = subject.Unit f.unit; failure = failure_in f }

-- the fault that an attaching answers, and that of a detaching
abbrev pub fault_of_attach : Result ℕ AttachFault → Option UnitFault
fault_of_attach (Err (attach.Failed f)) = Some f
fault_of_attach result = None

abbrev pub fault_of_detach : Result (Option UnitFault) DetachFault → Option UnitFault
fault_of_detach (Ok fault) = fault
fault_of_detach (Err (detach.Failed f)) = Some f
fault_of_detach (Err detach.NotAttached) = None

-- the notes that are kept for it
abbrev pub kept_of : Stamp → Option UnitFault → List FaultNote
kept_of stamp None = []
kept_of stamp (Some f) = fault_note stamp f ∷ []

abbrev pub own_of : ℕ → Option UnitFault → List CommandNote
own_of time None = []
own_of time (Some f) = own_note time f ∷ []

-- A call that fails while a file is attached is that unit's, and it is an opening, or it asks for the length; or it is
-- a read of the disk's.
pub record IsAttachFault (unit : UnitName) (f : UnitFault) : Type 0 where
  pub unit_is : f.unit ≡ unit
  pub call_is : (f.call ≡ Opening) ⊎ (f.call ≡ Length) ⊎ ((f.call ≡ Read) × IsTrue (is_disk unit.kind))

-- where names are not told, a file is missing only where the count of openings rose
abbrev pub MissingCause : Bool → Result ℕ AttachFault → FileState → FileState → Type 0
MissingCause tells (Err attach.NoFile) old new = (IsTrue tells → ⊥) → Rose old.open_faults new.open_faults
MissingCause tells result old new = Unit {0}

-- a unit that holds nothing of its file has none that could fail to be written
abbrev pub HoldsNothing : Result (Option UnitFault) DetachFault → Type 0
HoldsNothing (Err (detach.Failed f)) = ⊥
HoldsNothing result = Unit {0}
