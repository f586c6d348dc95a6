-- An open file is read whole.
use Rattle.std.specs.Prelude.{◌≡◌, ◌≢◌, ℕ, ◌<◌, ◌≤◌, List, length}
use Rattle.std.specs.Prelude.{Option, Some, None, Result, Ok, Err}
use Rattle.std.specs.Global.{Vec}
use Rattle.file_traits.specs.declared.files.FileCall.TheVariants.{Opening, Length, Read, Closing}
use Rattle.file_traits.specs.declared.files.FileId.{FileId}
use Rattle.file_traits.specs.declared.files.OpenFault.{OpenFault}
use Rattle.file_traits.specs.declared.files.OpenFault.TheVariants as opening
use Rattle.file_traits.specs.State.{FileState}
use Rattle.whole_files.specs.declared.reading.Refusal.{Refusal}
use Rattle.whole_files.specs.declared.reading.Refusal.TheVariants as refusal
use Rattle.whole_files.specs.declared.whole.FailedCall.{FailedCall}
use Rattle.whole_files.specs.declared.whole.WholeFault.{WholeFault}
use Rattle.whole_files.specs.declared.whole.WholeFault.TheVariants as fault
use Rattle.whole_files.specs.Whole.{longest_file}
use Rattle.whole_files.specs.Claims.{raised_by}

-- what may be answered of a file with these bytes
abbrev pub IsRead : List ℕ → Result (Vec ℕ) Refusal → Type 0
IsRead bytes (Ok v) = (length bytes ≤ longest_file) × (v.items ≡ bytes)
IsRead bytes (Err refusal.TooLong) = longest_file < length bytes
IsRead bytes (Err refusal.OutOfMemory) = length bytes ≤ longest_file
IsRead bytes (Err refusal.LengthFailed) = Unit {0}
IsRead bytes (Err refusal.ReadFailed) = (length bytes ≤ longest_file) × (0 < length bytes)

-- how many calls have failed
abbrev pub failures : Result (Vec ℕ) Refusal → ℕ
failures (Ok v) = 0
failures (Err refusal.TooLong) = 0
failures (Err refusal.OutOfMemory) = 0
failures (Err refusal.LengthFailed) = 1
failures (Err refusal.ReadFailed) = 1

-- so many calls on one file have failed: its count has risen by so much, no other has changed, and no id was given
pub record Fails (file times : ℕ) (old new : FileState) : Type 0 where
  pub counts : new.faults file ≡ raised_by times (old.faults file)
  pub others : (other : ℕ) → other ≢ file → new.faults other ≡ old.faults other
  pub openings : new.open_faults ≡ old.open_faults
  pub ids : new.given ≡ old.given

-- what is answered in the end, and the failing call that is claimed
abbrev pub answer_of : Result (Vec ℕ) Refusal → Result (Vec ℕ) WholeFault
answer_of (Ok v) = Ok v
answer_of (Err refusal.TooLong) = Err fault.TooLong
answer_of (Err refusal.OutOfMemory) = Err fault.OutOfMemory
answer_of (Err refusal.LengthFailed) = Err fault.Failed
answer_of (Err refusal.ReadFailed) = Err fault.Failed

abbrev pub failure_of : FileId → Result (Vec ℕ) Refusal → Option FailedCall
failure_of file (Err refusal.LengthFailed) = Some (record { file = Some file; call = Length })
failure_of file (Err refusal.ReadFailed) = Some (record { file = Some file; call = Read })
failure_of file read = None

-- a closing of the file, where it failed
abbrev pub IsClosing : FileId → Option FailedCall → Type 0
IsClosing file None = Unit {0}
IsClosing file (Some c) = c ≡ record { file = Some file; call = Closing }

abbrev pub failure_count : Option FailedCall → ℕ
failure_count None = 0
failure_count (Some c) = 1

-- the answer where no file was opened
abbrev pub fault_of_opening : OpenFault → WholeFault
fault_of_opening opening.NoFile = fault.NoFile
fault_of_opening opening.Failed = fault.Failed
fault_of_opening opening.OutOfMemory = fault.OutOfMemory

abbrev pub failed_opening : OpenFault → Option FailedCall
failed_opening opening.Failed = Some (record { file = None; call = Opening })
failed_opening other = None
