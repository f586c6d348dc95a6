-- A file is opened for a unit, its length is asked for, and the disk reads it whole.
use Rattle.std.specs.Prelude.{◌≡◌, ◌≢◌, ◌⊎◌, ℕ, ◌+◌, ◌<◌, ◌≤◌, Bool, IsTrue, List, ◌∷◌, Some, None, Result, Ok, Err, if◌then◌else◌}
use Rattle.fault_counts.specs.Faults.{raised, Rose}
use Rattle.file_traits.specs.declared.files.FileId.{FileId}
use Rattle.file_traits.specs.declared.files.FileCall.{FileCall}
use Rattle.file_traits.specs.declared.files.FileCall.TheVariants as call
use Rattle.file_traits.specs.declared.files.OpenMode.{OpenMode}
use Rattle.file_traits.specs.declared.files.OpenFault.{OpenFault}
use Rattle.file_traits.specs.declared.files.OpenFault.TheVariants as opening
use Rattle.file_traits.specs.State.{FileState, opened_at}
use Rattle.unit_trait.specs.declared.kind.UnitName.{UnitName}
use Rattle.unit_files.specs.declared.modes.AttachMode.{AttachMode}
use Rattle.unit_files.specs.declared.modes.AttachMode.TheVariants as modes
use Rattle.unit_files.specs.declared.faults.UnitFault.{UnitFault}
use Rattle.unit_files.specs.declared.faults.AttachFault.{AttachFault}
use Rattle.unit_files.specs.declared.faults.AttachFault.TheVariants as attach
use Rattle.unit_files.specs.declared.opening.Taken.{Taken}
use Rattle.unit_files.specs.Attachments.{is_disk, longest_file}
use Rattle.unit_files.specs.Acts.{is_read_only, opened_files}
use Rattle.unit_files.specs.Causes.{AtMostOnceMore}
use Rattle.unit_files.specs.Open.{is_reading}

-- a file is open now, under an id that was never given before
pub record IsNewlyOpen (old new : FileState) (name : List ℕ) (mode : AttachMode) (file : ℕ) : Type 0 where
  pub how : OpenMode
  pub reading : is_reading how ≡ is_read_only mode
  pub opened : new.opened ≡ record { file = file; name = name; mode = how } ∷ old.opened
  pub fresh : opened_at old.opened file ≡ None
  pub next : file ≡ old.given
  pub rising : old.given ≤ file
  pub given : new.given ≡ file + 1
  pub counts : new.faults ≡ old.faults
  pub later : old.open_faults ≤ new.open_faults

-- nothing was opened
pub record IsNotOpened (old new : FileState) : Type 0 where
  pub opened : new.opened ≡ old.opened
  pub given : new.given ≡ old.given
  pub files : new.files ≡ old.files
  pub counts : new.faults ≡ old.faults
  pub later : old.open_faults ≤ new.open_faults

-- what an opening for a unit does, by its answer
abbrev pub OpensFor : Bool → FileState → FileState → List ℕ → AttachMode → Result FileId OpenFault → Type 0
OpensFor tells old new name mode (Ok id) =
    IsNewlyOpen old new name mode id.0
    × (IsTrue tells → opened_files mode name old.files ≡ Some new.files)
    × (IsTrue tells → new.open_faults ≡ old.open_faults)
OpensFor tells old new name mode (Err opening.NoFile) =
    IsNotOpened old new
    × (IsTrue tells → opened_files mode name old.files ≡ None)
    × (IsTrue tells → new.open_faults ≡ old.open_faults)
    × ((IsTrue tells → ⊥) → Rose old.open_faults new.open_faults)
OpensFor tells old new name mode (Err opening.Failed) = IsNotOpened old new × Rose old.open_faults new.open_faults
OpensFor tells old new name mode (Err opening.OutOfMemory) = IsNotOpened old new

-- the count of openings behind one that answered so: one more where it failed, and where it answered `NoFile` of names
-- that are not told
abbrev pub count_behind : Bool → ℕ → Result FileId OpenFault → ℕ
count_behind tells count (Ok id) = count
count_behind tells count (Err opening.NoFile) = if tells then count else raised count
count_behind tells count (Err opening.Failed) = raised count
count_behind tells count (Err opening.OutOfMemory) = count

-- .. behind the first of two, which found no file
abbrev pub count_behind_none : Bool → ℕ → ℕ
count_behind_none tells count = count_behind tells count (Err opening.NoFile)

-- A file that is made where it is not there takes one opening, or two, of which the first found none. `NoFile` comes of
-- the second alone.
abbrev pub CountsOneOrTwo : Bool → ℕ → ℕ → Result FileId OpenFault → Type 0
CountsOneOrTwo tells before now (Err opening.NoFile) =
    now ≡ count_behind tells (count_behind_none tells before) (Err opening.NoFile)
CountsOneOrTwo tells before now result =
    (now ≡ count_behind tells before result) ⊎ (now ≡ count_behind tells (count_behind_none tells before) result)

-- how the count of openings stands behind an opening for a unit: all modes but one make one opening of the files
abbrev pub CountsOpenings : Bool → AttachMode → ℕ → ℕ → Result FileId OpenFault → Type 0
CountsOpenings tells modes.Any before now result = CountsOneOrTwo tells before now result
CountsOpenings tells modes.MustExist before now result = now ≡ count_behind tells before result
CountsOpenings tells modes.New before now result = now ≡ count_behind tells before result
CountsOpenings tells modes.ReadOnly before now result = now ≡ count_behind tells before result

-- an opening that failed, said of a unit
abbrev pub failed_opening : UnitName → UnitFault
failed_opening unit = record { unit = unit; file = None; call = call.Opening; done = 0 }

-- why a unit got no file, by why none was opened
abbrev pub fault_of_opening : UnitName → OpenFault → AttachFault
fault_of_opening unit opening.NoFile = attach.NoFile
fault_of_opening unit opening.Failed = attach.Failed (failed_opening unit)
fault_of_opening unit opening.OutOfMemory = attach.OutOfMemory

-- a call on the file that was opened, which failed
abbrev pub failed_at : FileCall → UnitName → FileId → UnitFault
failed_at c unit id = record { unit = unit; file = Some id; call = c; done = 0 }

-- the answer of a measuring of a file with so many bytes
abbrev pub HasLength : UnitName → ℕ → Result ℕ AttachFault → Type 0
HasLength unit all (Ok count) = count ≡ all
HasLength unit all (Err attach.TooLong) = longest_file unit.kind < all
HasLength unit all (Err fault) = Unit {0}

-- .. with what it leaves of the counts of that file
abbrev pub LengthCause : Result ℕ AttachFault → UnitName → FileId → FileState → FileState → Type 0
LengthCause (Ok count) unit id old new = new.faults ≡ old.faults
LengthCause (Err attach.TooLong) unit id old new = new.faults ≡ old.faults
LengthCause (Err (attach.Failed f)) unit id old new =
    (f ≡ failed_at call.Length unit id) × (new.faults id.0 ≡ raised (old.faults id.0))
LengthCause (Err fault) unit id old new = ⊥

-- a failed call of a measuring and reading: the length, or the read, which the disk alone makes
abbrev pub IsMeasureFault : UnitFault → UnitName → FileId → Type 0
IsMeasureFault f unit id =
    (f ≡ failed_at call.Length unit id) ⊎ ((f ≡ failed_at call.Read unit id) × IsTrue (is_disk unit.kind))

-- the answer of a measuring and reading, with what it leaves of the counts of its file, which is still open
abbrev pub MeasureCause : Result ℕ AttachFault → UnitName → FileId → FileState → FileState → Type 0
MeasureCause (Ok count) unit id old new = new.faults ≡ old.faults
MeasureCause (Err attach.TooLong) unit id old new = new.faults ≡ old.faults
MeasureCause (Err (attach.Failed f)) unit id old new =
    IsMeasureFault f unit id × (new.faults id.0 ≡ raised (old.faults id.0))
MeasureCause (Err fault) unit id old new = ⊥

-- .. and once a file that the unit does not get was closed, which may fail too
abbrev pub ClosedCause : Result ℕ AttachFault → UnitName → FileId → FileState → FileState → Type 0
ClosedCause (Ok count) unit id old new = new.faults ≡ old.faults
ClosedCause (Err attach.TooLong) unit id old new = AtMostOnceMore (old.faults id.0) (new.faults id.0)
ClosedCause (Err (attach.Failed f)) unit id old new =
    IsMeasureFault f unit id × AtMostOnceMore (raised (old.faults id.0)) (new.faults id.0)
ClosedCause (Err fault) unit id old new = ⊥

-- no count but that of one file has changed, and that one has not fallen
pub record OnlyCountOf (file : ℕ) (old new : FileState) : Type 0 where
  pub others : (other : ℕ) → other ≢ file → new.faults other ≡ old.faults other
  pub later : old.faults file ≤ new.faults file
  pub openings : new.open_faults ≡ old.open_faults
  pub ids : new.given ≡ old.given

abbrev pub length_of : Result Taken AttachFault → Result ℕ AttachFault
length_of (Ok taken) = Ok taken.length
length_of (Err fault) = Err fault
