-- Each failing call that is answered has raised a count in this very call: that of its file, or of openings.
use Rattle.std.specs.Prelude.{◌≡◌, ◌≢◌, ◌⊎◌, ℕ, ◌+◌, ◌<◌, ◌≤◌, Bool, IsTrue, List, Option, Some, None, Result, Ok, Err, if◌then◌else◌}
use Rattle.fault_counts.specs.Faults.{raised, Rose}
use Rattle.file_traits.specs.declared.files.FileId.{FileId}
use Rattle.file_traits.specs.declared.files.FileCall.{FileCall}
use Rattle.file_traits.specs.declared.files.FileCall.TheVariants.{Opening, Length, Read, Write, Closing}
use Rattle.file_traits.specs.State.{FileState}
use Rattle.whole_files.specs.Claims.{raised_by}
use Rattle.unit_trait.specs.declared.kind.UnitName.{UnitName}
use Rattle.unit_files.specs.declared.modes.AttachMode.{AttachMode}
use Rattle.unit_files.specs.declared.modes.AttachMode.TheVariants as modes
use Rattle.unit_files.specs.declared.faults.UnitFault.{UnitFault}
use Rattle.unit_files.specs.declared.faults.AttachFault.{AttachFault}
use Rattle.unit_files.specs.declared.faults.AttachFault.TheVariants as attach
use Rattle.unit_files.specs.declared.faults.DetachFault.{DetachFault}
use Rattle.unit_files.specs.declared.faults.DetachFault.TheVariants as detach
use Rattle.unit_files.specs.declared.faults.ByteAnswer.{ByteAnswer}
use Rattle.unit_files.specs.declared.faults.ByteAnswer.TheVariants as byte
use Rattle.unit_files.specs.Attachments.{Held, held_at, is_disk}
use Rattle.unit_files.specs.Buffer.{disk_bytes}

-- no count has changed, and no file was opened
pub record IsQuiet (old new : FileState) : Type 0 where
  pub counts : new.faults ≡ old.faults
  pub openings : new.open_faults ≡ old.open_faults
  pub ids : new.given ≡ old.given

-- a failing call of a unit's attached file: that file's count has risen by one, and no other
pub record IsFaultOf (f : UnitFault) (unit : UnitName) (slots : List (Option Held)) (old new : FileState) : Type 0 where
  pub unit_is : f.unit ≡ unit
  pub held : Held
  pub there : held_at slots unit ≡ Some held
  pub id : FileId
  pub file_is : f.file ≡ Some id
  pub id_is : id.0 ≡ held.file
  pub rose : new.faults held.file ≡ raised (old.faults held.file)
  pub others : (other : ℕ) → (other ≡ held.file → ⊥) → new.faults other ≡ old.faults other
  pub openings : new.open_faults ≡ old.open_faults
  pub ids : new.given ≡ old.given

abbrev pub ByteCause : ByteAnswer → UnitName → List (Option Held) → FileState → FileState → Type 0
ByteCause (byte.Failed f) unit slots old new = IsFaultOf f unit slots old new
ByteCause answer unit slots old new = IsQuiet old new

-- the disk's copy could not be written back: its first bytes may have been, and they are no more than the disk has
pub record IsFlushFault (f : UnitFault) (unit : UnitName) (slots : List (Option Held)) (old new : FileState) : Type 0 where
  pub disk : IsTrue (is_disk unit.kind)
  pub call : f.call ≡ Write
  pub written : f.done ≤ disk_bytes
  pub fault : IsFaultOf f unit slots old new

-- what a writing back leaves of the counts, by its answer
abbrev pub FlushCause : Result (Unit {0}) DetachFault → UnitName → List (Option Held) → FileState → FileState → Type 0
FlushCause (Ok u) unit slots old new = IsQuiet old new
FlushCause (Err detach.NotAttached) unit slots old new = IsQuiet old new
FlushCause (Err (detach.Failed f)) unit slots old new = IsFlushFault f unit slots old new

abbrev pub DetachCause : Result (Option UnitFault) DetachFault → UnitName → List (Option Held) → FileState → FileState
    → Type 0
DetachCause (Ok (Some f)) unit slots old new = (f.call ≡ Closing) × (f.done ≡ 0) × IsFaultOf f unit slots old new
DetachCause (Ok None) unit slots old new = IsQuiet old new
DetachCause (Err detach.NotAttached) unit slots old new = IsQuiet old new
DetachCause (Err (detach.Failed f)) unit slots old new = IsFlushFault f unit slots old new

-- the counts of the files that were open or had been are as they were, and none has fallen
pub record OnlyNewCounts (old new : FileState) : Type 0 where
  pub before : (file : ℕ) → file < old.given → new.faults file ≡ old.faults file
  pub later : (file : ℕ) → old.faults file ≤ new.faults file
  pub openings : old.open_faults ≤ new.open_faults
  pub ids : old.given ≤ new.given

-- the count after at most one fault more
abbrev pub AtMostOnceMore : ℕ → ℕ → Type 0
AtMostOnceMore before now = (now ≡ before) ⊎ (now ≡ raised before)

-- A file was opened in this call and is refused behind so many failed calls on it: its count has risen by these, and may
-- have risen by one more for its closing. No other count of a file has changed.
pub record IsRefusedFile (id : FileId) (failed : ℕ) (old new : FileState) : Type 0 where
  pub rising : old.given ≤ id.0
  pub given : id.0 < new.given
  pub count : AtMostOnceMore (raised_by failed (old.faults id.0)) (new.faults id.0)
  pub others : (other : ℕ) → other ≢ id.0 → new.faults other ≡ old.faults other

-- an opening failed, or a call on the file that was opened in this call
pub record IsNewFault (f : UnitFault) (unit : UnitName) (old new : FileState) : Type 0 where
  pub unit_is : f.unit ≡ unit
  pub none_done : f.done ≡ 0
  pub calls : (f.call ≡ Opening) ⊎ (f.call ≡ Length) ⊎ ((f.call ≡ Read) × IsTrue (is_disk unit.kind))
  pub opening : f.call ≡ Opening → (f.file ≡ None) × Rose old.open_faults new.open_faults × (new.faults ≡ old.faults)
  pub other : (f.call ≡ Opening → ⊥) → (id : FileId) × (f.file ≡ Some id) × IsRefusedFile id 1 old new

-- What an attaching leaves of the counts, by its answer. Where names are not told, a file is missing only where the
-- count of openings rose. The closing of a file that was refused is told by its count alone.
abbrev pub AttachCause : Bool → Result ℕ AttachFault → UnitName → FileState → FileState → Type 0
AttachCause tells (Ok count) unit old new =
    (new.faults ≡ old.faults) × (IsTrue tells → new.open_faults ≡ old.open_faults)
AttachCause tells (Err (attach.Failed f)) unit old new = IsNewFault f unit old new
AttachCause tells (Err attach.NoFile) unit old new =
    (new.faults ≡ old.faults)
    × ((IsTrue tells → ⊥) → Rose old.open_faults new.open_faults)
    × (IsTrue tells → new.open_faults ≡ old.open_faults)
AttachCause tells (Err attach.AlreadyAttached) unit old new = IsQuiet old new
AttachCause tells (Err attach.ReadOnly) unit old new = IsQuiet old new
AttachCause tells (Err attach.TooLong) unit old new =
    ((id : FileId) × IsRefusedFile id 0 old new) × (IsTrue tells → new.open_faults ≡ old.open_faults)
AttachCause tells (Err attach.OutOfMemory) unit old new = new.faults ≡ old.faults

-- ---- how many openings failed, and how many files were opened

-- whether a failed call is an opening, and how many files were opened in front of it
abbrev pub openings_in : FileCall → ℕ
openings_in Opening = 1
openings_in call = 0

abbrev pub files_before : FileCall → ℕ
files_before Opening = 0
files_before call = 1

-- how many openings that failed an answer names: one that failed, and one that found no file, where names are not told
abbrev pub openings_named : Bool → Result ℕ AttachFault → ℕ
openings_named tells (Err attach.NoFile) = if tells then 0 else 1
openings_named tells (Err (attach.Failed f)) = openings_in f.call
openings_named tells result = 0

-- how many files are opened, by the answer: one that is refused behind its opening is among them
abbrev pub files_opened : Result ℕ AttachFault → ℕ
files_opened (Ok count) = 1
files_opened (Err attach.TooLong) = 1
files_opened (Err (attach.Failed f)) = files_before f.call
files_opened (Err fault) = 0

-- how many more openings may have failed: a file that is made where it is not there is looked for first, and no answer
-- names that it was not found, which counts where names are not told
abbrev pub most_unnamed : AttachMode → Bool → ℕ
most_unnamed modes.Any tells = if tells then 0 else 1
most_unnamed mode tells = 0

-- The count of openings has risen by just as many as the answer names, and by the one that it may not name, which is
-- always made where the file is missing. Just as many ids were given as files were opened.
pub record CountsAttach (mode : AttachMode) (tells : Bool) (result : Result ℕ AttachFault) (old new : FileState) : Type 0
  where
    pub unnamed : ℕ
    pub few : unnamed ≤ most_unnamed mode tells
    pub missing : result ≡ Err attach.NoFile → unnamed ≡ most_unnamed mode tells
    pub openings : new.open_faults ≡ raised_by (unnamed + openings_named tells result) old.open_faults
    pub ids : new.given ≡ old.given + files_opened result

-- a file was opened between these two
abbrev pub IsNewId : FileState → FileState → ℕ → Type 0
IsNewId old new file = (old.given ≤ file) × (file < new.given)

-- each file that is attached to a unit now was attached to it before
abbrev pub OnlyKept : List (Option Held) → List (Option Held) → Type 0
OnlyKept slots slots' = (unit : UnitName) (h : Held) → held_at slots' unit ≡ Some h → held_at slots unit ≡ Some h

-- the same, or it was opened in between
abbrev pub AreFrom : List (Option Held) → List (Option Held) → FileState → FileState → Type 0
AreFrom slots slots' old new =
    (unit : UnitName) (h : Held) → held_at slots' unit ≡ Some h → (held_at slots unit ≡ Some h) ⊎ IsNewId old new h.file
