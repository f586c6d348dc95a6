-- One file is attached and compared: what its calls want and answer.
use Rattle.std.specs.Prelude.{◌≡◌, ◌≢◌, ℕ, ◌≤◌, Bool, true, false, IsTrue, List, [], ◌∷◌, Option, Some, None, Result}
use Rattle.std.specs.Prelude.{Ok, Err}
use Rattle.std.specs.List.{AllByRecursion}
use Rattle.file_traits.specs.Lists.{NamedBytes}
use Rattle.file_traits.specs.State.{FileState}
use Rattle.unit_trait.specs.declared.kind.UnitName.{UnitName}
use Rattle.file_digests.specs.declared.digest.FileDigest.{FileDigest}
use Rattle.unit_files.specs.declared.faults.UnitFault.{UnitFault}
use Rattle.unit_files.specs.Attachments.{Attachment, Held, takes_attachment, only_writes, is_disk, attachment_at}
use Rattle.unit_files.specs.Attachments.{held_at}
use Rattle.unit_files.specs.Attachments.{IsFileName, file_place}
use Rattle.unit_files.specs.Buffer.{Buffer, no_buffer}
use Rattle.unit_files.specs.Acts.{Failure, Attached, attach_said}
use Rattle.unit_files.specs.Answers.{failure_in}
use Rattle.unit_files.specs.Causes.{IsQuiet, IsFaultOf}
use Rattle.unit_files.specs.Digests.{DigestSaid, NotDigested, Digested, IsReadingCall, digest_measured}
use Rattle.saved_files.specs.declared.file_faults.RestoreFault.{RestoreFault}
use Rattle.saved_files.specs.declared.file_faults.RestoreFault.TheVariants as fault
use Rattle.saved_session.specs.Parts.{FilePart}
use Rattle.saved_session.specs.Ranges.{kind_at}
use Rattle.saved_files.specs.Putting.{unit_of, is_only_read, mode_of, FileRefusal, IsMissing, IsTooLong, HasChanged}
use Rattle.saved_files.specs.Putting.{CallFails}
use Rattle.saved_files.specs.Putting.{compared, refusal_of}

-- ---- which files can be attached together

-- a file that its unit takes
pub record CanAttach (f : FilePart) : Type 0 where
  pub unit : IsTrue (takes_attachment (unit_of f))
  pub name : IsFileName f.name
  pub written : only_writes (kind_at f.position) ≡ true → is_only_read f ≡ false

-- nothing is attached to its unit
abbrev pub IsFree : List (Option Attachment) → FilePart → Type 0
IsFree attached f = attachment_at attached (unit_of f) ≡ None

-- two files are not of one unit
abbrev pub AreOfTwo : FilePart → FilePart → Type 0
AreOfTwo f g = file_place (unit_of f) ≢ file_place (unit_of g)

-- no unit comes twice
abbrev pub AreApart : List FilePart → Type 0
AreApart [] = Unit {0}
AreApart (f ∷ fs) = AllByRecursion (AreOfTwo f) fs × AreApart fs

-- the disk's copy stands for a file that can be the disk's: none is attached
abbrev pub IsClean : Buffer → FilePart → Type 0
IsClean disk f = is_disk (kind_at f.position) ≡ true → disk ≡ no_buffer

-- nothing of the copy is to be written back
abbrev pub IsAsRead : Buffer → Type 0
IsAsRead disk = disk.written ≡ false

-- ---- the digest of a unit's file, of which nothing is to be written back

abbrev pub said_of_reading : Result FileDigest UnitFault → DigestSaid
said_of_reading (Ok d) = Digested d.length d.digest
said_of_reading (Err f) = NotDigested (failure_in f)

abbrev pub failure_of_reading : Result FileDigest UnitFault → Option Failure
failure_of_reading (Ok d) = None
failure_of_reading (Err f) = Some (failure_in f)

-- a call that failed: the length or a read of that unit's file, whose count has risen by one, and no other
pub record IsReadingFault (f : UnitFault) (unit : UnitName) (slots : List (Option Held)) (old new : FileState) : Type 0
  where
    pub calls : IsReadingCall f
    pub fault : IsFaultOf f unit slots old new

abbrev pub ReadingCause : Result FileDigest UnitFault → UnitName → List (Option Held) → FileState → FileState → Type 0
ReadingCause (Ok d) unit slots old new = IsQuiet old new
ReadingCause (Err f) unit slots old new = IsReadingFault f unit slots old new

-- ---- what is said of one file

-- a refusal is that of this unit
abbrev pub IsOf : UnitName → RestoreFault → Type 0
IsOf unit (fault.NoFile u) = u ≡ unit
IsOf unit (fault.TooLong u) = u ≡ unit
IsOf unit (fault.Changed u) = u ≡ unit
IsOf unit (fault.Failed f) = f.unit ≡ unit
IsOf unit fault.MissingUnit = ⊥
IsOf unit fault.Port = ⊥
IsOf unit fault.OutOfMemory = Unit {0}

-- why the file was refused; nothing where memory ran out
abbrev pub refusal_in : RestoreFault → Option FileRefusal
refusal_in (fault.NoFile unit) = Some IsMissing
refusal_in (fault.TooLong unit) = Some IsTooLong
refusal_in (fault.Changed unit) = Some HasChanged
refusal_in (fault.Failed f) = Some (CallFails (failure_in f))
refusal_in fault.MissingUnit = None
refusal_in fault.Port = None
refusal_in fault.OutOfMemory = None

abbrev pub failure_of : Result (Unit {0}) RestoreFault → Option Failure
failure_of (Err (fault.Failed f)) = Some (failure_in f)
failure_of result = None

abbrev pub SaysOne : Result (Unit {0}) RestoreFault → Option FileRefusal → Type 0
SaysOne (Ok u) said = said ≡ None
SaysOne (Err fault.OutOfMemory) said = Unit {0}
SaysOne (Err fault.MissingUnit) said = ⊥
SaysOne (Err fault.Port) said = ⊥
SaysOne (Err f) said = said ≡ refusal_in f

-- A unit has its file, of so many bytes; or it was refused that, which is so whether the comparing is forced or not.
abbrev pub Attaches : FilePart → List (Option Attachment) → List NamedBytes → Result (Unit {0}) RestoreFault → Type 0
Attaches f attached files (Ok u) =
    (size : ℕ) × (attach_said None (mode_of (is_only_read f)) (unit_of f) f.name attached files ≡ Attached size)
Attaches f attached files (Err e) =
    (force : Bool) → SaysOne (Err e) (refusal_of (failure_of (Err e)) force f attached files)

-- a comparing finds a file changed, or a call fails in it, which is the length or a read
abbrev pub CompareCalls : Result (Unit {0}) RestoreFault → Type 0
CompareCalls (Ok u) = Unit {0}
CompareCalls (Err (fault.Changed unit)) = Unit {0}
CompareCalls (Err (fault.Failed f)) = IsReadingCall f
CompareCalls (Err e) = ⊥

-- what the comparing of a file with these bytes comes to
abbrev pub Compares : FilePart → List ℕ → Result (Unit {0}) RestoreFault → Type 0
Compares f bytes result = SaysOne result (compared (digest_measured (failure_of result) bytes) f)

-- a comparing that failed is that of a call on the unit's file, whose count has risen by one; else no count has changed
abbrev pub CompareCause : Result (Unit {0}) RestoreFault → UnitName → List (Option Held) → FileState → FileState
    → Type 0
CompareCause (Err (fault.Failed f)) unit slots old new = IsReadingFault f unit slots old new
CompareCause result unit slots old new = IsQuiet old new

-- ---- which counts have risen

-- no count but that of the file of a unit has changed, and none has fallen
pub record OnlyItsCount (slots : List (Option Held)) (unit : UnitName) (old new : FileState) : Type 0 where
  pub others : (file : ℕ) → ((h : Held) → held_at slots unit ≡ Some h → file ≢ h.file)
      → new.faults file ≡ old.faults file
  pub later : (file : ℕ) → old.faults file ≤ new.faults file
  pub openings : new.open_faults ≡ old.open_faults
  pub ids : new.given ≡ old.given
