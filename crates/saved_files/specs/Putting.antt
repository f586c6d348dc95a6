-- The files that a saved session names are attached, one behind another, and each is compared with what is said of it
-- before the next. Attaching and comparing is one act: a call that fails in it is met in either.
use Rattle.std.specs.Prelude.{◌≡◌, ◌⊎◌, ℕ, ◌==◌, ◌&&◌, Bool, false, List, [], ◌∷◌, map, Option, Some, None, Result, Ok}
use Rattle.std.specs.Prelude.{Err}
use Rattle.std.specs.Prelude.{if◌then◌else◌}
use Rattle.std.specs.Str.{bytes_eq}
use Rattle.file_traits.specs.Lists.{NamedBytes, bytes_of}
use Rattle.unit_trait.specs.declared.kind.UnitName.{UnitName}
use Rattle.unit_trait.specs.Kinds.{same_unit}
use Rattle.unit_files.specs.declared.modes.AttachMode.{AttachMode}
use Rattle.unit_files.specs.declared.modes.AttachMode.TheVariants.{MustExist, ReadOnly}
use Rattle.unit_files.specs.Attachments.{Attachment, with_attachment}
use Rattle.unit_files.specs.Buffer.{Buffer, no_buffer}
use Rattle.unit_files.specs.Acts.{Failure, AttachSaid, Attached, UnitHasFile, OnlyWrites, NotThere, TooLong, CallFailed}
use Rattle.unit_files.specs.Acts.{attach_said}
use Rattle.unit_files.specs.Answers.{failure_in}
use Rattle.unit_files.specs.Digests.{DigestSaid, NothingToDigest, NotDigested, Digested, digest_measured}
use Rattle.saved_session.specs.declared.saved.SavedFile.{SavedFile}
use Rattle.saved_files.specs.declared.file_faults.RestoreFault.{RestoreFault}
use Rattle.saved_files.specs.declared.file_faults.RestoreFault.TheVariants as fault
use Rattle.saved_session.specs.Parts.{FilePart, file_in}
use Rattle.saved_session.specs.Ranges.{kind_at}

abbrev pub files_in : List SavedFile → List FilePart
files_in files = map file_in files

-- the unit of a file
abbrev pub unit_of : FilePart → UnitName
unit_of f = record { kind = kind_at f.position; unit = f.unit }

-- whether it is only read
abbrev pub is_only_read : FilePart → Bool
is_only_read f = f.read_only == 1

-- how it is attached: it is there, and is only read where it was
abbrev pub mode_of : Bool → AttachMode
mode_of read_only = if read_only then ReadOnly else MustExist

-- why a file is refused
pub data FileRefusal : Type 0 where
  IsMissing : FileRefusal
  IsTooLong : FileRefusal
  HasChanged : FileRefusal
  CallFails : Failure → FileRefusal

-- a file with that length and digest is the one that was saved
abbrev pub is_unchanged : FilePart → ℕ → List ℕ → Bool
is_unchanged f size digest = (size == f.size) && bytes_eq digest f.digest

-- what is said of it behind its digest
abbrev pub compared : DigestSaid → FilePart → Option FileRefusal
compared (Digested size digest) f = if is_unchanged f size digest then None else Some HasChanged
compared (NotDigested failure) f = Some (CallFails failure)
compared NothingToDigest f = None

-- what is said of it behind its attaching, where it has these bytes; it is not compared where that is forced
abbrev pub behind_attaching : AttachSaid → Option Failure → Bool → FilePart → List ℕ → Option FileRefusal
behind_attaching (Attached size) fails force f bytes = if force then None else compared (digest_measured fails bytes) f
behind_attaching NotThere fails force f bytes = Some IsMissing
behind_attaching TooLong fails force f bytes = Some IsTooLong
behind_attaching (CallFailed failure) fails force f bytes = Some (CallFails failure)
behind_attaching UnitHasFile fails force f bytes = None
behind_attaching OnlyWrites fails force f bytes = None

-- why a file is refused, if it is: a call on it fails where the outside says so
unfoldable pub refusal_of : Option Failure → Bool → FilePart → List (Option Attachment) → List NamedBytes
    → Option FileRefusal
refusal_of fails force f attached files =
    behind_attaching (attach_said fails (mode_of (is_only_read f)) (unit_of f) f.name attached files) fails force f
    (bytes_of files f.name)

abbrev pub attachment_of : FilePart → Attachment
attachment_of f = record { name = f.name; read_only = is_only_read f }

-- what is attached once a file is, and once all are
abbrev pub with_file : List (Option Attachment) → FilePart → List (Option Attachment)
with_file attached f = with_attachment attached (unit_of f) (Some (attachment_of f))

abbrev pub with_all : List (Option Attachment) → List FilePart → List (Option Attachment)
with_all attached [] = attached
with_all attached (f ∷ fs) = with_all (with_file attached f) fs

-- the disk's copy of the file that it was just given
abbrev pub copy_of : Option Attachment → List NamedBytes → Buffer
copy_of None files = no_buffer
copy_of (Some a) files = record { bytes = bytes_of files a.name; written = false }

-- the failing call, where it is one of that unit
abbrev pub at_unit : UnitName → Option (UnitName × Failure) → Option Failure
at_unit unit None = None
at_unit unit (Some n) = if same_unit unit n.0 then Some n.1 else None

abbrev pub first_of : Option FileRefusal → UnitName → Option (UnitName × FileRefusal) → Option (UnitName × FileRefusal)
first_of (Some refusal) unit others = Some (unit, refusal)
first_of None unit others = others

-- The first file that is refused, by its unit, and why: they are attached in their order, and each is compared before
-- the next.
unfoldable pub first_refused : Option (UnitName × Failure) → Bool → List FilePart → List (Option Attachment)
    → List NamedBytes → Option (UnitName × FileRefusal)
first_refused fails force [] attached files = None
first_refused fails force (f ∷ fs) attached files =
    first_of (refusal_of (at_unit (unit_of f) fails) force f attached files) (unit_of f)
    (first_refused fails force fs (with_file attached f) files)

-- ---- the answers

-- what a refusal says; nothing where memory ran out
abbrev pub said_in : RestoreFault → Option (UnitName × FileRefusal)
said_in (fault.NoFile unit) = Some (unit, IsMissing)
said_in (fault.TooLong unit) = Some (unit, IsTooLong)
said_in (fault.Changed unit) = Some (unit, HasChanged)
said_in (fault.Failed f) = Some (f.unit, CallFails (failure_in f))
said_in fault.MissingUnit = None
said_in fault.Port = None
said_in fault.OutOfMemory = None

-- the failing call that is claimed, with its unit
abbrev pub claim_in : Result (Unit {0}) RestoreFault → Option (UnitName × Failure)
claim_in (Err (fault.Failed f)) = Some (f.unit, failure_in f)
claim_in result = None

-- An answer says exactly that, where memory did not run out. No unit is looked for, and no port is listened on.
abbrev pub Says : Result (Unit {0}) RestoreFault → Option (UnitName × FileRefusal) → Type 0
Says (Ok u) said = said ≡ None
Says (Err fault.OutOfMemory) said = Unit {0}
Says (Err fault.MissingUnit) said = ⊥
Says (Err fault.Port) said = ⊥
Says (Err f) said = said ≡ said_in f

-- the unit of one of these files
abbrev pub IsUnitOf : List FilePart → UnitName → Type 0
IsUnitOf [] unit = ⊥
IsUnitOf (f ∷ fs) unit = (unit ≡ unit_of f) ⊎ IsUnitOf fs unit

-- a refusal is that of one of these files
abbrev pub IsOfThese : List FilePart → RestoreFault → Type 0
IsOfThese fs (fault.NoFile unit) = IsUnitOf fs unit
IsOfThese fs (fault.TooLong unit) = IsUnitOf fs unit
IsOfThese fs (fault.Changed unit) = IsUnitOf fs unit
IsOfThese fs (fault.Failed f) = IsUnitOf fs f.unit
IsOfThese fs fault.MissingUnit = ⊥
IsOfThese fs fault.Port = ⊥
IsOfThese fs fault.OutOfMemory = Unit {0}

-- a refusal of all of a session is that of one of its units, of one of its files, or of a port
abbrev pub IsOfSession : List FilePart → RestoreFault → Type 0
IsOfSession fs fault.MissingUnit = Unit {0}
IsOfSession fs fault.Port = Unit {0}
IsOfSession fs f = IsOfThese fs f

-- The same of all of a session. Its units are looked for before all files: where one is missing, no file was asked for. Its
-- ports are listened on behind all files: where that came to nothing, no file was refused.
abbrev pub SaysFirst : Result (Unit {0}) RestoreFault → Option (UnitName × FileRefusal) → Type 0
SaysFirst (Err fault.MissingUnit) said = Unit {0}
SaysFirst (Err fault.Port) said = said ≡ None
SaysFirst (Ok u) said = said ≡ None
SaysFirst (Err fault.OutOfMemory) said = Unit {0}
SaysFirst (Err f) said = said ≡ said_in f
