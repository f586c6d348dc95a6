-- What the calls want and answer that save the files of units: their names are taken first, and then each is digested.
use Rattle.std.specs.Prelude.{◌≡◌, ℕ, IsTrue, List, [], ◌∷◌, map, length, replicate, Option, Some}
use Rattle.std.specs.Prelude.{None, Result, Ok, Err}
use Rattle.std.specs.List.{AllByRecursion, flat_map}
use Rattle.sha2.specs.Sha256.{sha256}
use Rattle.file_traits.specs.Lists.{NamedBytes, bytes_of}
use Rattle.file_traits.specs.State.{FileState}
use Rattle.unit_trait.specs.declared.kind.UnitName.{UnitName}
use Rattle.unit_files.specs.declared.faults.UnitFault.{UnitFault}
use Rattle.unit_files.specs.Attachments.{Attachment, Held, takes_attachment, attachment_at, attachments_of}
use Rattle.unit_files.specs.Attachments.{IsFileName}
use Rattle.unit_files.specs.Buffer.{AttachedFiles, Buffer, disk_unit}
use Rattle.unit_files.specs.Acts.{Failure, NotFlushed, flush_said}
use Rattle.unit_files.specs.Answers.{failure_in}
use Rattle.unit_files.specs.Causes.{IsQuiet}
use Rattle.unit_files.specs.Digests.{digest_measured, IsDigestFault}
use Rattle.saved_files.specs.declared.taking.UnitPlace.{UnitPlace}
use Rattle.saved_session.specs.Parts.{FilePart}
use Rattle.saved_files.specs.Putting.{unit_of, attachment_of, at_unit}
use Rattle.saved_files.specs.Taking.{unit_at, flag_of, undigested, failing_first}

-- a unit's file that is not read yet: it has a name
abbrev pub unread_file : UnitPlace → Attachment → FilePart
unread_file p a = record {
  position = p.position;
  unit = p.unit;
  read_only = flag_of a.read_only;
  name = a.name;
  size = 0;
  digest = replicate 32 0;
}

abbrev pub unread_at : UnitPlace → Option Attachment → List FilePart
unread_at p None = []
unread_at p (Some a) = unread_file p a ∷ []

abbrev pub unread_files : List (Option Attachment) → List UnitPlace → List FilePart
unread_files attached ps = flat_map (λ (p : UnitPlace). unread_at p (attachment_at attached (unit_at p))) ps

abbrev pub names_of : List FilePart → List (List ℕ)
names_of files = map (λ (f : FilePart). f.name) files

-- each has a name of a file
abbrev pub AreNamed : List FilePart → Type 0
AreNamed files = AllByRecursion (λ (f : FilePart). IsFileName f.name) files

-- the same file once it was read
abbrev pub read_file : List NamedBytes → FilePart → FilePart
read_file files f = record f { size = length (bytes_of files f.name); digest = sha256 (bytes_of files f.name) }

-- it is attached to its unit
pub record CanDigest (a : AttachedFiles) (f : FilePart) : Type 0 where
  pub unit : IsTrue (takes_attachment (unit_of f))
  pub there : attachment_at (attachments_of a.slots) (unit_of f) ≡ Some (attachment_of f)

-- the first call that fails where these are digested one behind another, with its unit
abbrev pub first_unread : Option (UnitName × Failure) → List NamedBytes → List FilePart → Option (UnitName × Failure)
first_unread fails files [] = None
first_unread fails files (f ∷ fs) =
    failing_first (undigested (digest_measured (at_unit (unit_of f) fails) (bytes_of files f.name))) (unit_of f)
    (first_unread fails files fs)

abbrev pub fault_claim : UnitFault → Option (UnitName × Failure)
fault_claim f = Some (f.unit, failure_in f)

-- one was digested; or this call failed
abbrev pub DigestsOne : List NamedBytes → FilePart → Result (Unit {0}) UnitFault → FilePart → Type 0
DigestsOne files old (Ok u) new = new ≡ read_file files old
DigestsOne files old (Err f) new =
    undigested (digest_measured (Some (failure_in f)) (bytes_of files old.name)) ≡ Some (failure_in f)

-- all were digested; or this call failed, which is the first one
abbrev pub Digests : List NamedBytes → List FilePart → Result (Unit {0}) UnitFault → List FilePart → Type 0
Digests files old (Ok u) new = new ≡ map (read_file files) old
Digests files old (Err f) new = first_unread (fault_claim f) files old ≡ fault_claim f

-- a failed call is that of the file of its unit, whose count has risen by one, and no other; else no count has changed
abbrev pub UnitCause : Result (Unit {0}) UnitFault → List (Option Held) → FileState → FileState → Type 0
UnitCause (Ok u) slots old new = IsQuiet old new
UnitCause (Err f) slots old new = IsDigestFault f f.unit slots old new

-- ---- the disk's copy is written back

abbrev pub failure_of_write : Result (Unit {0}) UnitFault → Option Failure
failure_of_write (Ok u) = None
failure_of_write (Err f) = Some (failure_in f)

-- a write that failed is that of the disk
abbrev pub FlushSays : Result (Unit {0}) UnitFault → Option Attachment → Buffer → Type 0
FlushSays (Ok u) a disk = Unit {0}
FlushSays (Err f) a disk =
    (f.unit ≡ disk_unit) × (flush_said (Some (failure_in f)) disk_unit a disk ≡ NotFlushed (failure_in f))
