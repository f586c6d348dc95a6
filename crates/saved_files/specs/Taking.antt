-- The files of units as they are saved: the disk's copy is written back, and then the files of all units that have one
-- are digested, in bus order.
use Rattle.std.specs.Prelude.{ℕ, Bool, true, false, List, [], ◌∷◌, length, Option, Some, None, Result, Err}
use Rattle.std.specs.List.{flat_map}
use Rattle.sha2.specs.Sha256.{sha256}
use Rattle.file_traits.specs.Lists.{NamedBytes, bytes_of}
use Rattle.file_traits.specs.State.{FileState}
use Rattle.unit_trait.specs.declared.kind.UnitName.{UnitName}
use Rattle.unit_files.specs.Attachments.{Attachment, Held, attachment_at}
use Rattle.unit_files.specs.Buffer.{Buffer, disk_unit}
use Rattle.unit_files.specs.Acts.{Failure, FlushSaid, HasNone, NotFlushed, Flushed, flush_said, flush_files}
use Rattle.unit_files.specs.Acts.{buffer_flushed}
use Rattle.unit_files.specs.Answers.{failure_in}
use Rattle.unit_files.specs.Causes.{IsQuiet}
use Rattle.unit_files.specs.Digests.{DigestSaid, NothingToDigest, NotDigested, Digested, digest_flushed, IsDigestFault}
use Rattle.saved_files.specs.declared.taking.UnitPlace.{UnitPlace}
use Rattle.saved_files.specs.declared.file_faults.SaveFault.{SaveFault}
use Rattle.saved_files.specs.declared.file_faults.SaveFault.TheVariants as fault
use Rattle.saved_session.specs.Parts.{FilePart}
use Rattle.saved_session.specs.Ranges.{kind_at}
use Rattle.saved_files.specs.Putting.{at_unit}

-- the unit at a place
abbrev pub unit_at : UnitPlace → UnitName
unit_at p = record { kind = kind_at p.position; unit = p.unit }

abbrev pub place_of : ℕ → ℕ → UnitPlace
place_of position unit = record { position = position; unit = unit }

-- the places of the units that can have a file, in bus order: the disk, the drives, the printer, the reader, the punch
unfoldable pub file_places : List UnitPlace
file_places =
    place_of 0 0
    ∷ place_of 1 0 ∷ place_of 1 1 ∷ place_of 1 2 ∷ place_of 1 3
    ∷ place_of 1 4 ∷ place_of 1 5 ∷ place_of 1 6 ∷ place_of 1 7
    ∷ place_of 2 0 ∷ place_of 3 0 ∷ place_of 4 0 ∷ []

abbrev pub flag_of : Bool → ℕ
flag_of true = 1
flag_of false = 0

-- what is saved of a unit's file, where it has these bytes
abbrev pub saved_file : UnitPlace → Attachment → List ℕ → FilePart
saved_file p a bytes = record {
  position = p.position;
  unit = p.unit;
  read_only = flag_of a.read_only;
  name = a.name;
  size = length bytes;
  digest = sha256 bytes;
}

abbrev pub saved_at : List NamedBytes → UnitPlace → Option Attachment → List FilePart
saved_at files p None = []
saved_at files p (Some a) = saved_file p a (bytes_of files a.name) ∷ []

-- the files of the units at these places that have one, in their order
abbrev pub saved_files : List NamedBytes → List (Option Attachment) → List UnitPlace → List FilePart
saved_files files attached ps = flat_map (λ (p : UnitPlace). saved_at files p (attachment_at attached (unit_at p))) ps

-- ---- the call that fails

-- the one of a digesting
abbrev pub undigested : DigestSaid → Option Failure
undigested (NotDigested f) = Some f
undigested (Digested size digest) = None
undigested NothingToDigest = None

abbrev pub failing_first : Option Failure → UnitName → Option (UnitName × Failure) → Option (UnitName × Failure)
failing_first (Some f) unit others = Some (unit, f)
failing_first None unit others = others

-- the first one where the files of the units at these places are digested one behind another, with its unit
abbrev pub first_undigested : Option (UnitName × Failure) → List NamedBytes → List (Option Attachment) → List UnitPlace
    → Option (UnitName × Failure)
first_undigested fails files attached [] = None
first_undigested fails files attached (p ∷ ps) =
    failing_first (undigested (digest_flushed (at_unit (unit_at p) fails) (attachment_at attached (unit_at p)) files))
    (unit_at p) (first_undigested fails files attached ps)

-- the first one of all: the write of the disk's copy comes before every digest
abbrev pub unless_unflushed : FlushSaid → Option (UnitName × Failure) → Option (UnitName × Failure)
unless_unflushed (NotFlushed f) others = Some (disk_unit, f)
unless_unflushed HasNone others = others
unless_unflushed Flushed others = others

abbrev pub disk_flushed : Option (UnitName × Failure) → List (Option Attachment) → Buffer → FlushSaid
disk_flushed fails attached disk =
    flush_said (at_unit disk_unit fails) disk_unit (attachment_at attached disk_unit) disk

-- the files behind the writing back of the disk's copy, and that copy
abbrev pub files_flushed : Option (UnitName × Failure) → List (Option Attachment) → Buffer → List NamedBytes
    → List NamedBytes
files_flushed fails attached disk files =
    flush_files (at_unit disk_unit fails) disk_unit (attachment_at attached disk_unit) disk files

abbrev pub copy_flushed : Option (UnitName × Failure) → List (Option Attachment) → Buffer → Buffer
copy_flushed fails attached disk = buffer_flushed (disk_flushed fails attached disk) disk_unit disk

unfoldable pub first_unsaved : Option (UnitName × Failure) → List (Option Attachment) → Buffer → List NamedBytes
    → Option (UnitName × Failure)
first_unsaved fails attached disk files =
    unless_unflushed (disk_flushed fails attached disk)
    (first_undigested fails (files_flushed fails attached disk files) attached file_places)

-- ---- the answers

-- the failing call that is claimed, with its unit
abbrev pub save_claim : {T : Type 0} → Result T SaveFault → Option (UnitName × Failure)
save_claim (Err (fault.Failed f)) = Some (f.unit, failure_in f)
save_claim result = None

-- want of memory comes before anything is done
abbrev pub UnlessNoMemory : {T : Type 0} → Result T SaveFault → Type 0 → Type 0
UnlessNoMemory (Err fault.OutOfMemory) P = Unit {0}
UnlessNoMemory result P = P

abbrev pub IfNoMemory : {T : Type 0} → Result T SaveFault → Type 0 → Type 0
IfNoMemory (Err fault.OutOfMemory) P = P
IfNoMemory result P = Unit {0}

-- a failed call is that of the file of its unit, whose count has risen by one, and no other; else no count has changed
abbrev pub SaveCause : {T : Type 0} → Result T SaveFault → List (Option Held) → FileState → FileState → Type 0
SaveCause (Err (fault.Failed f)) slots old new = IsDigestFault f f.unit slots old new
SaveCause result slots old new = IsQuiet old new
