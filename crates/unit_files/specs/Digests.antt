-- The length and the digest of a unit's file: what the disk holds of it is written back first, and then the file is
-- measured and read as it stands there.
use Rattle.std.specs.Prelude.{◌≡◌, ◌⊎◌, ℕ, ◌≤◌, nat_lt, Bool, true, IsTrue, List, length, Option, Some, None, Result, Ok, Err}
use Rattle.std.specs.Prelude.{if◌then◌else◌}
use Rattle.sha2.specs.Sha256.{sha256}
use Rattle.file_traits.specs.declared.files.FileId.{FileId}
use Rattle.file_traits.specs.declared.files.FileCall.TheVariants.{Length, Read, Write}
use Rattle.file_traits.specs.Lists.{NamedBytes, bytes_of}
use Rattle.file_traits.specs.State.{FileState}
use Rattle.unit_trait.specs.declared.kind.UnitName.{UnitName}
use Rattle.file_digests.specs.declared.digest.FileDigest.{FileDigest}
use Rattle.unit_files.specs.declared.faults.UnitFault.{UnitFault}
use Rattle.unit_files.specs.declared.faults.DetachFault.{DetachFault}
use Rattle.unit_files.specs.declared.faults.DetachFault.TheVariants as detach
use Rattle.unit_files.specs.Attachments.{Attachment, Held, is_disk}
use Rattle.unit_files.specs.Buffer.{Buffer, disk_bytes}
use Rattle.unit_files.specs.Acts.{Failure, failure_at, is_due_back, FlushSaid, HasNone, NotFlushed, Flushed}
use Rattle.unit_files.specs.Acts.{flush_said, flush_files, buffer_flushed}
use Rattle.unit_files.specs.InStep.{marks_flushed}
use Rattle.unit_files.specs.Answers.{failure_in}
use Rattle.unit_files.specs.Causes.{IsQuiet, IsFaultOf}
use Rattle.unit_files.specs.Shapes.{IsFaultAt}

-- what a digesting says: the unit has no file, or a call failed, or the file's length and digest
pub data DigestSaid : Type 0 where
  NothingToDigest : DigestSaid
  NotDigested : Failure → DigestSaid
  Digested : ℕ → List ℕ → DigestSaid

abbrev pub digest_read : Option Failure → List ℕ → DigestSaid
digest_read (Some f) bytes = NotDigested f
digest_read None bytes = Digested (length bytes) (sha256 bytes)

-- the read that fails, if one is made: a file is read where it has any bytes
abbrev pub digest_failure : Option Failure → List ℕ → Option Failure
digest_failure fault bytes = if nat_lt 0 (length bytes) then failure_at Read fault else None

abbrev pub digest_unless : Option Failure → Option Failure → List ℕ → DigestSaid
digest_unless (Some f) fault bytes = NotDigested f
digest_unless None fault bytes = digest_read (digest_failure fault bytes) bytes

-- a file with these bytes is asked for its length, and then read
abbrev pub digest_measured : Option Failure → List ℕ → DigestSaid
digest_measured fault bytes = digest_unless (failure_at Length fault) fault bytes

-- the digest of a unit's file as it stands there
abbrev pub digest_flushed : Option Failure → Option Attachment → List NamedBytes → DigestSaid
digest_flushed fault None files = NothingToDigest
digest_flushed fault (Some a) files = digest_measured fault (bytes_of files a.name)

-- nothing is digested where the writing back was refused
abbrev pub behind_flush : FlushSaid → DigestSaid → DigestSaid
behind_flush HasNone said = NothingToDigest
behind_flush (NotFlushed f) said = NotDigested f
behind_flush Flushed said = said

-- the digest of a unit's file, behind the writing back of what the disk holds of it
abbrev pub digest_said : Option Failure → UnitName → Option Attachment → Buffer → List NamedBytes → DigestSaid
digest_said fault unit a disk files =
    behind_flush (flush_said fault unit a disk) (digest_flushed fault a (flush_files fault unit a disk files))

-- the disk's copy behind that
abbrev pub buffer_digested : Option Failure → UnitName → Option Attachment → Buffer → Buffer
buffer_digested fault unit a disk = buffer_flushed (flush_said fault unit a disk) unit disk

-- .. and its marks
abbrev pub marks_digested : Option Failure → UnitName → Option Attachment → Buffer → List Bool → List Bool
marks_digested fault unit a disk marks = marks_flushed (flush_said fault unit a disk) unit marks

-- ---- the answers

abbrev pub said_of_digest : Result FileDigest DetachFault → DigestSaid
said_of_digest (Ok d) = Digested d.length d.digest
said_of_digest (Err detach.NotAttached) = NothingToDigest
said_of_digest (Err (detach.Failed f)) = NotDigested (failure_in f)

abbrev pub failure_of_digest : Result FileDigest DetachFault → Option Failure
failure_of_digest (Err (detach.Failed f)) = Some (failure_in f)
failure_of_digest result = None

-- A digesting answers that nothing is attached exactly where nothing is, whether names are told or not; and a write fails
-- only where there is something to write back.
abbrev pub MayDigest : Result FileDigest DetachFault → UnitName → Option Attachment → Buffer → Type 0
MayDigest (Ok d) unit (Some a) disk = Unit {0}
MayDigest (Err (detach.Failed f)) unit (Some a) disk = f.call ≡ Write → is_due_back unit disk ≡ true
MayDigest (Err detach.NotAttached) unit None disk = Unit {0}
MayDigest result unit a disk = ⊥

-- ---- their causes

-- the length, or a read, which wrote nothing
abbrev pub IsReadingCall : UnitFault → Type 0
IsReadingCall f = ((f.call ≡ Length) ⊎ (f.call ≡ Read)) × (f.done ≡ 0)

-- the write of the disk's copy, which has no more bytes than the disk
abbrev pub IsWritingCall : UnitFault → UnitName → Type 0
IsWritingCall f unit = IsTrue (is_disk unit.kind) × (f.call ≡ Write) × (f.done ≤ disk_bytes)

-- a failed call of a digesting: that file's count has risen by one, and no other
pub record IsDigestFault (f : UnitFault) (unit : UnitName) (slots : List (Option Held)) (old new : FileState) : Type 0
  where
    pub calls : IsWritingCall f unit ⊎ IsReadingCall f
    pub fault : IsFaultOf f unit slots old new

-- what a digesting leaves of the counts, by its answer
abbrev pub DigestCause : Result FileDigest DetachFault → UnitName → List (Option Held) → FileState → FileState → Type 0
DigestCause (Ok d) unit slots old new = IsQuiet old new
DigestCause (Err detach.NotAttached) unit slots old new = IsQuiet old new
DigestCause (Err (detach.Failed f)) unit slots old new = IsDigestFault f unit slots old new

-- the same of an open file
abbrev pub FileDigestCause : Result FileDigest DetachFault → UnitName → FileId → FileState → FileState → Type 0
FileDigestCause (Ok d) unit id old new = IsQuiet old new
FileDigestCause (Err detach.NotAttached) unit id old new = ⊥
FileDigestCause (Err (detach.Failed f)) unit id old new = IsReadingCall f × IsFaultAt f unit id old new
