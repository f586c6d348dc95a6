-- What the byte calls may answer, whether names are told or not.
use Rattle.std.specs.Prelude.{◌≡◌, ◌≢◌, ℕ, ◌+◌, ◌-◌, ◌<◌, ◌≤◌, ◌^◌, Bool, true, List, length, take, Option, Some, None}
use Rattle.std.specs.Prelude.{IfSome, Result, Ok, Err, if◌then◌else◌}
use Rattle.fault_counts.specs.Faults.{raised}
use Rattle.file_traits.specs.declared.files.FileId.{FileId}
use Rattle.file_traits.specs.declared.files.FileCall.TheVariants as call
use Rattle.file_traits.specs.Lists.{overwritten}
use Rattle.file_traits.specs.State.{FileState}
use Rattle.unit_trait.specs.declared.kind.UnitName.{UnitName}
use Rattle.unit_files.specs.declared.faults.UnitFault.{UnitFault}
use Rattle.unit_files.specs.declared.faults.ByteAnswer.{ByteAnswer}
use Rattle.unit_files.specs.declared.faults.ByteAnswer.TheVariants as byte
use Rattle.unit_files.specs.Attachments.{Attachment}
use Rattle.unit_files.specs.Acts.{Failure}
use Rattle.unit_files.specs.Answers.{failure_in}
use Rattle.unit_files.specs.Buffer.{Buffer}
use Rattle.unit_files.specs.Causes.{IsQuiet}

-- A reading answers that nothing is there exactly where nothing is attached. A byte comes only from places below
-- 8 ^ 8, where alone a read is made; and a failed read wrote nothing.
abbrev pub MayRead : ByteAnswer → Option Attachment → ℕ → Type 0
MayRead (byte.Byte b) (Some a) place = place < 8 ^ 8
MayRead byte.End (Some a) place = Unit {0}
MayRead (byte.Failed f) (Some a) place = (place < 8 ^ 8) × (f.call ≡ call.Read) × (f.done ≡ 0)
MayRead byte.NoFile None place = Unit {0}
MayRead answer a place = ⊥

-- what a read of an open file may come to
abbrev pub IsOfRead : ByteAnswer → Type 0
IsOfRead (byte.Byte b) = Unit {0}
IsOfRead byte.End = Unit {0}
IsOfRead (byte.Failed f) = (f.call ≡ call.Read) × (f.done ≡ 0)
IsOfRead answer = ⊥

-- a failed write of a byte wrote at most that byte
abbrev pub WroteAtMostOne : ByteAnswer → Type 0
WroteAtMostOne (byte.Failed f) = (f.call ≡ call.Write) × (f.done ≤ 1)
WroteAtMostOne answer = Unit {0}

-- a failed call on an open file: its count has risen by one, and no other
pub record IsFaultAt (f : UnitFault) (unit : UnitName) (id : FileId) (old new : FileState) : Type 0 where
  pub unit_is : f.unit ≡ unit
  pub file_is : f.file ≡ Some id
  pub rose : new.faults id.0 ≡ raised (old.faults id.0)
  pub others : (other : ℕ) → other ≢ id.0 → new.faults other ≡ old.faults other
  pub openings : new.open_faults ≡ old.open_faults
  pub ids : new.given ≡ old.given

abbrev pub OpenCause : ByteAnswer → UnitName → FileId → FileState → FileState → Type 0
OpenCause (byte.Failed f) unit id old new = IsFaultAt f unit id old new
OpenCause answer unit id old new = IsQuiet old new

-- what a writing back of the disk's copy leaves of them
abbrev pub WriteCause : Result (Unit {0}) UnitFault → UnitName → FileId → FileState → FileState → Type 0
WriteCause (Ok u) unit id old new = IsQuiet old new
WriteCause (Err f) unit id old new = (f.call ≡ call.Write) × IsFaultAt f unit id old new

-- the failing write that a writing back claims
abbrev pub failure_of_writing : Result (Unit {0}) UnitFault → Option Failure
failure_of_writing (Ok u) = None
failure_of_writing (Err f) = Some (failure_in f)

-- what a write of a page at a place wrote of it, where `done` counts from the front of the file
abbrev pub page_done : Result (Unit {0}) UnitFault → ℕ → List ℕ → List ℕ
page_done (Ok u) place bytes = bytes
page_done (Err f) place bytes = take (f.done - place) bytes

-- the bytes of the file behind that; a page without a mark is not written
abbrev pub page_left : Result (Unit {0}) UnitFault → Bool → ℕ → List ℕ → List ℕ → List ℕ
page_left result mark place bytes old = if mark then overwritten old place (page_done result place bytes) else old

-- where it failed, the page was to be written and has bytes, and it ended within these
abbrev pub EndsWithin : Result (Unit {0}) UnitFault → Bool → ℕ → List ℕ → Type 0
EndsWithin (Ok u) mark place bytes = Unit {0}
EndsWithin (Err f) mark place bytes =
    (mark ≡ true) × (0 < length bytes) × (place ≤ f.done) × (f.done ≤ place + length bytes)

-- a write that failed wrote no more bytes than there are
abbrev pub IsPart : Option Failure → Buffer → Type 0
IsPart fault disk = IfSome fault (λ f. f.done ≤ length disk.bytes)

-- what a closing leaves of the counts
abbrev pub CloseCause : Option UnitFault → UnitName → FileId → FileState → FileState → Type 0
CloseCause None unit id old new = IsQuiet old new
CloseCause (Some f) unit id old new = (f.call ≡ call.Closing) × (f.done ≡ 0) × IsFaultAt f unit id old new
