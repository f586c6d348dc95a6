-- What is done with the files of units, on all files by their names. A call on a file fails exactly where the outside
-- says so; the numbers of open files are no part of this.
use Rattle.std.specs.Prelude.{ℕ, ◌&&◌, Bool, true, false, nat_lt, List, [], ◌∷◌, ◌++◌, length, take, drop, get_or, Option, Some}
use Rattle.std.specs.Prelude.{None, is_some, if◌then◌else◌}
use Rattle.file_traits.specs.declared.files.FileCall.TheVariants.{Opening, Length, Read, Write, Closing}
pub use Rattle.file_traits.specs.Failures.{Failure, same_call, failure_at}
use Rattle.file_traits.specs.Lists.{NamedBytes, find_file, bytes_of, with_file, changed, overwritten}
use Rattle.unit_trait.specs.declared.kind.UnitName.{UnitName}
use Rattle.unit_files.specs.declared.modes.AttachMode.{AttachMode}
use Rattle.unit_files.specs.declared.modes.AttachMode.TheVariants.{Any, MustExist, New, ReadOnly}
use Rattle.unit_files.specs.Attachments.{Attachment, attachment_at, with_attachment, longest_file, is_disk, only_writes}
use Rattle.unit_files.specs.Buffer.{Buffer, no_buffer}

-- ---- a file is attached

-- what an attaching says: the file's length, or why it was refused
pub data AttachSaid : Type 0 where
  Attached : ℕ → AttachSaid
  UnitHasFile : AttachSaid
  OnlyWrites : AttachSaid
  NotThere : AttachSaid
  TooLong : AttachSaid
  CallFailed : Failure → AttachSaid

abbrev pub is_read_only : AttachMode → Bool
is_read_only ReadOnly = true
is_read_only mode = false

-- a refusal before any call on a file
abbrev pub refused_first : Option Attachment → UnitName → AttachMode → Option AttachSaid
refused_first (Some a) unit mode = Some UnitHasFile
refused_first None unit mode = if is_read_only mode && only_writes unit.kind then Some OnlyWrites else None

-- the files once that one was opened; none where it is not there and is to be
abbrev pub opened_files : AttachMode → List ℕ → List NamedBytes → Option (List NamedBytes)
opened_files Any name files = if is_some (find_file files name) then Some files else Some (with_file files name [])
opened_files New name files = Some (with_file files name [])
opened_files MustExist name files = if is_some (find_file files name) then Some files else None
opened_files ReadOnly name files = if is_some (find_file files name) then Some files else None

-- the read that fails, if one is made: the disk reads its file, where that has any bytes
abbrev pub reading_failure : Option Failure → UnitName → ℕ → Option Failure
reading_failure fault unit count = if is_disk unit.kind && nat_lt 0 count then failure_at Read fault else None

abbrev pub read_whole : Option Failure → ℕ → AttachSaid
read_whole (Some f) count = CallFailed f
read_whole None count = Attached count

abbrev pub measured_as : Option Failure → Option Failure → UnitName → ℕ → AttachSaid
measured_as (Some f) fault unit count = CallFailed f
measured_as None fault unit count =
    if nat_lt (longest_file unit.kind) count then TooLong else read_whole (reading_failure fault unit count) count

-- an open file of so many bytes becomes a unit's where it is not too long
abbrev pub measured : Option Failure → UnitName → ℕ → AttachSaid
measured fault unit count = measured_as (failure_at Length fault) fault unit count

abbrev pub opened_said : Option Failure → UnitName → List ℕ → Option (List NamedBytes) → AttachSaid
opened_said fault unit name None = NotThere
opened_said fault unit name (Some files) = measured fault unit (length (bytes_of files name))

abbrev pub opening_said : Option Failure → Option Failure → AttachMode → UnitName → List ℕ → List NamedBytes
    → AttachSaid
opening_said (Some f) fault mode unit name files = CallFailed f
opening_said None fault mode unit name files = opened_said fault unit name (opened_files mode name files)

abbrev pub said_unless : Option AttachSaid → Option Failure → AttachMode → UnitName → List ℕ → List NamedBytes
    → AttachSaid
said_unless (Some refusal) fault mode unit name files = refusal
said_unless None fault mode unit name files = opening_said (failure_at Opening fault) fault mode unit name files

-- A unit takes a file: it is refused where the unit has one, and where a unit that only writes is to read only. Then
-- the file is opened, its length is asked for, and a file that is too long is refused. The disk reads it whole.
unfoldable pub attach_said : Option Failure → AttachMode → UnitName → List ℕ → List (Option Attachment)
    → List NamedBytes → AttachSaid
attach_said fault mode unit name attached files =
    said_unless (refused_first (attachment_at attached unit) unit mode) fault mode unit name files

abbrev pub files_where : Option (List NamedBytes) → List NamedBytes → List NamedBytes
files_where (Some files) old = files
files_where None old = old

abbrev pub files_unless_opening : Option Failure → AttachMode → List ℕ → List NamedBytes → List NamedBytes
files_unless_opening (Some f) mode name files = files
files_unless_opening None mode name files = files_where (opened_files mode name files) files

abbrev pub files_unless : Option AttachSaid → Option Failure → AttachMode → List ℕ → List NamedBytes → List NamedBytes
files_unless (Some refusal) fault mode name files = files
files_unless None fault mode name files = files_unless_opening (failure_at Opening fault) mode name files

-- the files behind that: one may have been made or emptied, also where the unit was refused it afterwards
unfoldable pub attach_files : Option Failure → AttachMode → UnitName → List ℕ → List (Option Attachment)
    → List NamedBytes → List NamedBytes
attach_files fault mode unit name attached files =
    files_unless (refused_first (attachment_at attached unit) unit mode) fault mode name files

-- what is attached behind that
abbrev pub attached_by : AttachSaid → AttachMode → UnitName → List ℕ → List (Option Attachment)
    → List (Option Attachment)
attached_by (Attached count) mode unit name attached =
    with_attachment attached unit (Some (record { name = name; read_only = is_read_only mode }))
attached_by said mode unit name attached = attached

-- the disk's copy behind that, where its file has these bytes
abbrev pub buffer_by : AttachSaid → UnitName → List ℕ → Buffer → Buffer
buffer_by (Attached count) unit bytes disk =
    if is_disk unit.kind then record { bytes = bytes; written = false } else disk
buffer_by said unit bytes disk = disk

-- ---- what the disk holds of its file is written back

-- whether there is something to write back
abbrev pub is_due_back : UnitName → Buffer → Bool
is_due_back unit disk = is_disk unit.kind && disk.written

-- the write that fails, if one is made
abbrev pub flush_failure : Option Failure → UnitName → Buffer → Option Failure
flush_failure fault unit disk = if is_due_back unit disk then failure_at Write fault else None

-- what it says: the unit has no file, or the write failed, or the copy and the file are one
pub data FlushSaid : Type 0 where
  HasNone : FlushSaid
  NotFlushed : Failure → FlushSaid
  Flushed : FlushSaid

abbrev pub flushed_as : Option Failure → FlushSaid
flushed_as (Some f) = NotFlushed f
flushed_as None = Flushed

abbrev pub flush_said : Option Failure → UnitName → Option Attachment → Buffer → FlushSaid
flush_said fault unit None disk = HasNone
flush_said fault unit (Some a) disk = flushed_as (flush_failure fault unit disk)

abbrev pub piece_of : Option Failure → List ℕ → List ℕ
piece_of (Some f) piece = take f.done piece
piece_of None piece = piece

-- the bytes of a copy over those of its file: all of them; or, where the write fails, those that it wrote, in front of what
-- the file has from there on
abbrev pub written_over : Option Failure → List ℕ → List ℕ → List ℕ
written_over (Some f) bytes old = take f.done bytes ++ drop f.done old
written_over None bytes old = bytes

-- the bytes of a file once the copy was written back over it
abbrev pub written_back : Option Failure → Buffer → List ℕ → List ℕ
written_back fault disk old = written_over (failure_at Write fault) disk.bytes old

-- the files behind that
unfoldable pub flush_files : Option Failure → UnitName → Option Attachment → Buffer → List NamedBytes → List NamedBytes
flush_files fault unit None disk files = files
flush_files fault unit (Some a) disk files =
    if is_due_back unit disk then changed files a.name (written_back fault disk) else files

-- the disk's copy behind that
abbrev pub buffer_flushed : FlushSaid → UnitName → Buffer → Buffer
buffer_flushed Flushed unit disk = if is_disk unit.kind then record disk { written = false } else disk
buffer_flushed said unit disk = disk

-- ---- A file is detached: what the disk holds of it is written back, and then it is closed. The unit has none behind
-- that, also where the closing fails; where the write fails, it keeps it.

-- what a detaching says: the unit had no file, or it still has it, or it has none now; then its closing may have failed
pub data DetachSaid : Type 0 where
  HadNone : DetachSaid
  StillHeld : Failure → DetachSaid
  Detached : Option Failure → DetachSaid

abbrev pub closing_said : Option Failure → Option Failure → DetachSaid
closing_said (Some f) fault = StillHeld f
closing_said None fault = Detached (failure_at Closing fault)

abbrev pub detach_said_of : Option Failure → UnitName → Option Attachment → Buffer → DetachSaid
detach_said_of fault unit None disk = HadNone
detach_said_of fault unit (Some a) disk = closing_said (flush_failure fault unit disk) fault

abbrev pub detach_said : Option Failure → UnitName → List (Option Attachment) → Buffer → DetachSaid
detach_said fault unit attached disk = detach_said_of fault unit (attachment_at attached unit) disk

abbrev pub detached : UnitName → List (Option Attachment) → List (Option Attachment)
detached unit attached = with_attachment attached unit None

-- what is attached behind that
abbrev pub detached_by : DetachSaid → UnitName → List (Option Attachment) → List (Option Attachment)
detached_by (StillHeld f) unit attached = attached
detached_by said unit attached = detached unit attached

-- the disk's copy behind that
abbrev pub buffer_left : DetachSaid → UnitName → Buffer → Buffer
buffer_left (Detached fault) unit disk = if is_disk unit.kind then no_buffer else disk
buffer_left said unit disk = disk

-- ---- a byte of a unit's file

-- how many bytes of its file a paper tape unit or the printer sees: 8 ^ 8, which is 2 ^ 24
unfoldable pub most_bytes : ℕ
most_bytes = 16777216

-- what the answer of a byte act says
pub data ByteSaid : Type 0 where
  ByteIs : ℕ → ByteSaid
  WasWritten : ByteSaid
  AtEnd : ByteSaid
  NothingThere : ByteSaid
  ByteFailed : Failure → ByteSaid

abbrev pub byte_at : List ℕ → ℕ → ByteSaid
byte_at bytes place = if nat_lt place (length bytes) then ByteIs (get_or bytes place 0) else AtEnd

abbrev pub read_said : Option Failure → List ℕ → ℕ → ByteSaid
read_said (Some f) bytes place = ByteFailed f
read_said None bytes place = byte_at bytes place

-- the byte at a place of a unit's file, unless that read fails; past the bytes that the unit sees nothing is read
unfoldable pub read_act : Option Failure → Option Attachment → ℕ → List NamedBytes → ByteSaid
read_act fault None place files = NothingThere
read_act fault (Some a) place files =
    if nat_lt place most_bytes then read_said (failure_at Read fault) (bytes_of files a.name) place else AtEnd

abbrev pub write_said : Option Failure → ByteSaid
write_said (Some f) = ByteFailed f
write_said None = WasWritten

-- a byte is written at a place of a unit's file, unless that write fails; past the bytes that the unit sees none is
unfoldable pub write_act : Option Failure → Option Attachment → ℕ → ByteSaid
write_act fault None place = NothingThere
write_act fault (Some a) place = if nat_lt place most_bytes then write_said (failure_at Write fault) else AtEnd

-- the bytes of a file once one was written at a place
abbrev pub byte_written : Option Failure → ℕ → ℕ → List ℕ → List ℕ
byte_written fault place byte old = overwritten old place (piece_of (failure_at Write fault) (byte ∷ []))

-- the files behind that: a failed write wrote its first `done` bytes
unfoldable pub write_files : Option Failure → Option Attachment → ℕ → ℕ → List NamedBytes → List NamedBytes
write_files fault None place byte files = files
write_files fault (Some a) place byte files =
    if nat_lt place most_bytes then changed files a.name (byte_written fault place byte) else files
