-- A state file is read piece by piece: what is answered of it.
use Rattle.std.specs.Prelude.{◌≡◌, ℕ, ◌<◌, ◌≤◌, List, length, Option, Some, None, IfSome, Result, Ok, Err}
use Rattle.std.specs.Global.{Vec}
use Rattle.file_traits.specs.declared.files.FileCall.TheVariants.{Length, Read}
use Rattle.file_traits.specs.declared.files.FileId.{FileId}
use Rattle.file_traits.specs.Lists.{NamedBytes, bytes_of}
use Rattle.whole_files.specs.declared.whole.FailedCall.{FailedCall}
use Rattle.whole_files.specs.declared.whole.Whole.{Whole}
use Rattle.whole_files.specs.declared.whole.WholeFault.{WholeFault}
use Rattle.whole_files.specs.declared.whole.WholeFault.TheVariants as fault
use Rattle.whole_files.specs.Claims.{claimed, said_of_bytes}
use Rattle.whole_files.specs.Whole.{WholeSaid, WholeIs, longest_file, whole_act}
use Rattle.state_text.specs.declared.state_reader.StateReader.{StateReader}
use Rattle.state_text.specs.Pieces.{IsFed}
use Rattle.state_commands.specs.declared.state_reading.StateRead.{StateRead}
use Rattle.state_commands.specs.declared.state_reading.Unread.{Unread}
use Rattle.state_commands.specs.declared.state_reading.Unread.TheVariants as unread

-- some bytes were fed to it
abbrev pub WasFed : StateReader → Type 0
WasFed reader = (bytes : List ℕ) × IsFed reader bytes

-- what may be answered of a file with these bytes
abbrev pub IsUnread : List ℕ → Unread → Type 0
IsUnread bytes unread.TooLong = longest_file < length bytes
IsUnread bytes unread.OutOfMemory = length bytes ≤ longest_file
IsUnread bytes unread.LengthFailed = Unit {0}
IsUnread bytes unread.ReadFailed = (length bytes ≤ longest_file) × (0 < length bytes)

abbrev pub IsReadFor : List ℕ → Result StateReader Unread → Type 0
IsReadFor bytes (Ok reader) = (length bytes ≤ longest_file) × IsFed reader bytes
IsReadFor bytes (Err u) = IsUnread bytes u

abbrev pub IsFedFrom : List ℕ → Result (Unit {0}) Unread → StateReader → Type 0
IsFedFrom bytes (Ok u) reader = (length bytes ≤ longest_file) × IsFed reader bytes
IsFedFrom bytes (Err u) reader = IsUnread bytes u

-- how many calls have failed
abbrev pub failures_of : Unread → ℕ
failures_of unread.TooLong = 0
failures_of unread.OutOfMemory = 0
failures_of unread.LengthFailed = 1
failures_of unread.ReadFailed = 1

abbrev pub read_failures : Result StateReader Unread → ℕ
read_failures (Ok reader) = 0
read_failures (Err u) = failures_of u

abbrev pub feeding_failures : Result (Unit {0}) Unread → ℕ
feeding_failures (Ok u) = 0
feeding_failures (Err u) = failures_of u

-- what is answered in the end, and the failing call that is claimed
abbrev pub answer_of : Result StateReader Unread → Result StateReader WholeFault
answer_of (Ok reader) = Ok reader
answer_of (Err unread.TooLong) = Err fault.TooLong
answer_of (Err unread.OutOfMemory) = Err fault.OutOfMemory
answer_of (Err unread.LengthFailed) = Err fault.Failed
answer_of (Err unread.ReadFailed) = Err fault.Failed

abbrev pub failure_of : FileId → Result StateReader Unread → Option FailedCall
failure_of file (Err unread.LengthFailed) = Some (record { file = Some file; call = Length })
failure_of file (Err unread.ReadFailed) = Some (record { file = Some file; call = Read })
failure_of file read = None

-- the words of memory that were read so far
abbrev pub words_read : StateReader → Vec ℕ
words_read reader = reader.reading.part.behind.first.items

-- The same answer as one of a file that is read whole. Of its bytes it says nothing: the words of memory stand for them.
abbrev pub bytes_for : Result StateReader WholeFault → Result (Vec ℕ) WholeFault
bytes_for (Ok reader) = Ok (words_read reader)
bytes_for (Err why) = Err why

abbrev pub whole_of : StateRead → Whole
whole_of r = record { bytes = bytes_for r.reader; failed = r.failed; closing = r.closing }

-- what is said of a file with these bytes
abbrev pub said_for : List ℕ → Result StateReader WholeFault → Option WholeSaid
said_for bytes (Ok reader) = Some (WholeIs bytes)
said_for bytes (Err why) = said_of_bytes (Err why)

abbrev pub IsFedWith : List ℕ → Result StateReader WholeFault → Type 0
IsFedWith bytes (Ok reader) = IsFed reader bytes
IsFedWith bytes (Err why) = Unit {0}

-- it is said of the file of a name, and the reader was fed its bytes
pub record SaysOfFile (name : List ℕ) (files : List NamedBytes) (r : StateRead) : Type 0 where
  pub fed : IsFedWith (bytes_of files name) r.reader
  pub said : IfSome (said_for (bytes_of files name) r.reader) (λ said.
      whole_act (claimed (whole_of r)) name files ≡ (said, length (claimed (whole_of r))))
