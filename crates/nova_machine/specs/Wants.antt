-- What the machine does for a unit whose event is due.
use Rattle.std.specs.Prelude.{ℕ, ◌+◌, ◌<◌, ◌==◌, ◌≡◌, IsTrue, false, List, [], ◌∷◌, Option, Some, None, option_map, Result, Ok, Err, if◌then◌else◌}
use Rattle.observations.specs.Observations.{Observation, Prints}
use Rattle.file_traits.specs.declared.files.FileCall.{FileCall}
use Rattle.file_traits.specs.declared.files.FileCall.TheVariants as call
use Rattle.file_traits.specs.Lists.{NamedBytes}
use Rattle.unit_trait.specs.declared.kind.Kind.{Kind}
use Rattle.unit_trait.specs.declared.kind.UnitName.{UnitName}
use Rattle.unit_trait.specs.Kinds.{units_of}
use Rattle.unit_trait.specs.declared.calls.Want.{Want}
use Rattle.unit_trait.specs.declared.calls.Want.TheVariants as want
use Rattle.unit_trait.specs.declared.calls.Got.{Got}
use Rattle.unit_trait.specs.declared.calls.Got.TheVariants as got
use Rattle.unit_trait.specs.declared.calls.UnitStop.{UnitStop}
use Rattle.unit_trait.specs.declared.calls.UnitStop.TheVariants as unit_stop
use Rattle.unit_files.specs.Attachments.{Attachment, is_disk, is_tape}
use Rattle.unit_files.specs.Acts.{Failure, ByteSaid, ByteIs, WasWritten, AtEnd, NothingThere, ByteFailed, read_act, write_act, write_files}
use Rattle.unit_files.specs.Buffer.{Buffer}
use Rattle.nova_memory.specs.Memory.{MemoryState}
use Rattle.expect_actions.specs.Expects.{ExpectTable, match_at, after_printed}
use Rattle.expect_actions.specs.Sends.{sends_left}
use Rattle.expect_actions.specs.Watch.{WatchState}
use Rattle.nova_machine.specs.Sectors.{got_of_sector, said_of_sector, memory_after}
use Rattle.memory_transfer.specs.Tapes.{NoAnswer, FileFails, ImageIsBad, with_nothing_done, with_some_done}
use Rattle.nova_machine.specs.Drives.{tape_answer, tape_memory, tape_files}
use Rattle.nova_machine.specs.declared.machine.Stop.{Stop}
use Rattle.nova_machine.specs.declared.machine.Stop.TheVariants.{UnitEnd, UnitNone, BadImage, FileFault, Wru, Expect}
pub use Rattle.memory_transfer.specs.Operated.{IsRunDone}

-- the key that comes where a byte was sent to the keyboard and is due, and where a key is typed: the byte comes first
abbrev pub first_key : Option ℕ → Option ℕ → Option ℕ
first_key None typed = typed
first_key (Some sent) typed = Some sent

-- the typed key is taken only where no sent byte comes first
abbrev pub typed_key : Option ℕ → Option ℕ → Option ℕ
typed_key None typed = typed
typed_key (Some sent) typed = None

-- the key that stops a run: control E
abbrev pub wru : ℕ
wru = 5

-- a key for the console's keyboard; none comes where the key stops the run
abbrev pub got_of_key : Option ℕ → Got
got_of_key None = got.NoKey
got_of_key (Some key) = if key == wru then got.NoKey else got.Key key

-- what the answer of a byte act means for the unit, or its failure
abbrev pub got_of_byte : ByteSaid → Result Got NoAnswer
got_of_byte (ByteIs byte) = Ok (got.Byte byte)
got_of_byte WasWritten = Ok got.Done
got_of_byte AtEnd = Ok got.End
got_of_byte NothingThere = Ok got.NoFile
got_of_byte (ByteFailed f) = Err (FileFails f)

-- The machine's answer to what a unit wants that has this attachment, where this key is due, or the failure of the call on
-- the unit's file, where it is the call that is made: a read that fails has done nothing, and a write of a byte at most
-- that. On a line that is not there no key comes, and a byte for it goes nowhere.
abbrev pub answer_to : Option Failure → Option Attachment → List NamedBytes → Option ℕ → Want → Result Got NoAnswer
answer_to fault a files key want.Nothing = Ok got.Done
answer_to fault a files key want.Key = Ok (got_of_key key)
answer_to fault a files key (want.LineKey line) = Ok got.NoKey
answer_to fault a files key (want.Console byte) = Ok got.Done
answer_to fault a files key (want.LinePut line byte) = Ok got.Done
answer_to fault a files key (want.ReadByte place) = got_of_byte (read_act (with_nothing_done fault) a place files)
answer_to fault a files key (want.WriteByte place byte) = got_of_byte (write_act (with_some_done 1 fault) a place)
answer_to fault a files key (want.Sector write sector from) = Ok (got_of_sector (said_of_sector write a))
answer_to fault a files key (want.Tape order) = tape_answer fault a files order

-- the files once that was done by a machine with this memory
abbrev pub files_after : Option Failure → Option Attachment → MemoryState → List NamedBytes → Want → List NamedBytes
files_after fault a memory files (want.WriteByte place byte) = write_files (with_some_done 1 fault) a place byte files
files_after fault a memory files (want.Tape order) = tape_files fault a memory files order
files_after fault a memory files other = files

-- the memory once that was done: the words of a sector or of a block of a tape were read into it
abbrev pub memory_behind : Option Failure → Option Attachment → List NamedBytes → Buffer → Want → MemoryState → MemoryState
memory_behind fault a files disk (want.Tape order) memory = tape_memory fault a files order memory
memory_behind fault a files disk other memory = memory_after a disk other memory

-- how many keys were taken once that was done
abbrev pub taken_after : ℕ → Option ℕ → Want → ℕ
taken_after taken (Some key) want.Key = taken + 1
taken_after taken key other = taken

-- how the watch tables stand at that time once that was done: a byte that was sent is taken, and a printed one is waited for
abbrev pub watch_after : ℕ → Want → WatchState → WatchState
watch_after time want.Key watch = record watch { sends = sends_left time watch.sends }
watch_after time (want.Console byte) watch = record watch { expects = after_printed byte watch.expects }
watch_after time other watch = watch

-- a key that stops a run was taken
abbrev pub key_stop : Option ℕ → Option Stop
key_stop None = None
key_stop (Some key) = if key == wru then Some Wru else None

-- the stop that the machine has for itself: a key that stops a run was taken, or the text was printed that is waited for
abbrev pub own_stop : Option ℕ → ExpectTable → Want → Option Stop
own_stop key expects want.Key = key_stop key
own_stop key expects (want.Console byte) = option_map Expect (match_at byte expects)
own_stop key expects other = None

-- a byte for the console is printed
abbrev pub IsConsole : Want → Type 0
IsConsole (want.Console byte) = Unit {0}
IsConsole other = ⊥

-- the bytes that are printed
abbrev pub bytes_of : Want → List ℕ
bytes_of (want.Console byte) = byte ∷ []
bytes_of other = []

-- what is printed, with the state in which it is to be printed
abbrev pub prints : {S : Type 0} → Want → S → List (Observation S)
prints (want.Console byte) s = Prints (byte ∷ []) s ∷ []
prints other s = []

-- the stop of a unit that stops the machine
abbrev pub stop_by : UnitName → UnitStop → Option Stop
stop_by unit unit_stop.Go = None
stop_by unit unit_stop.End = Some (UnitEnd unit)
stop_by unit unit_stop.NoFile = Some (UnitNone unit)

-- the stop of a unit that gets no answer
abbrev pub unanswered : UnitName → NoAnswer → Stop
unanswered unit (FileFails f) = FileFault (record { unit = unit; file = None; call = f.call; done = f.done })
unanswered unit (ImageIsBad place) = BadImage unit place

-- The calls on files that a run makes: those for a byte, and those of an operation on a tape. It makes none on the disk's.
abbrev pub IsRunCall : Kind → FileCall → Type 0
IsRunCall kind call.Read = is_disk kind ≡ false
IsRunCall kind call.Write = is_disk kind ≡ false
IsRunCall kind call.Length = IsTrue (is_tape kind)
IsRunCall kind call.SetLength = IsTrue (is_tape kind)
IsRunCall kind call = ⊥

-- The unit that a stop names, if it names one, is a unit of its kind, its call is one that a run makes, and no more was
-- written than that call can have.
abbrev pub HasUnit : Stop → Type 0
HasUnit (UnitEnd unit) = unit.unit < units_of unit.kind
HasUnit (UnitNone unit) = unit.unit < units_of unit.kind
HasUnit (BadImage unit place) = unit.unit < units_of unit.kind
HasUnit (FileFault f) = (f.unit.unit < units_of f.unit.kind) × IsRunCall f.unit.kind f.call × IsRunDone f.call f.done
HasUnit stop = Unit {0}
