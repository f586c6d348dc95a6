-- A tape operation: what is done on the image of a drive's tape, and with its words in memory (SIMH Magtape Representation
-- and Handling). On a tape the high byte of each word stands first.
use Rattle.std.specs.Prelude.{ℕ, zero, suc, ◌+◌, ◌*◌, ◌/◌, ◌%◌, ◌^◌, ◌==◌, nat_le, nat_lt, min, Bool, true, false, List, [], ◌∷◌, ◌++◌, length, take, drop, slice_index, Option, Some, None, option_map, Result, Ok, Err, if◌then◌else◌}
use Rattle.file_traits.specs.declared.files.FileCall.{FileCall}
use Rattle.file_traits.specs.declared.files.FileCall.TheVariants.{Write, SetLength}
use Rattle.file_traits.specs.Lists.{resized}
use Rattle.file_traits.specs.OneList.{longest_list}
use Rattle.nova_memory.specs.Memory.{MemoryState, get, put}
use Rattle.unit_trait.specs.declared.calls.TapeEnd.{TapeEnd}
use Rattle.unit_trait.specs.declared.calls.TapeEnd.TheVariants as ends
use Rattle.unit_trait.specs.declared.calls.TapeGot.{TapeGot}
use Rattle.unit_trait.specs.declared.calls.TapeOrder.{TapeOrder}
use Rattle.unit_trait.specs.declared.calls.Got.{Got}
use Rattle.unit_trait.specs.declared.calls.Got.TheVariants as got
use Rattle.file_traits.specs.Failures.{Failure, failure_at}
use Rattle.simh_tape.specs.declared.items.TapeFault.TheVariants.{BadImage, Failed}
use Rattle.simh_tape.specs.declared.spacing.Spaced.{Spaced}
use Rattle.simh_tape.specs.declared.items.TapeFault.{TapeFault}
use Rattle.simh_tape.specs.Image.{Met}
use Rattle.simh_tape.specs.Image.Met.{BlockTo, MarkTo, MediumEnds, AtLoadPoint, BadAt, CallFails}
use Rattle.simh_tape.specs.Reading.{next_act}
use Rattle.simh_tape.specs.Spacing.{space_act}
use Rattle.simh_tape.specs.Writing.{block_bytes, mark_bytes, after_fault}
use Rattle.memory_transfer.specs.Words.{address_on}

-- why a unit gets no answer: a call on its file failed, or its tape's image is bad at a place
pub data NoAnswer : Type 0 where
  FileFails : Failure → NoAnswer
  ImageIsBad : ℕ → NoAnswer

-- ---- words of a block

-- how many words hold so many bytes
abbrev pub words_for : ℕ → ℕ
words_for bytes = (bytes + 1) / 2

-- the word with that number among bytes; the low byte of a last odd one is 0
unfoldable pub word_on_tape : List ℕ → ℕ → ℕ
word_on_tape bytes n = 2 ^ 8 * slice_index bytes (2 * n) + slice_index bytes (2 * n + 1)

-- memory once the first so many words of a block were put from an address on
unfoldable pub block_put : ℕ → ℕ → List ℕ → MemoryState → MemoryState
block_put zero from bytes memory = memory
block_put (suc n) from bytes memory = put (block_put n from bytes memory) (address_on from n) (word_on_tape bytes n)

abbrev pub bytes_on_tape : ℕ → List ℕ
bytes_on_tape w = (w / 2 ^ 8) ∷ (w % 2 ^ 8) ∷ []

-- the bytes of so many words of memory from an address on
unfoldable pub block_got : ℕ → ℕ → MemoryState → List ℕ
block_got zero from memory = []
block_got (suc n) from memory = block_got n from memory ++ bytes_on_tape (get memory (address_on from n))

-- ---- what an operation comes to

-- where it ended, the place of the tape then, how many words were written, and how many blocks were passed; no block was read
abbrev pub came_to : TapeEnd → ℕ → ℕ → ℕ → TapeGot
came_to end place words passed = record { end = end; place = place; words = words; passed = passed; odd = false; flagged = false; lost = false }

-- a block of so many bytes was read, of which memory takes so many words at the most
abbrev pub block_read : ℕ → ℕ → Bool → ℕ → TapeGot
block_read most bytes flagged behind = record {
  end = ends.Plain;
  place = behind;
  words = min (words_for bytes) most;
  passed = 0;
  odd = bytes % 2 == 1;
  flagged = flagged;
  lost = nat_lt most (words_for bytes);
}

-- a reading, by the item that is met. At the end of the medium the tape stays where it is.
abbrev pub read_answer : TapeOrder → Met → Result Got NoAnswer
read_answer order (BlockTo bytes flagged behind) = Ok (got.Tape (block_read order.count bytes flagged behind))
read_answer order (MarkTo behind) = Ok (got.Tape (came_to ends.Mark behind 0 0))
read_answer order MediumEnds = Ok (got.Tape (came_to ends.Medium order.place 0 0))
read_answer order AtLoadPoint = Ok (got.Tape (came_to ends.LoadPoint 0 0 0))
read_answer order (BadAt place) = Err (ImageIsBad place)
read_answer order (CallFails call) = Err (FileFails (record { call = call; done = 0 }))

-- a spacing
abbrev pub space_answer : Result Spaced TapeFault → Result Got NoAnswer
space_answer (Ok s) = Ok (got.Tape (came_to s.end s.place 0 s.passed))
space_answer (Err (BadImage place)) = Err (ImageIsBad place)
space_answer (Err (Failed call)) = Err (FileFails (record { call = call; done = 0 }))

-- ---- the failure of a call that an operation makes: that of another call is none of it

-- the first of two
abbrev pub first_failure : Option Failure → Option Failure → Option Failure
first_failure (Some f) other = Some f
first_failure None other = other

-- a call that writes nothing
abbrev pub with_nothing_done : Option Failure → Option Failure
with_nothing_done None = None
with_nothing_done (Some f) = Some (record f { done = 0 })

-- the tape is ended by setting the length
abbrev pub erasing_failure : Option Failure → Option Failure
erasing_failure fault = with_nothing_done (failure_at SetLength fault)

-- an item of so many bytes is written behind that, of which a write that fails wrote a first part
abbrev pub with_some_done : ℕ → Option Failure → Option Failure
with_some_done size None = None
with_some_done size (Some f) = Some (record f { done = min f.done size })

abbrev pub writing_failure : ℕ → Option Failure → Option Failure
writing_failure size fault = first_failure (erasing_failure fault) (with_some_done size (failure_at Write fault))

-- the call that fails, which a reading takes only where it makes that call
abbrev pub failing_call : Option Failure → Option FileCall
failing_call fault = option_map (λ f. f.call) fault

-- ---- what an operation answers

-- a writing of so many bytes. One that would pass the end of the longest tape is not begun.
abbrev pub put_answer : Option Failure → TapeOrder → ℕ → TapeEnd → ℕ → Result Got NoAnswer
put_answer fault order size end words =
    if nat_le (order.place + size) longest_list then done_or fault else Ok (got.Tape (came_to ends.Medium order.place 0 0))
  where
    done_or : Option Failure → Result Got NoAnswer
    done_or None = Ok (got.Tape (came_to end (order.place + size) words 0))
    done_or (Some f) = Err (FileFails f)

-- how many bytes the block has that is written of so many words, and a mark
abbrev pub block_written : ℕ → ℕ
block_written words = 2 * words + 8

abbrev pub mark_written : ℕ
mark_written = 4

-- An operation on an image, where no call fails or that one does, if it is one that the operation makes: reading, rewinding, spacing forward and in reverse,
-- writing a block, writing a mark, and erasing. Another command does nothing.
abbrev pub operation : Option Failure → List ℕ → TapeOrder → Result Got NoAnswer
operation fault image order =
    if order.command == 0 then read_answer order (next_act image order.place (failing_call fault))
    else if order.command == 1 then Ok (got.Tape (came_to ends.Plain 0 0 0))
    else if order.command == 3 then space_answer (space_act image order.place order.count true (failing_call fault))
    else if order.command == 4 then space_answer (space_act image order.place order.count false (failing_call fault))
    else if order.command == 5 then put_answer (writing_failure (block_written order.count) fault) order (block_written order.count) ends.Plain order.count
    else if order.command == 6 then put_answer (writing_failure mark_written fault) order mark_written ends.Mark 0
    else if order.command == 7 then put_answer (erasing_failure fault) order 0 ends.Plain 0
    else Ok got.Done

-- the commands that change the image
abbrev pub writes_tape : TapeOrder → Bool
writes_tape order = nat_le 5 order.command

-- memory once that item was met: the words of a block that was read stand there
abbrev pub memory_read : List ℕ → TapeOrder → Met → MemoryState → MemoryState
memory_read image order (BlockTo bytes flagged behind) memory =
    block_put (min (words_for bytes) order.count) order.address (take bytes (drop (order.place + 4) image)) memory
memory_read image order met memory = memory

abbrev pub memory_operated : Option Failure → List ℕ → TapeOrder → MemoryState → MemoryState
memory_operated fault image order memory =
    if order.command == 0 then memory_read image order (next_act image order.place (failing_call fault)) memory else memory

-- an image once an item was written at a place, where the tape then ends
abbrev pub item_written : Option Failure → ℕ → List ℕ → List ℕ → List ℕ
item_written fault place item old = if nat_le (place + length item) longest_list then behind fault else old
  where
    behind : Option Failure → List ℕ
    behind None = resized old place ++ item
    behind (Some f) = after_fault old place item f.call f.done

-- an image behind an operation
abbrev pub image_operated : Option Failure → MemoryState → TapeOrder → List ℕ → List ℕ
image_operated fault memory order old =
    if order.command == 5 then item_written (writing_failure (block_written order.count) fault) order.place (block_bytes (block_got order.count order.address memory)) old
    else if order.command == 6 then item_written (writing_failure mark_written fault) order.place mark_bytes old
    else if order.command == 7 then item_written (erasing_failure fault) order.place [] old
    else old
