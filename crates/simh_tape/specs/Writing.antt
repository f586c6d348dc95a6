-- What is written: the bytes of an item, and the image behind a call.
use Rattle.std.specs.Prelude.{ℕ, ◌%◌, ◌≡◌, List, ◌++◌, length, take, replicate, Result, Ok, Err}
use Rattle.std.specs.Int.{w32, to_le_bytes}
use Rattle.file_traits.specs.declared.files.FileCall.{FileCall}
use Rattle.file_traits.specs.declared.files.FileCall.TheVariants.{Opening, Length, Read, Write, SetLength, Closing}
use Rattle.file_traits.specs.Lists.{resized}
use Rattle.simh_tape.specs.declared.writing.PutFault.{PutFault}

-- the bytes of a word, the lowest first
abbrev pub word_bytes : ℕ → List ℕ
word_bytes word = to_le_bytes w32 word

-- a block as it is written: its length word, its data, one zero byte where their number is odd, and its length word again
abbrev pub block_bytes : List ℕ → List ℕ
block_bytes bytes = word_bytes (length bytes) ++ bytes ++ replicate (length bytes % 2) 0 ++ word_bytes (length bytes)

-- a tape mark is a word of zero
abbrev pub mark_bytes : List ℕ
mark_bytes = word_bytes 0

-- what was written of an item, by the answer
abbrev pub part_written : List ℕ → Result ℕ PutFault → List ℕ
part_written item (Ok behind) = item
part_written item (Err fault) = take fault.done item

-- the image where that call failed: a length that was not set changed nothing, and behind a write that failed the item's
-- first bytes stand there
abbrev pub after_fault : List ℕ → ℕ → List ℕ → FileCall → ℕ → List ℕ
after_fault bytes place item Opening done = bytes
after_fault bytes place item Length done = bytes
after_fault bytes place item Read done = bytes
after_fault bytes place item Write done = resized bytes place ++ take done item
after_fault bytes place item SetLength done = bytes
after_fault bytes place item Closing done = bytes

-- the image behind the writing of an item at a place: the bytes before the place, filled up to it with zeros, then the
-- item, and nothing behind it
abbrev pub after_writing : List ℕ → ℕ → List ℕ → Result ℕ PutFault → List ℕ
after_writing bytes place item (Ok behind) = resized bytes place ++ item
after_writing bytes place item (Err fault) = after_fault bytes place item fault.call fault.done

-- the image behind an erasing from a place on: it ends there
abbrev pub after_erasing : List ℕ → ℕ → Result (Unit {0}) PutFault → List ℕ
after_erasing bytes place (Ok u) = resized bytes place
after_erasing bytes place (Err fault) = bytes

-- a writing fails by setting the length, with nothing done, or by a write
abbrev pub FailsBy : FileCall → ℕ → Type 0
FailsBy Opening done = ⊥
FailsBy Length done = ⊥
FailsBy Read done = ⊥
FailsBy Write done = Unit {0}
FailsBy SetLength done = done ≡ 0
FailsBy Closing done = ⊥

abbrev pub FailsWriting : PutFault → Type 0
FailsWriting fault = FailsBy fault.call fault.done
