-- What a loader tape says (Data General's absolute binary format, as the binary loader of the Nova reads it): words for
-- addresses, and where the program starts.
use Rattle.std.specs.Prelude.{ℕ, zero, suc, ◌+◌, ◌-◌, ◌*◌, ◌%◌, ◌^◌, ◌==◌, nat_le, nat_lt, if◌then◌else◌, List, [], ◌∷◌}
use Rattle.std.specs.Prelude.{◌++◌, length, take, drop, replicate, slice_index, sum, Option, Some, None, Result, Ok, Err}
use Rattle.std.specs.List.{position}
use Rattle.nova_memory.specs.Memory.{MemoryState, put}
use Rattle.binary_load.specs.declared.faults.LoadFault.{LoadFault}
use Rattle.binary_load.specs.declared.faults.LoadFault.TheVariants.{Truncated, BadSum, PastMemory}
use Rattle.binary_load.specs.declared.faults.Start.{Start as Answer}
use Rattle.binary_load.specs.declared.blocks.Kind.{Kind}
use Rattle.binary_load.specs.declared.blocks.Kind.TheVariants.{Words, Repeated, Start, Ignored}

-- a word for an address
pub record Store : Type 0 where
  pub at : ℕ
  pub word : ℕ

-- words for the addresses from an origin on
abbrev pub stores_from : ℕ → List ℕ → List Store
stores_from origin [] = []
stores_from origin (w ∷ words) = record { at = origin; word = w } ∷ stores_from (origin + 1) words

-- the words that bytes are, each with its low byte first
abbrev pub words_of : List ℕ → List ℕ
words_of [] = []
words_of (low ∷ []) = []
words_of (low ∷ high ∷ rest) = (low + 2 ^ 8 * high) ∷ words_of rest

-- the word of the bytes at a place and behind it
abbrev pub word_at : List ℕ → ℕ → ℕ
word_at bytes place = slice_index bytes place + 2 ^ 8 * slice_index bytes (place + 1)

-- what a block is, by its first word, the count, as a signed number (2 ^ 16 - n stands for -n): from -1 to -16 it has that
-- many words; below -16 it has one word, for that many addresses; 1 is the start block, and above 1 a block is ignored
abbrev pub kind_of : ℕ → Kind
kind_of count =
    if nat_le (2 ^ 16 - 16) count then Words (2 ^ 16 - count)
    else if nat_le (2 ^ 15) count then Repeated (2 ^ 16 - count)
    else if count == 1 then Start
    else Ignored

-- Blocks but those that are ignored have a count, an origin, a checksum and words.

-- the fault of a block by itself, which begins at that place and has so many words behind its checksum: the bytes end
-- within it, or all its words do not add up to 0. `rest` is all bytes from its first one on
unfoldable pub block_fault : ℕ → List ℕ → ℕ → Option LoadFault
block_fault place rest words =
    if nat_lt (length rest) (6 + 2 * words) then Some (Truncated (place + length rest))
    else if sum (words_of (take (6 + 2 * words) rest)) % 2 ^ 16 == 0 then None
    else Some (BadSum place)

-- the fault of a block for so many addresses from an origin on, in a memory of that size: one of them is past it
abbrev pub past_fault : ℕ → ℕ → ℕ → Option LoadFault
past_fault size origin addresses = if nat_le (origin + addresses) size then None else Some (PastMemory origin)

-- the first fault of two
abbrev pub first_fault : Option LoadFault → Option LoadFault → Option LoadFault
first_fault (Some fault) other = Some fault
first_fault None other = other

-- the fault of a block for so many addresses
unfoldable pub stores_fault : ℕ → ℕ → List ℕ → ℕ → ℕ → Option LoadFault
stores_fault size place rest words addresses =
    first_fault (block_fault place rest words) (past_fault size (word_at rest 2) addresses)

-- what bytes begin with: so many that store something or nothing, the end of the tape with the start, or a fault
pub data Front : Type 0 where
  Passes : List Store → ℕ → Front
  Ends : Option ℕ → Front
  Faulty : LoadFault → Front

-- what a block says, if it has no fault
abbrev pub unless_faulty : Option LoadFault → Front → Front
unless_faulty None says = says
unless_faulty (Some fault) says = Faulty fault

-- the start that the origin of a start block is: none where its bit 0 is set
abbrev pub start_at : ℕ → Option ℕ
start_at origin = if nat_lt origin (2 ^ 15) then Some origin else None

-- a block that is ignored, by the place of the first byte of all ones behind its count, with which it ends
abbrev pub ignored_block : ℕ → List ℕ → Option ℕ → Front
ignored_block place rest (Some others) = Passes [] (2 + others + 1)
ignored_block place rest None = Faulty (Truncated (place + length rest))

-- a block of that kind
unfoldable pub block : ℕ → ℕ → List ℕ → Kind → Front
block size place rest (Words n) =
    unless_faulty (stores_fault size place rest n n)
    (Passes (stores_from (word_at rest 2) (words_of (take (2 * n) (drop 6 rest)))) (6 + 2 * n))
block size place rest (Repeated n) =
    unless_faulty (stores_fault size place rest 1 n)
    (Passes (stores_from (word_at rest 2) (replicate n (word_at rest 6))) 8)
block size place rest Start = unless_faulty (block_fault place rest 0) (Ends (start_at (word_at rest 2)))
block size place rest Ignored = ignored_block place rest (position (λ b. b == 0xff) (drop 2 rest))

-- the bytes from a place on, in front of a block or behind one: the tape ends with them, and a zero byte says nothing
unfoldable pub front : ℕ → ℕ → List ℕ → Front
front size place rest =
    if length rest == 0 then Ends None
    else if slice_index rest 0 == 0 then Passes [] 1
    else if length rest == 1 then Faulty (Truncated (place + length rest))
    else block size place rest (kind_of (word_at rest 0))

-- what a tape says: its stores in their order, and the start
pub record Tape : Type 0 where
  pub stores : List Store
  pub start : Option ℕ

-- what a tape says, with stores before its own
abbrev pub with_stores : List Store → Result Tape LoadFault → Result Tape LoadFault
with_stores stores (Ok tape) = Ok (record tape { stores = stores ++ tape.stores })
with_stores stores (Err fault) = Err fault

-- what a tape says, by what it begins with and by what is said behind that
abbrev pub continued : Front → (ℕ → Result Tape LoadFault) → Result Tape LoadFault
continued (Passes stores bytes) behind = with_stores stores (behind bytes)
continued (Ends start) behind = Ok (record { stores = []; start = start })
continued (Faulty fault) behind = Err fault

-- what up to so many blocks and zero bytes from a place on say
unfoldable pub reading : ℕ → ℕ → ℕ → List ℕ → Result Tape LoadFault
reading zero size place rest = Ok (record { stores = []; start = None })
reading (suc left) size place rest =
    continued (front size place rest) (λ bytes. reading left size (place + bytes) (drop bytes rest))

-- what the bytes from a place on say: they have no more blocks and zero bytes than bytes
abbrev pub tape_from : ℕ → ℕ → List ℕ → Result Tape LoadFault
tape_from size place rest = reading (length rest) size place rest

-- what a tape says for a memory of that size, or its first fault
abbrev pub tape : ℕ → List ℕ → Result Tape LoadFault
tape size bytes = tape_from size 0 bytes

-- the memory after stores, one behind another
abbrev pub put_all : MemoryState → List Store → MemoryState
put_all m [] = m
put_all m (store ∷ stores) = put_all (put m store.at store.word) stores

-- the memory after a tape: one with a fault stores nothing
abbrev pub loaded : MemoryState → Result Tape LoadFault → MemoryState
loaded m (Ok tape) = put_all m tape.stores
loaded m (Err fault) = m

-- what is answered of a tape
abbrev pub answer : Result Tape LoadFault → Result Answer LoadFault
answer (Ok tape) = Ok (record { at = tape.start })
answer (Err fault) = Err fault
