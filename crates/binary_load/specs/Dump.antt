-- The tape that a dump is: blocks of 16 words, of which the last may be shorter, and a start block.
use Rattle.std.specs.Prelude.{ℕ, zero, suc, ◌+◌, ◌-◌, ◌/◌, ◌%◌, ◌^◌, List, [], ◌∷◌, ◌++◌, length, take, drop, sum}
use Rattle.nova_memory.specs.Memory.{MemoryState, get}

-- words as bytes, each with its low byte first
abbrev pub bytes_of : List ℕ → List ℕ
bytes_of [] = []
bytes_of (w ∷ words) = (w % 2 ^ 8) ∷ (w / 2 ^ 8) ∷ bytes_of words

-- the word with which others add up to 0
abbrev pub checksum : List ℕ → ℕ
checksum words = (2 ^ 16 - sum words % 2 ^ 16) % 2 ^ 16

-- a block
abbrev pub block : ℕ → ℕ → List ℕ → List ℕ
block count origin words = bytes_of (count ∷ origin ∷ checksum (count ∷ origin ∷ words) ∷ words)

-- a block of words for the addresses from an origin on
abbrev pub data_block : ℕ → List ℕ → List ℕ
data_block origin words = block (2 ^ 16 - length words) origin words

-- a start block
abbrev pub start_block : ℕ → List ℕ
start_block start = block 1 start []

-- so many blocks, each of the next 16 words, or of those that are left
unfoldable pub data_blocks : ℕ → ℕ → List ℕ → List ℕ
data_blocks zero origin words = []
data_blocks (suc more) origin words =
    data_block origin (take 16 words) ++ data_blocks more (origin + 16) (drop 16 words)

-- as many blocks as hold all words
abbrev pub blocks_of : ℕ → List ℕ → List ℕ
blocks_of origin words = data_blocks ((length words + 15) / 16) origin words

-- so many words of a memory from an address on
unfoldable pub words_from : MemoryState → ℕ → ℕ → List ℕ
words_from m at zero = []
words_from m at (suc more) = get m at ∷ words_from m (at + 1) more

-- the dump of a memory from one address up to another, with a start
abbrev pub dumped : MemoryState → ℕ → ℕ → ℕ → List ℕ
dumped m from to start = blocks_of from (words_from m from (to + 1 - from)) ++ start_block start
