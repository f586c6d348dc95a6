-- The memory of a Nova: a list of 32768 words, a size, and the rule of its auto-index locations. A place at or past the
-- size reads 0, and a write there does nothing.
use Rattle.std.specs.Prelude.{◌≡◌, ℕ, ◌-◌, ◌%◌, ◌^◌, ◌<◌, ◌≤◌, ◌==◌, ◌&&◌, Bool, false, List, All, ◌++◌, length, take, replicate}
use Rattle.std.specs.Prelude.{slice_index, slice_set, nat_lt, nat_le, if◌then◌else◌}

-- the words, and how many of them the machine has; and whether an indirect reference through an auto-index location tests
-- bit 0 of the word there before it changes that, and not of the changed word
pub record MemoryState : Type 0 where
  pub words : List ℕ
  pub size : ℕ
  pub before : Bool

-- what holds of every memory: it has its words, each of 16 bits, and those from the size on are 0
pub record IsMemory (m : MemoryState) : Type 0 where
  pub whole : length m.words ≡ 2 ^ 15
  pub words : All (λ w. w < 2 ^ 16) m.words
  pub size : m.size ≤ 2 ^ 15
  pub beyond : (a : ℕ) → m.size ≤ a → slice_index m.words a ≡ 0

-- the word that stands at an address
abbrev pub get : MemoryState → ℕ → ℕ
get m a = if nat_lt a m.size then slice_index m.words a else 0

-- the memory after that word was put at an address
abbrev pub put : MemoryState → ℕ → ℕ → MemoryState
put m a v = if nat_lt a m.size then record m { words = slice_set m.words a v } else m

-- the whole of a new machine's memory
unfoldable pub blank_words : List ℕ
blank_words = replicate (2 ^ 15) 0

-- what a new machine holds: 32768 words of 0. It tests bit 0 of the changed word.
abbrev pub blank : MemoryState
blank = record { words = blank_words; size = 2 ^ 15; before = false }

-- a size that a machine may be given: 4096 words or a multiple of that, up to 32768
pub record IsSize (words : ℕ) : Type 0 where
  pub step : words % 4096 ≡ 0
  pub least : 4096 ≤ words
  pub most : words ≤ 32768

-- the same of a number of K, which are 1024 words each: 4, 8 and so on up to 32
abbrev pub fits_size : ℕ → Bool
fits_size k = nat_le 4 k && nat_le k 32 && k % 4 == 0

-- the memory with that size: the words below it stay, and all others are 0
abbrev pub resized : MemoryState → ℕ → MemoryState
resized m words = record m { words = take words m.words ++ replicate (2 ^ 15 - words) 0; size = words }

-- the memory with that rule
abbrev pub by_rule : Bool → MemoryState → MemoryState
by_rule before m = record m { before = before }
