-- A memory that is given all its words at once.
use Rattle.std.specs.Prelude.{Bool, ℕ, ◌-◌, ◌^◌, List, ◌++◌, length, replicate}
use Rattle.nova_memory.specs.Memory.{MemoryState}

-- the memory of these words: as many as there are, and 0 behind them; and that rule
abbrev pub memory_of : Bool → List ℕ → MemoryState
memory_of before words = record {
  words = words ++ replicate (2 ^ 15 - length words) 0;
  size = length words;
  before = before;
}
