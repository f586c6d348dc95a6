-- Tapes of words that do not all stand one behind another: words for the addresses from one place on, then from another.
use Rattle.std.specs.Prelude.{ℕ, ◌+◌, ◌^◌, ◌≤◌, ◌==◌, List, [], ◌∷◌, ◌++◌, length, Option, Some, None, if◌then◌else◌}
use Rattle.binary_load.specs.Tape.{Store, stores_from}
use Rattle.binary_load.specs.Dump.{blocks_of, start_block}

-- words for the addresses from an origin on
pub record Run : Type 0 where
  pub origin : ℕ
  pub words : List ℕ

-- the blocks of runs, each run behind the one before
abbrev pub blocks_of_runs : List Run → List ℕ
blocks_of_runs [] = []
blocks_of_runs (run ∷ runs) = blocks_of run.origin run.words ++ blocks_of_runs runs

-- what runs store, in their order
abbrev pub stores_of_runs : List Run → List Store
stores_of_runs [] = []
stores_of_runs (run ∷ runs) = stores_from run.origin run.words ++ stores_of_runs runs

-- runs whose addresses are all in a memory of that size
abbrev pub AreWithin : ℕ → List Run → Type 0
AreWithin size [] = Unit {0}
AreWithin size (run ∷ runs) = (run.origin + length run.words ≤ size) × AreWithin size runs

-- the origin of a start block: bit 0 alone where there is no start
abbrev pub start_origin : Option ℕ → ℕ
start_origin None = 2 ^ 15
start_origin (Some start) = start

-- the tape of runs, with a start or none
abbrev pub tape_of_runs : List Run → Option ℕ → List ℕ
tape_of_runs runs start = blocks_of_runs runs ++ start_block (start_origin start)

-- the first of two words that there is
abbrev pub first_word : Option ℕ → Option ℕ → Option ℕ
first_word (Some w) other = Some w
first_word None other = other

-- the word of the last of these stores to an address
abbrev pub last_word : ℕ → List Store → Option ℕ
last_word a [] = None
last_word a (store ∷ stores) = first_word (last_word a stores) (if store.at == a then Some store.word else None)
