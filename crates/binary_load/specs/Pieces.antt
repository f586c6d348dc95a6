-- What the pieces that a tape is read in stand for.
use Rattle.std.specs.Prelude.{ℕ, ◌+◌, ◌*◌, ◌<◌, ◌≤◌, List, [], length, take, drop, replicate, None, Result, Ok, Err}
use Rattle.binary_load.specs.declared.faults.LoadFault.{LoadFault}
use Rattle.binary_load.specs.declared.blocks.Stores.{Stores}
use Rattle.binary_load.specs.declared.blocks.Stores.TheVariants.{Nothing, Words, Repeated}
use Rattle.binary_load.specs.declared.blocks.Item.{Item}
use Rattle.binary_load.specs.declared.blocks.Item.TheVariants.{Passed, Start, End}
use Rattle.binary_load.specs.Tape.{Store, Front, stores_from, words_of, start_at}
use Rattle.binary_load.specs.Tape.Front.{Passes, Ends, Faulty}

-- the stores of a block that the bytes begin with
abbrev pub stores_in : List ℕ → Stores → List Store
stores_in rest Nothing = []
stores_in rest (Words origin count) = stores_from origin (words_of (take (2 * count) (drop 6 rest)))
stores_in rest (Repeated origin word count) = stores_from origin (replicate count word)

-- what bytes begin with, by what was found there
abbrev pub found : List ℕ → Result Item LoadFault → Front
found rest (Ok (Passed stores bytes)) = Passes (stores_in rest stores) bytes
found rest (Ok (Start origin)) = Ends (start_at origin)
found rest (Ok End) = Ends None
found rest (Err fault) = Faulty fault

-- stores that are all in a memory of that size, and whose words are in the bytes
abbrev pub AreWithin : ℕ → List ℕ → Stores → Type 0
AreWithin size rest Nothing = Unit {0}
AreWithin size rest (Words origin count) = (origin + count ≤ size) × (6 + 2 * count ≤ length rest)
AreWithin size rest (Repeated origin word count) = origin + count ≤ size

-- what was found is within the memory, and within the bytes
abbrev pub IsWithin : ℕ → List ℕ → Item → Type 0
IsWithin size rest (Passed stores bytes) = AreWithin size rest stores × (0 < bytes) × (bytes ≤ length rest)
IsWithin size rest (Start origin) = Unit {0}
IsWithin size rest End = Unit {0}
