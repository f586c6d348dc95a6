-- What was proved about loader tapes.
use Rattle.std.specs.Prelude.{◌≡◌, ℕ, List, All, ◌+◌, ◌-◌, ◌<◌, ◌≤◌, ◌^◌, length, Option, Some, Ok, Err, unwrap_or, IfSome}
use Rattle.nova_memory.specs.Memory.{MemoryState, get}
use Rattle.binary_load.specs.Tape.{Store, Tape, tape, stores_from, put_all}
use Rattle.binary_load.specs.declared.faults.LoadFault.{LoadFault}
use Rattle.binary_load.specs.Grammar.{IsTape, IsFaulty}
use Rattle.binary_load.specs.Dump.{dumped, words_from}
use Rattle.binary_load.specs.Runs.{Run, AreWithin, stores_of_runs, tape_of_runs, last_word}

-- a dump says exactly the words of the memory from one address up to another, at these addresses, and the start, to every
-- memory that has the addresses
abbrev pub DumpsReadBack : Type 0
DumpsReadBack = (m : MemoryState) (from to start size : ℕ) → from ≤ to → to < size → start < 2 ^ 15 →
    tape size (dumped m from to start)
    ≡ Ok (record { stores = stores_from from (words_from m from (to + 1 - from)); start = Some start })

-- what has the form of a tape is read as that tape says
abbrev pub TapesAreRead : Type 0
TapesAreRead = (size : ℕ) (bytes : List ℕ) (says : Tape) → IsTape size bytes says → tape size bytes ≡ Ok says

-- .. and it is the other way round too: bytes that are read as a tape have its form; and a fault stands in them, where the
-- forms say, exactly where they are read with it
pub record TapesHaveForms : Type 0 where
  pub tapes : (size : ℕ) (bytes : List ℕ) (says : Tape) → All (λ b. b < 2 ^ 8) bytes → tape size bytes ≡ Ok says
      → IsTape size bytes says
  pub faults : (size : ℕ) (bytes : List ℕ) (fault : LoadFault) → All (λ b. b < 2 ^ 8) bytes
      → tape size bytes ≡ Err fault → IsFaulty size 0 bytes fault
  pub found : (size : ℕ) (bytes : List ℕ) (fault : LoadFault) → IsFaulty size 0 bytes fault
      → tape size bytes ≡ Err fault

-- the tape of runs that are all in a memory says exactly their words at their addresses, in their order, and the start
abbrev pub RunsReadBack : Type 0
RunsReadBack = (size : ℕ) (runs : List Run) (start : Option ℕ) → AreWithin size runs → IfSome start (λ s. s < 2 ^ 15) →
    tape size (tape_of_runs runs start) ≡ Ok (record { stores = stores_of_runs runs; start = start })

-- after stores each word of a memory is that of the last store to its address, or as it was where there was none
abbrev pub LastStoresStay : Type 0
LastStoresStay = (m : MemoryState) (stores : List Store) (a : ℕ) → m.size ≤ length m.words → a < m.size →
    get (put_all m stores) a ≡ unwrap_or (last_word a stores) (get m a)
