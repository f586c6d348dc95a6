-- What holds of both rules of the auto-index locations, in a reader's words.
use Rattle.std.specs.Prelude.{◌≡◌, ℕ, zero, suc, ◌%◌, ◌^◌, ◌≤◌, Bool}
use Rattle.nova_memory.specs.Memory.{MemoryState, get, by_rule}
use Rattle.nova_memory.specs.Address.{IsAutoIndex, chain}

-- no level of an indirect reference through that address, of so many, is an auto-index location
unfoldable pub PassesNone : ℕ → MemoryState → ℕ → Type 0
PassesNone zero m a = Unit {0}
PassesNone (suc left) m a = (¬ IsAutoIndex a) × (2 ^ 15 ≤ get m a → PassesNone left m (get m a % 2 ^ 15))

-- such a reference leaves memory as it is, and comes to the same address by both rules
abbrev pub RulesAgree : Type 0
RulesAgree =
    (left : ℕ) (m : MemoryState) (a : ℕ) (before : Bool) → PassesNone left m a
    → chain left (by_rule before m) a ≡ record { memory = by_rule before m; address = (chain left m a).address }
