-- What holds of requests, in a reader's words.
use Rattle.std.specs.Prelude.{◌≡◌, ◌↔◌, ℕ, false, List}
use Rattle.unit_trait.specs.Calls.{UnitState}
use Rattle.nova_interrupts.specs.Requests.{requested, acknowledged}

-- an acknowledge answers 0 exactly where no device asks
abbrev pub ZeroIsNoRequest : Type 0
ZeroIsNoRequest = (mask : ℕ) (units : List UnitState) → acknowledged mask units ≡ 0 ↔ requested mask units ≡ false
