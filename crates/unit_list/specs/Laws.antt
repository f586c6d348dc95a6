-- What holds of every list of units, in a reader's words.
use Rattle.std.specs.Prelude.{◌≡◌, ◌≢◌, ℕ, ◌^◌, ◌<◌, ◌≤◌, List, option_map}
use Rattle.unit_trait.specs.declared.kind.Kind.{Kind}
use Rattle.unit_trait.specs.declared.calls.Got.{Got}
use Rattle.unit_trait.specs.declared.calls.Got.TheVariants.{Key, Byte}
use Rattle.unit_trait.specs.declared.calls.Queue.{Queue}
use Rattle.unit_trait.specs.declared.calls.Queue.TheVariants.{After}
use Rattle.unit_trait.specs.Kinds.{units_of}
use Rattle.unit_trait.specs.Calls.{UnitState, UnitCall, Answered}
use Rattle.unit_trait.specs.Row.{row, moved, Fits, initial_unit, TakesAnswer}
use Rattle.unit_list.specs.Bus.{unit_at, after_at, kinds_of}

-- a call moves the unit with its code, and no other one, and no unit becomes one of another kind
pub record CallsReachOneUnit : Type 0 where
  pub here : (code : ℕ) (call : UnitCall) (us : List UnitState)
      → unit_at code (after_at code call us) ≡ option_map (λ u. moved u call) (unit_at code us)
  pub elsewhere : (other code : ℕ) (call : UnitCall) (us : List UnitState) → other ≢ code
      → unit_at other (after_at code call us) ≡ unit_at other us
  pub kinds : (code : ℕ) (call : UnitCall) (us : List UnitState) → kinds_of (after_at code call us) ≡ kinds_of us

-- a key and a byte that an answer brings are bytes
abbrev pub BringsByte : Got → Type 0
BringsByte (Key byte) = byte < 2 ^ 8
BringsByte (Byte byte) = byte < 2 ^ 8
BringsByte got = Unit {0}

-- A unit can be asked for anything, but an answer brings bytes, and does not move the unit past its largest place.
abbrev pub CanBeAsked : UnitState → UnitCall → Type 0
CanBeAsked u (Answered unit got) = BringsByte got × TakesAnswer u got
CanBeAsked u call = Unit {0}

-- an event is wished for later than now, and after less than 2 ^ 32 instructions
abbrev pub IsTimely : Queue → Type 0
IsTimely (After delay) = (1 ≤ delay) × (delay < 2 ^ 32)
IsTimely wish = Unit {0}

-- The registers of a unit are in their ranges at first, and behind each call that it can be asked. What it says then is a
-- word of 16 bits, and its wish is for one of its units.
pub record UnitsStayInRange : Type 0 where
  pub begin : (kind : Kind) → Fits (initial_unit kind)
  pub fits : (u : UnitState) (call : UnitCall) → Fits u → CanBeAsked u call → Fits (moved u call)
  pub word : (u : UnitState) (call : UnitCall) → Fits u → (row u call).word < 2 ^ 16
  pub wish : (u : UnitState) (call : UnitCall) → Fits u → IsTimely (row u call).queue
  pub unit : (u : UnitState) (call : UnitCall) → Fits u → (row u call).unit < units_of u.kind
