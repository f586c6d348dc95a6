-- Which units are active, by the bit of each.
use Rattle.std.specs.Prelude.{◌≡◌, ◌+◌, ◌<◌, ◌==◌, ℕ, Bool, List}
use Rattle.std.specs.Int.{bit_at}
use Rattle.unit_trait.specs.declared.kind.Kind.{Kind}
use Rattle.unit_trait.specs.declared.kind.Kind.TheVariants.{Dsk, Mta, Lpt, Ptr, Ptp, Clk, Tti, Tto, Tti1, Tto1, Qty}
use Rattle.unit_trait.specs.declared.kind.UnitName.{UnitName}
use Rattle.unit_trait.specs.Kinds.{units_of}
use Rattle.event_queue.specs.EventList.{Event, waits}

-- the number of the first unit of a kind
abbrev pub first_of : Kind → ℕ
first_of Dsk = 0
first_of Mta = 1
first_of Lpt = 9
first_of Ptr = 10
first_of Ptp = 11
first_of Clk = 12
first_of Tti = 13
first_of Tto = 14
first_of Tti1 = 15
first_of Tto1 = 16
first_of Qty = 17

-- the number of a unit
abbrev pub number : UnitName → ℕ
number unit = first_of unit.kind + unit.unit

-- whether a unit's bit is 1
unfoldable pub is_active : ℕ → UnitName → Bool
is_active bits unit = bit_at bits (number unit) == 1

-- the bits of the units that wait are 1, and those of the others 0
abbrev pub Marks : ℕ → List Event → Type 0
Marks bits events = (unit : UnitName) → unit.unit < units_of unit.kind → is_active bits unit ≡ waits unit events
