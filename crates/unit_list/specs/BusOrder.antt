-- The order of units on the bus, which is that in which they are asked who wants an interrupt.
use Rattle.std.specs.Prelude.{ℕ, ◌<◌, List, AllPairs}
use Rattle.unit_trait.specs.declared.kind.Kind.{Kind}
use Rattle.unit_trait.specs.declared.kind.Kind.TheVariants.{Dsk, Mta, Lpt, Ptr, Ptp, Clk, Tti, Tto, Tti1, Tto1, Qty}
use Rattle.unit_trait.specs.Calls.{UnitState}

-- the place of a kind on the bus, from the processor on
abbrev pub place_of : Kind → ℕ
place_of Dsk = 0
place_of Mta = 1
place_of Lpt = 2
place_of Ptr = 3
place_of Ptp = 4
place_of Clk = 5
place_of Tti = 6
place_of Tto = 7
place_of Tti1 = 8
place_of Tto1 = 9
place_of Qty = 10

-- the units stand in bus order, and no two are of one kind
abbrev pub IsBusOrder : List UnitState → Type 0
IsBusOrder units = AllPairs (λ (x y : UnitState). place_of x.kind < place_of y.kind) units
