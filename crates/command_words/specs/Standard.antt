-- The units that a machine of this program has.
use Rattle.std.specs.Prelude.{◌≡◌, ◌⊎◌, List, [], ◌∷◌, ◌++◌, map}
use Rattle.unit_trait.specs.declared.kind.Kind.{Kind}
use Rattle.unit_trait.specs.declared.kind.Kind.TheVariants.{Dsk, Mta, Lpt, Ptr, Ptp, Clk, Tti, Tto, Tti1, Tto1, Qty}
use Rattle.unit_trait.specs.Calls.{UnitState}
use Rattle.unit_trait.specs.Row.{initial_unit}

-- the kinds that each machine of this program has, in bus order
abbrev pub standard_kinds : List Kind
standard_kinds = Dsk ∷ Mta ∷ Lpt ∷ Ptr ∷ Ptp ∷ Clk ∷ Tti ∷ Tto ∷ Tti1 ∷ Tto1 ∷ []

-- a unit of each, before anything was asked of it
abbrev pub standard_units : List UnitState
standard_units = map initial_unit standard_kinds

-- these, and the multiplexer behind them
abbrev pub all_units : List UnitState
all_units = standard_units ++ initial_unit Qty ∷ []

-- the units of a machine of this program: the ten, or these and the multiplexer
abbrev pub IsStandard : List UnitState → Type 0
IsStandard units = (units ≡ standard_units) ⊎ (units ≡ all_units)
