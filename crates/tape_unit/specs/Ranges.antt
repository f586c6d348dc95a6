-- Registers that are in their range are so in one way.
use Rattle.std.specs.Prelude.{ℕ, List, [], ◌∷◌}
use Rattle.std.specs.Coded.{le_prop}
use Rattle.unit_trait.specs.Device.{Register}
use Rattle.unit_trait.specs.Row.{InRange}

pub in_range_prop : (rs : List Register) (vs : List ℕ) → IsProp (InRange rs vs)
in_range_prop [] [] = hlevel
in_range_prop (r ∷ rs) (v ∷ vs) =
    let rest = in_range_prop rs vs in
    hlevel (le_prop, rest)
in_range_prop [] (v ∷ vs) = hlevel
in_range_prop (r ∷ rs) [] = hlevel
