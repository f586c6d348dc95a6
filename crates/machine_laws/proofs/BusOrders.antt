-- Lists of units in bus order, told from the front.
use Rattle.std.proofs.Common.{◌≡◌, ◌<◌, List, [], ◌∷◌, map, sym, subst, arith}
use Rattle.std.specs.List.{AllByRecursion}
use Rattle.std.proofs.lemmas.List.Elements.{All-from_recursion}
use Rattle.std.proofs.lemmas.List.Kept.{AllPairs-cons}
use Rattle.unit_trait.specs.declared.kind.Kind.TheVariants.{Lpt, Ptr, Ptp, Tti}
use Rattle.unit_trait.specs.Calls.{UnitState}
use Rattle.unit_trait.specs.Row.{initial_unit}
use Rattle.unit_list.specs.BusOrder.{place_of, IsBusOrder}

-- each place is below those behind it
abbrev pub Rises : List UnitState → Type 0
Rises [] = Unit {0}
Rises (u ∷ us) = AllByRecursion (λ (v : UnitState). place_of u.kind < place_of v.kind) us × Rises us

pub in-order : (us : List UnitState) → Rises us → IsBusOrder us
in-order [] rises = λ i j d lt within. absurd (omega arith)
in-order (u ∷ us) rises =
    AllPairs-cons (λ (x y : UnitState). place_of x.kind < place_of y.kind) u us
    (All-from_recursion (λ (v : UnitState). place_of u.kind < place_of v.kind) us rises.0) (in-order us rises.1)

pub tape-units : (us : List UnitState) → us ≡ map initial_unit (Lpt ∷ Ptr ∷ Ptp ∷ Tti ∷ []) → IsBusOrder us
tape-units us is =
    subst IsBusOrder (sym is)
    (in-order (initial_unit Lpt ∷ initial_unit Ptr ∷ initial_unit Ptp ∷ initial_unit Tti ∷ [])
    ((omega arith, (omega arith, (omega arith, tt))), ((omega arith, (omega arith, tt)), ((omega arith, tt), (tt, tt)))))
