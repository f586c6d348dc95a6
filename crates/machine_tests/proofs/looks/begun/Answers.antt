use Rattle.std.proofs.Common.{[], ◌∷◌, sym, subst, arith}
use Rattle.unit_trait.specs.declared.kind.Kind.TheVariants.{Tti, Tti1}
use Rattle.unit_trait.specs.Row.{initial_unit}
use Rattle.unit_list.specs.BusOrder.{IsBusOrder}
use Rattle.machine_laws.proofs.BusOrders.{in-order}
use Rattle.machine_tests.proofs.looks.begun.Goals as goal

pub new-requires : goal.new-requires
new-requires g c =
    subst IsBusOrder (sym c.requires) (in-order (initial_unit Tti ∷ initial_unit Tti1 ∷ []) ((omega arith, tt), (tt, tt)))
