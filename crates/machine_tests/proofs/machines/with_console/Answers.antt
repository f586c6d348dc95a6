use Rattle.std.proofs.Common.{[], ◌∷◌, sym, subst, arith}
use Rattle.unit_trait.specs.declared.kind.Kind.TheVariants.{Clk, Tti, Tto}
use Rattle.unit_trait.specs.Row.{initial_unit}
use Rattle.unit_list.specs.BusOrder.{IsBusOrder}
use Rattle.machine_laws.proofs.BusOrders.{in-order}
use Rattle.machine_tests.proofs.machines.with_console.Goals as goal

pub new-requires : goal.new-requires
new-requires g c =
    subst IsBusOrder (sym c.requires)
    (in-order (initial_unit Clk ∷ initial_unit Tti ∷ initial_unit Tto ∷ []) ((omega arith, (omega arith, tt)), ((omega arith, tt), (tt, tt))))
