-- The items so far have no fault.
use Rattle.std.proofs.Common.{◌≡◌, drop}
use Rattle.scp_examine.specs.Shape.{shape_of}
use Rattle.scp_examine.specs.Checks.{deposit_fault, items_fault}
use Rattle.scp_examine.proofs.check.deposits_fault.Given as goal

abbrev pub invariant-loop-item : goal.invariant-loop-item
invariant-loop-item g l =
    items_fault (deposit_fault (shape_of l.machine) l.device l.value) l.items ≡ items_fault (deposit_fault (shape_of l.machine) l.device l.value) (drop l.item-index l.items)
