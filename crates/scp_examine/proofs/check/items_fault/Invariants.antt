-- The items so far have no fault.
use Rattle.std.proofs.Common.{◌≡◌, drop}
use Rattle.scp_examine.specs.Shape.{shape_of}
use Rattle.scp_examine.specs.Checks.{item_fault, items_fault}
use Rattle.scp_examine.proofs.check.items_fault.Given as goal

abbrev pub invariant-loop-item : goal.invariant-loop-item
invariant-loop-item g l = items_fault (item_fault (shape_of l.machine) l.device) l.items ≡ items_fault (item_fault (shape_of l.machine) l.device) (drop l.item-index l.items)
