-- The items so far hold the value.
use Rattle.std.proofs.Common.{◌≡◌, take}
use Rattle.scp_examine.specs.Shape.{shape_of}
use Rattle.scp_examine.specs.Effect.{all_places, filled}
use Rattle.scp_examine.proofs.fill.fill_items.Given as goal

abbrev pub invariant-loop-item : goal.invariant-loop-item
invariant-loop-item g l = l.machine ≡ filled l.value l.fn.machine (all_places (shape_of l.fn.machine) l.device (take l.item-index l.items))
