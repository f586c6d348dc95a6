use Rattle.std.proofs.Common.{◌≡◌, length, sym, arith}
use Rattle.scp_examine.specs.Shape.{shape_of}
use Rattle.scp_examine.specs.Checks.{item_fault}
use Rattle.scp_examine.proofs.FaultLemmas.{items_fault-more, items_fault-found, items_fault-all}
use Rattle.scp_examine.proofs.check.items_fault.Goals as goal

pub returns-in-Some : goal.returns-in-Some
returns-in-Some g c =
    sym (items_fault-found (item_fault (shape_of c.args.machine.now) c.args.device) c.args.items.now _ _ _ c.loop-item-test.true c.loop-item.invariant (sym c.in-Some.ensures))

pub loop-item-preserved : goal.loop-item-preserved
loop-item-preserved g c = items_fault-more (item_fault (shape_of c.args.machine.now) c.args.device) c.args.items.now _ _ c.loop-item-test.true c.loop-item.invariant (sym c.in-None.ensures)

pub returns : goal.returns
returns g c =
    let e : c.loop-item.item-index ≡ length c.args.items.now = omega arith in
    items_fault-all (item_fault (shape_of c.args.machine.now) c.args.device) c.args.items.now _ e c.loop-item.invariant
