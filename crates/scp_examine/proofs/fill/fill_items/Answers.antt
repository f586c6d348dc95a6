use Rattle.std.proofs.Common.{sym, ap, ◌∙◌}
use Rattle.operand_forms.specs.declared.listing.Item.TheVariants.{At}
use Rattle.scp_examine.specs.Shape.{shape_of}
use Rattle.scp_examine.specs.Effect.{filled}
use Rattle.scp_examine.proofs.ShowLemmas.{all_places-none}
use Rattle.scp_examine.proofs.FillLemmas.{filled-none, filled_items-more, item_fits}
use Rattle.scp_examine.proofs.fill.fill_items.Goals as goal

pub fill_item-requires : goal.fill_item-requires
fill_item-requires g c =
    item_fits c.args.value c.args.device c.args.machine.now c.loop-item.machine c.args.items.now c.loop-item.item-index (At 0) c.loop-item-test.true c.requires c.loop-item.invariant

pub loop-item-init : goal.loop-item-init
loop-item-init g c =
    sym (ap (λ ps. filled c.args.value c.args.machine.now ps) (all_places-none (shape_of c.args.machine.now) c.args.device) ∙ filled-none c.args.value c.args.machine.now)

pub loop-item-preserved : goal.loop-item-preserved
loop-item-preserved g c =
    filled_items-more c.args.value c.args.device c.args.machine.now c.loop-item.machine c.fill_item.new.machine c.args.items.now c.loop-item.item-index (At 0)
    c.loop-item-test.true c.loop-item.invariant c.fill_item.ensures
