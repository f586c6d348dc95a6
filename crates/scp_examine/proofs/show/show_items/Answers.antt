use Rattle.std.proofs.Common.{◌+◌, take, get_or, refl, ap, ◌∙◌}
use Rattle.std.proofs.lemmas.Result.{err_from_is_err_and}
use Rattle.operand_forms.specs.declared.listing.Item.TheVariants.{At}
use Rattle.scp_examine.specs.Shape.{shape_of}
use Rattle.scp_examine.specs.Places.{places_of}
use Rattle.scp_examine.specs.Checks.{item_fault}
use Rattle.scp_examine.specs.Effect.{all_places, listed}
use Rattle.scp_examine.proofs.ShowLemmas.{nothing_yet, listed-none, all_places-none, all_places-more, all_places_rest, items_fault-none, listed_more, listed_part}
use Rattle.scp_examine.proofs.show.show_items.Goals as goal

pub show_item-requires : goal.show_item-requires
show_item-requires g c = items_fault-none (item_fault (shape_of c.args.machine.now) c.args.device) c.args.items.now c.loop-item.item-index (At 0) c.requires c.loop-item-test.true

pub loop-item-init : goal.loop-item-init
loop-item-init g c = record {
  written = λ told. nothing_yet (g.S.Sink.written c.args.out.now) _ (ap (λ ps. listed c.args.machine.now c.args.symbolic c.args.condition ps) (all_places-none (shape_of c.args.machine.now) c.args.device) ∙ listed-none c.args.machine.now c.args.symbolic c.args.condition);
  quiet = refl;
}

pub loop-item-preserved : goal.loop-item-preserved
loop-item-preserved g c = record {
  written = λ told.
      listed_more c.args.machine.now c.args.symbolic c.args.condition (g.S.Sink.written c.args.out.now) (g.S.Sink.written c.loop-item.out) (g.S.Sink.written c.show_item.new.out)
      (all_places (shape_of c.args.machine.now) c.args.device (take c.loop-item.item-index c.args.items.now)) (places_of (shape_of c.args.machine.now) c.args.device (get_or c.args.items.now c.loop-item.item-index (At 0))) (all_places (shape_of c.args.machine.now) c.args.device (take (c.loop-item.item-index + 1) c.args.items.now))
      (all_places-more (shape_of c.args.machine.now) c.args.device c.args.items.now c.loop-item.item-index (At 0) c.loop-item-test.true) (c.loop-item.invariant.written told) (c.in_ok-show_item.ensures.told told);
  quiet = c.in_ok-show_item.ensures.counts ∙ c.loop-item.invariant.quiet;
}

pub returns-in_err-show_item-clause-told : goal.returns-in_err-show_item-clause-told
returns-in_err-show_item-clause-told g c = λ told.
    let p = err_from_is_err_and c.from_residual.result c.from_residual.ensures.1 in
    rw p.1 (
    listed_part c.args.machine.now c.args.symbolic c.args.condition (g.S.Sink.written c.args.out.now) (g.S.Sink.written c.loop-item.out) (g.S.Sink.written c.show_item.new.out)
    (all_places (shape_of c.args.machine.now) c.args.device (take c.loop-item.item-index c.args.items.now)) (places_of (shape_of c.args.machine.now) c.args.device (get_or c.args.items.now c.loop-item.item-index (At 0))) (all_places (shape_of c.args.machine.now) c.args.device c.args.items.now)
    (all_places_rest (shape_of c.args.machine.now) c.args.device c.args.items.now c.loop-item.item-index (At 0) c.loop-item-test.true) (c.loop-item.invariant.written told) (c.in_err-show_item.ensures.told told)
    )
