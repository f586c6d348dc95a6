use Rattle.std.proofs.Common.{◌≡◌, ◌<◌, List, length, slice_get, option_map, Option, Some, ap, sym, ◌∙◌, arith}
use Rattle.event_queue.specs.declared.delta.Delta.{Delta}
use Rattle.event_queue.specs.EventList.{Event}
use Rattle.event_queue.proofs.RemainingTimes.{behind-length, units-stay, there}
use Rattle.event_queue.proofs.deltas.Deltas.unit_at.Goals as goal

pub index-requires : goal.index-requires
index-requires c = omega (arith, behind-length 0 c.self.inside.list.items, ap (λ (es : List Event). length es) c.self.view_is)

pub returns : goal.returns
returns c =
    let ds = c.self.inside.list.items in
    let d = c.index.result.now in
    let within : c.args.at < length ds = omega (arith, behind-length 0 ds, ap (λ (es : List Event). length es) c.self.view_is) in
    let found : slice_get ds c.args.at ≡ Some d = there c.args.at ds d within ∙ ap Some (sym c.index.ensures) in
    ap (λ (es : List Event). option_map (λ e. e.unit) (slice_get es c.args.at)) (sym c.self.view_is)
    ∙ units-stay c.args.at 0 ds ∙ ap (λ (o : Option Delta). option_map (λ d. d.unit) o) found
