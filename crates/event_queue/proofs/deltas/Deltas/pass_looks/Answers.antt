use Rattle.std.proofs.Common.{◌≡◌, Some, slice_get, sym, subst, List, ap, ◌∙◌, rules}
use Rattle.unit_trait.specs.declared.kind.UnitName.{UnitName}
use Rattle.event_queue.specs.EventList.{Event, waits, lowered, IsClear}
use Rattle.event_queue.proofs.SoundLists.{first-alone}
use Rattle.event_queue.proofs.Looks.{clear-behind}
use Rattle.event_queue.proofs.deltas.Deltas.pass_looks.Goals as goal

pub pass-requires-2 : goal.pass-requires-2
pass-requires-2 c = subst (λ (es : List Event). IsClear c.args.count es) (sym c.take_out.ensures.rest) (clear-behind c.args.count c.args.self.now c.requires.others)

pub put-requires-clause-absent : goal.put-requires-clause-absent
put-requires-clause-absent c =
    let items = c.args.self.now in
    let first : slice_get items 0 ≡ Some c.in-Some.first = search rules in
    let unit : c.first.inside.unit ≡ c.in-Some.first.unit = search rules in
    ap (λ (u : UnitName). waits u c.pass-2.new.self) unit
    ∙ ap (waits c.in-Some.first.unit) (c.pass-2.ensures ∙ ap (lowered c.args.count) c.take_out.ensures.rest)
    ∙ first-alone c.args.count items c.in-Some.first c.sound.ensures first
