use Rattle.std.proofs.Common.{◌≡◌, List, Some, remove, slice_get, ap, sym, subst, ◌∙◌, rules}
use Rattle.unit_trait.specs.declared.kind.UnitName.{UnitName}
use Rattle.event_queue.specs.EventList.{Event, waits, placed, lowered, IsClear}
use Rattle.event_queue.proofs.SoundLists.{twins-alone, waits-placed, waits-lowered}
use Rattle.event_queue.proofs.Looks.{clear-behind-two}
use Rattle.event_queue.proofs.deltas.Deltas.pass_twins.Goals as goal

pub pass-requires-2 : goal.pass-requires-2
pass-requires-2 c =
    let both : c.take_out-2.new.self ≡ remove (remove c.args.self.now 0) 0 = c.take_out-2.ensures.rest ∙ ap (λ (es : List Event). remove es 0) c.take_out.ensures.rest in
    subst (λ (es : List Event). IsClear c.args.count es) (sym both) (clear-behind-two c.args.count c.args.self.now c.requires.others)

pub put-requires-clause-absent : goal.put-requires-clause-absent
put-requires-clause-absent c =
    let items = c.args.self.now in
    let first : slice_get items 0 ≡ Some c.in-Some.first = search rules in
    let second : slice_get items 1 ≡ Some c.in-Some-get.second = search rules in
    let unit : c.first.inside.unit ≡ c.in-Some.first.unit = search rules in
    let both : c.take_out-2.new.self ≡ remove (remove items 0) 0 = c.take_out-2.ensures.rest ∙ ap (λ (es : List Event). remove es 0) c.take_out.ensures.rest in
    ap (λ (u : UnitName). waits u c.pass-2.new.self) unit
    ∙ ap (waits c.in-Some.first.unit) (c.pass-2.ensures ∙ ap (lowered c.args.count) both)
    ∙ waits-lowered c.in-Some.first.unit c.args.count (remove (remove items 0) 0)
    ∙ (twins-alone items c.in-Some.first c.in-Some-get.second c.sound.ensures first second).1.0

pub put-requires-2-clause-absent : goal.put-requires-2-clause-absent
put-requires-2-clause-absent c =
    let items = c.args.self.now in
    let first : slice_get items 0 ≡ Some c.in-Some.first = search rules in
    let second : slice_get items 1 ≡ Some c.in-Some-get.second = search rules in
    let unit : c.first.inside.unit ≡ c.in-Some.first.unit = search rules in
    let other : c.second.inside.unit ≡ c.in-Some-get.second.unit = search rules in
    let both : c.take_out-2.new.self ≡ remove (remove items 0) 0 = c.take_out-2.ensures.rest ∙ ap (λ (es : List Event). remove es 0) c.take_out.ensures.rest in
    let alone = twins-alone items c.in-Some.first c.in-Some-get.second c.sound.ensures first second in
    let rest = c.rest_behind-rest.result in
    ap (λ (u : UnitName). waits u c.put.new.self) other
    ∙ ap (waits c.in-Some-get.second.unit) (c.put.ensures ∙ ap (λ (es : List Event). placed c.first.inside.unit rest es) (c.pass-2.ensures ∙ ap (lowered c.args.count) both)
    ∙ ap (λ (u : UnitName). placed u rest (lowered c.args.count (remove (remove items 0) 0))) unit)
    ∙ waits-placed c.in-Some-get.second.unit c.in-Some.first.unit rest (lowered c.args.count (remove (remove items 0) 0)) alone.0
    (waits-lowered c.in-Some-get.second.unit c.args.count (remove (remove items 0) 0) ∙ alone.1.1)
