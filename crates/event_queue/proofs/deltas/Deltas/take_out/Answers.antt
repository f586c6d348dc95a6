use Rattle.std.proofs.Common.{◌≡◌, ◌<◌, ◌^◌, ◌+◌, ◌++◌, List, length, take, drop, remove, slice_get, option_map, Option, Some, IfSome, sym, subst, ◌∙◌, ap, arith}
use Rattle.std.proofs.lemmas.List.{take_at}
use Rattle.event_queue.specs.declared.delta.Delta.{Delta}
use Rattle.event_queue.specs.EventList.{Event, Sound}
use Rattle.event_queue.specs.Deltas.{events_of, further}
use Rattle.event_queue.proofs.RemainingTimes.{behind-length, behind-taken, next-short, units-stay, there}
use Rattle.event_queue.proofs.SoundLists.{sound-without, unit-low}
use Rattle.event_queue.proofs.deltas.Deltas.take_out.Goals as goal

pub remove-out-requires : goal.remove-out-requires
remove-out-requires c = omega (arith, behind-length 0 c.self.inside.list.items, ap (λ (es : List Event). length es) c.self.view_is)

pub put_off-requires : goal.put_off-requires
put_off-requires c =
    let ds = c.self.inside.list.items in
    let out = c.remove-out.result in
    let within : c.args.at < length ds = omega (arith, behind-length 0 ds, ap (λ (es : List Event). length es) c.self.view_is) in
    let found : slice_get ds c.args.at ≡ Some out = there c.args.at ds out within ∙ ap Some (sym c.remove-out.ensures.value) in
    subst (λ (xs : List Delta). IfSome (slice_get xs c.args.at) (λ d. d.after + out.after < 2 ^ 32)) (sym (c.as_mut_slice.ensures.value ∙ c.remove-out.ensures.items))
    (next-short c.args.at 0 ds out found c.self.invariant.0.times)

pub invariant_of-self : goal.invariant_of-self
invariant_of-self c =
    let ds = c.self.inside.list.items in
    let out = c.remove-out.result in
    let off = c.put_off.new.deltas in
    let within : c.args.at < length ds = omega (arith, behind-length 0 ds, ap (λ (es : List Event). length es) c.self.view_is) in
    let found : slice_get ds c.args.at ≡ Some out = there c.args.at ds out within ∙ ap Some (sym c.remove-out.ensures.value) in
    let is : off ≡ take c.args.at (remove ds c.args.at) ++ further out.after (drop c.args.at (remove ds c.args.at)) =
    c.put_off.ensures ∙ ap (λ (xs : List Delta). take c.args.at xs ++ further out.after (drop c.args.at xs)) (c.as_mut_slice.ensures.value ∙ c.remove-out.ensures.items) in
    let long : length off ≡ c.remove-out.new.self.len = omega (arith, c.put_off.auto.deltas, c.as_mut_slice.ensures.len) in
    let all = ap events_of (take_at off (drop (length off) c.remove-out.new.self.items) c.remove-out.new.self.len long ∙ is) ∙ behind-taken c.args.at 0 ds out found in
    (subst Sound (sym all) (sound-without c.args.at (events_of ds) c.self.invariant.0), omega arith)

pub returns-clause-unit : goal.returns-clause-unit
returns-clause-unit c =
    let ds = c.self.inside.list.items in
    let out = c.remove-out.result in
    let within : c.args.at < length ds = omega (arith, behind-length 0 ds, ap (λ (es : List Event). length es) c.self.view_is) in
    let found : slice_get ds c.args.at ≡ Some out = there c.args.at ds out within ∙ ap Some (sym c.remove-out.ensures.value) in
    ap (λ (es : List Event). option_map (λ e. e.unit) (slice_get es c.args.at)) (sym c.self.view_is)
    ∙ units-stay c.args.at 0 ds ∙ ap (λ (o : Option Delta). option_map (λ d. d.unit) o) found

pub returns-clause-rest : goal.returns-clause-rest
returns-clause-rest c =
    let ds = c.self.inside.list.items in
    let out = c.remove-out.result in
    let off = c.put_off.new.deltas in
    let within : c.args.at < length ds = omega (arith, behind-length 0 ds, ap (λ (es : List Event). length es) c.self.view_is) in
    let found : slice_get ds c.args.at ≡ Some out = there c.args.at ds out within ∙ ap Some (sym c.remove-out.ensures.value) in
    let is : off ≡ take c.args.at (remove ds c.args.at) ++ further out.after (drop c.args.at (remove ds c.args.at)) =
    c.put_off.ensures ∙ ap (λ (xs : List Delta). take c.args.at xs ++ further out.after (drop c.args.at xs)) (c.as_mut_slice.ensures.value ∙ c.remove-out.ensures.items) in
    let long : length off ≡ c.remove-out.new.self.len = omega (arith, c.put_off.auto.deltas, c.as_mut_slice.ensures.len) in
    ap events_of (take_at off (drop (length off) c.remove-out.new.self.items) c.remove-out.new.self.len long ∙ is) ∙ behind-taken c.args.at 0 ds out found
    ∙ ap (λ (es : List Event). remove es c.args.at) c.self.view_is

pub returns-clause-low : goal.returns-clause-low
returns-clause-low c =
    let ds = c.self.inside.list.items in
    let out = c.remove-out.result in
    let within : c.args.at < length ds = omega (arith, behind-length 0 ds, ap (λ (es : List Event). length es) c.self.view_is) in
    let found : slice_get ds c.args.at ≡ Some out = there c.args.at ds out within ∙ ap Some (sym c.remove-out.ensures.value) in
    unit-low c.args.at (events_of ds) out.unit c.self.invariant.0.units (units-stay c.args.at 0 ds ∙ ap (λ (o : Option Delta). option_map (λ d. d.unit) o) found)
