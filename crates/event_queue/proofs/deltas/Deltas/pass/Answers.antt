use Rattle.std.proofs.Common.{◌≡◌, ◌≤◌, List, length, drop, slice_get, IfSome, sym, subst, ◌∙◌, ap, arith}
use Rattle.std.proofs.lemmas.List.{take_at}
use Rattle.event_queue.specs.declared.delta.Delta.{Delta}
use Rattle.event_queue.specs.EventList.{Event, Sound, lowered, IsClear}
use Rattle.event_queue.specs.Deltas.{events_of, nearer}
use Rattle.event_queue.proofs.RemainingTimes.{clear-first, first-nearer, near-length}
use Rattle.event_queue.proofs.SoundLists.{sound-lowered}
use Rattle.event_queue.proofs.deltas.Deltas.pass.Goals as goal

pub bring_nearer-requires : goal.bring_nearer-requires
bring_nearer-requires c =
    let clear = subst (λ (es : List Event). IsClear c.args.count es) (sym c.self.view_is) c.requires in
    subst (λ (ds : List Delta). IfSome (slice_get ds 0) (λ d. c.args.count ≤ d.after)) (sym c.as_mut_slice.ensures.value)
    (clear-first c.args.count c.self.inside.list.items clear)

pub invariant_of-self : goal.invariant_of-self
invariant_of-self c =
    let ds = c.self.inside.list.items in
    let left = c.bring_nearer.new.deltas in
    let clear = subst (λ (es : List Event). IsClear c.args.count es) (sym c.self.view_is) c.requires in
    let is : left ≡ nearer c.args.count ds = c.bring_nearer.ensures ∙ ap (nearer c.args.count) c.as_mut_slice.ensures.value in
    let long : length left ≡ c.self.inside.list.len =
    omega (arith, ap (λ (xs : List Delta). length xs) is, near-length c.args.count ds, c.as_mut_slice.ensures.len, ap (λ (xs : List Delta). length xs) c.as_mut_slice.ensures.value) in
    let all = ap events_of (take_at left (drop (length left) ds) c.self.inside.list.len long ∙ is) ∙ first-nearer c.args.count ds (clear-first c.args.count ds clear) in
    (subst Sound (sym all) (sound-lowered c.args.count (events_of ds) c.self.invariant.0), omega arith)

pub returns : goal.returns
returns c =
    let ds = c.self.inside.list.items in
    let left = c.bring_nearer.new.deltas in
    let clear = subst (λ (es : List Event). IsClear c.args.count es) (sym c.self.view_is) c.requires in
    let is : left ≡ nearer c.args.count ds = c.bring_nearer.ensures ∙ ap (nearer c.args.count) c.as_mut_slice.ensures.value in
    let long : length left ≡ c.self.inside.list.len =
    omega (arith, ap (λ (xs : List Delta). length xs) is, near-length c.args.count ds, c.as_mut_slice.ensures.len, ap (λ (xs : List Delta). length xs) c.as_mut_slice.ensures.value) in
    ap events_of (take_at left (drop (length left) ds) c.self.inside.list.len long ∙ is) ∙ first-nearer c.args.count ds (clear-first c.args.count ds clear)
    ∙ ap (lowered c.args.count) c.self.view_is
