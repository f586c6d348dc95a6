use Rattle.std.proofs.Common.{◌≡◌, List, length, drop, ap, sym, subst, ◌∙◌, arith}
use Rattle.std.proofs.lemmas.List.{take_at}
use Rattle.event_queue.specs.declared.delta.Delta.{Delta}
use Rattle.event_queue.specs.EventList.{Sound}
use Rattle.event_queue.specs.Idle.{looked}
use Rattle.event_queue.specs.Deltas.{events_of}
use Rattle.event_queue.proofs.RemainingTimes.{sound-either}
use Rattle.event_queue.proofs.Looks.{sound-looked}
use Rattle.event_queue.proofs.deltas.Deltas.look_both.Goals as goal

pub invariant_of-self : goal.invariant_of-self
invariant_of-self c =
    let ds = c.self.inside.list.items in
    let left = c.look_both.new.deltas in
    let long : length left ≡ c.self.inside.list.len = omega (arith, c.look_both.auto.deltas, c.as_mut_slice.ensures.len) in
    let sound : Sound (events_of left) =
    sound-either c.look_both.result c.args.period ds left
    (λ is. c.look_both.ensures.looked is ∙ ap (λ (xs : List Delta). looked c.args.period (events_of xs)) c.as_mut_slice.ensures.value)
    (λ is. c.look_both.ensures.same is ∙ c.as_mut_slice.ensures.value)
    c.self.invariant.0 (sound-looked c.args.period (events_of ds) (omega arith) c.self.invariant.0) in
    (subst (λ (xs : List Delta). Sound (events_of xs)) (sym (take_at left (drop (length left) ds) c.self.inside.list.len long)) sound, omega arith)
