use Rattle.std.proofs.Common.{List, sym, subst, ◌∙◌, ap, arith}
use Rattle.event_queue.specs.EventList.{Event, Sound}
use Rattle.event_queue.specs.Idle.{looked}
use Rattle.event_queue.proofs.Marked.{marks-looked, marks-either}
use Rattle.event_queue.proofs.events.Events.look_both.Goals as goal

pub invariant_of-self : goal.invariant_of-self
invariant_of-self c =
    let es = c.self.inside.deltas in
    let bits = c.self.inside.active.bits in
    marks-either c.look_both.result bits c.args.period es c.look_both.new.self c.look_both.ensures.looked c.look_both.ensures.same c.self.invariant
    (marks-looked bits c.args.period es c.requires (omega arith) (subst Sound (sym c.self.view_is) c.sound.ensures) c.self.invariant)

pub invariant_of-self-else-look_both : goal.invariant_of-self-else-look_both
invariant_of-self-else-look_both c =
    let es = c.self.inside.deltas in
    let bits = c.self.inside.active.bits in
    let kept = c.look_both.ensures.same c.if-look_both.false in
    marks-either c.look_behind_one.result bits c.args.period es c.look_behind_one.new.self
    (λ is. c.look_behind_one.ensures.looked is ∙ ap (λ (xs : List Event). looked c.args.period xs) kept) (λ is. c.look_behind_one.ensures.same is ∙ kept) c.self.invariant
    (marks-looked bits c.args.period es c.requires (omega arith) (subst Sound (sym c.self.view_is) c.sound.ensures) c.self.invariant)
