use Rattle.std.proofs.Common.{List, sym, subst, arith}
use Rattle.event_queue.specs.EventList.{Event, Sound}
use Rattle.event_queue.specs.Active.{Marks}
use Rattle.event_queue.proofs.Marked.{marks-idled}
use Rattle.event_queue.proofs.events.Events.pass_twins.Goals as goal

pub invariant_of-self : goal.invariant_of-self
invariant_of-self c =
    subst (λ (es : List Event). Marks c.self.inside.active.bits es) (sym c.pass_twins.ensures)
    (marks-idled c.self.inside.active.bits c.args.period c.args.count c.self.inside.deltas c.requires.period (omega arith)
    (subst Sound (sym c.self.view_is) c.sound.ensures) c.self.invariant)
