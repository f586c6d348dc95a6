use Rattle.std.proofs.Common.{List, sym, subst}
use Rattle.event_queue.specs.EventList.{Event}
use Rattle.event_queue.specs.Active.{Marks}
use Rattle.event_queue.proofs.Marked.{marks-lowered}
use Rattle.event_queue.proofs.events.Events.pass.Goals as goal

pub invariant_of-self : goal.invariant_of-self
invariant_of-self c =
    subst (λ (es : List Event). Marks c.self.inside.active.bits es) (sym c.pass.ensures)
    (marks-lowered c.self.inside.active.bits c.args.count c.self.inside.deltas c.self.invariant)
