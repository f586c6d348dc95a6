use Rattle.std.proofs.Common.{List, sym, subst}
use Rattle.event_queue.specs.EventList.{Event}
use Rattle.event_queue.specs.Active.{Marks}
use Rattle.event_queue.proofs.Marked.{marks-out}
use Rattle.event_queue.proofs.events.Events.take_out.Goals as goal

pub invariant_of-self : goal.invariant_of-self
invariant_of-self c =
    subst (λ (es : List Event). Marks c.unset.new.self.bits es) (sym c.take_out-unit.ensures.rest)
    (marks-out c.self.inside.active.bits c.unset.new.self.bits c.take_out-unit.result c.args.at c.self.inside.deltas c.sound.ensures c.take_out-unit.ensures.unit c.self.invariant c.unset.ensures)
