use Rattle.std.proofs.Common.{List, ap, sym, subst, ◌∙◌}
use Rattle.event_queue.specs.EventList.{Event, dues}
use Rattle.event_queue.specs.Active.{Marks}
use Rattle.event_queue.proofs.Dues.{dues-placed}
use Rattle.event_queue.proofs.Marked.{marks-put}
use Rattle.event_queue.proofs.events.Events.activate.Goals as goal

pub invariant_of-self : goal.invariant_of-self
invariant_of-self c =
    subst (λ (es : List Event). Marks c.set.new.self.bits es) (sym c.put.ensures)
    (marks-put c.self.inside.active.bits c.set.new.self.bits c.args.unit c.args.delay c.self.inside.deltas c.self.invariant c.set.ensures)

pub returns-then-not-has-clause-again : goal.returns-then-not-has-clause-again
returns-then-not-has-clause-again c = λ later.
    ap dues c.put.ensures ∙ dues-placed c.args.unit c.args.delay c.self.inside.deltas later ∙ ap dues c.self.view_is
