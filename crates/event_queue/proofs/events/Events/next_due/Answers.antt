use Rattle.std.proofs.Common.{List, sym, subst}
use Rattle.event_queue.specs.EventList.{Event, dues, IsApart}
use Rattle.event_queue.proofs.SoundLists.{apart-first}
use Rattle.event_queue.proofs.events.Events.next_due.Goals as goal

pub returns-then-is_due-clause-alone : goal.returns-then-is_due-clause-alone
returns-then-is_due-clause-alone c =
    subst (λ (es : List Event). IsApart c.take_out.result (dues es)) (sym c.take_out.ensures.rest)
    (apart-first c.args.self.now c.take_out.result c.sound.ensures c.take_out.ensures.unit)
