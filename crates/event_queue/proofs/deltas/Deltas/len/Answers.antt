use Rattle.std.proofs.Common.{List, length, ap, arith}
use Rattle.event_queue.specs.EventList.{Event}
use Rattle.event_queue.proofs.RemainingTimes.{behind-length}
use Rattle.event_queue.proofs.deltas.Deltas.len.Goals as goal

pub returns : goal.returns
returns c = omega (arith, behind-length 0 c.self.inside.list.items, ap (λ (es : List Event). length es) c.self.view_is)
