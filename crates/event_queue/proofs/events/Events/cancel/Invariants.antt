use Rattle.std.proofs.Common.{◌≡◌, take, drop}
use Rattle.event_queue.specs.EventList.{cancelled}
use Rattle.event_queue.proofs.events.Events.cancel.Given as goal

abbrev pub invariant-loop-k : goal.invariant-loop-k
invariant-loop-k l = (take l.at l.self ≡ cancelled l.kind (take l._k l.fn.self)) × (drop l.at l.self ≡ drop l._k l.fn.self)
