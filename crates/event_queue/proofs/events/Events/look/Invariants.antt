use Rattle.std.proofs.Common.{◌≡◌, ◌≤◌, ◌-◌, length}
use Rattle.event_queue.specs.EventList.{dues}
use Rattle.event_queue.specs.Idle.{looked}
use Rattle.event_queue.proofs.events.Events.look.Given as goal

abbrev pub invariant-loop-k : goal.invariant-loop-k
invariant-loop-k l = (looked l.period l.self ≡ looked l.period l.fn.self) × (length (dues l.self) ≤ length (dues l.fn.self) - l._k)
