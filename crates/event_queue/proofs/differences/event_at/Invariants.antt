use Rattle.std.proofs.Common.{◌≡◌, ◌≤◌}
use Rattle.event_queue.proofs.RemainingTimes.{passed}
use Rattle.event_queue.proofs.differences.event_at.Given as goal

abbrev pub invariant-loop-at : goal.invariant-loop-at
invariant-loop-at l = (l.at ≤ l.k) × (l.remaining ≡ passed 0 l.at l.deltas)
