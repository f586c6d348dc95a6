use Rattle.std.proofs.Common.{arith}
use Rattle.event_queue.proofs.SoundLists.{sound-none}
use Rattle.event_queue.proofs.deltas.Deltas.clear.Goals as goal

pub invariant_of-self : goal.invariant_of-self
invariant_of-self c = (rw c.clear.ensures.items sound-none, omega arith)
