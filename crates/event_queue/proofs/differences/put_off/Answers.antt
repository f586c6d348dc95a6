use Rattle.event_queue.proofs.RemainingTimes.{set-further}
use Rattle.event_queue.proofs.differences.put_off.Goals as goal

pub returns-then-at-deltas : goal.returns-then-at-deltas
returns-then-at-deltas c = set-further c.args.at c.args.by c.args.deltas.now _ (c.if-at-deltas.true)
