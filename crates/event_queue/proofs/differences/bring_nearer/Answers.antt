use Rattle.event_queue.proofs.RemainingTimes.{set-nearer}
use Rattle.event_queue.proofs.differences.bring_nearer.Goals as goal

pub returns-then-at-deltas : goal.returns-then-at-deltas
returns-then-at-deltas c = set-nearer c.args.at c.args.by c.args.deltas.now _ (c.if-at-deltas.true)
