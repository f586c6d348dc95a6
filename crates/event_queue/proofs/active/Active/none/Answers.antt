use Rattle.event_queue.proofs.Marked.{none-active}
use Rattle.event_queue.proofs.active.Active.none.Goals as goal

pub returns : goal.returns
returns c = λ u low. none-active u
