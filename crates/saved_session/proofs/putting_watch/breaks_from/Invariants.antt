use Rattle.saved_session.proofs.PuttingWatchLemmas.{BreaksSoFar}
use Rattle.saved_session.proofs.putting_watch.breaks_from.Given as goal

abbrev pub invariant-loop-entry : goal.invariant-loop-entry
invariant-loop-entry l = BreaksSoFar l.breaks l.entry-index l.saved
