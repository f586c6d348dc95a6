use Rattle.saved_session.proofs.PuttingWatchLemmas.{ExpectsSoFar}
use Rattle.saved_session.proofs.putting_watch.expects_from.Given as goal

abbrev pub invariant-loop-entry : goal.invariant-loop-entry
invariant-loop-entry l = ExpectsSoFar l.expects l.entry-index l.saved
