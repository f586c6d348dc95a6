use Rattle.saved_session.proofs.PuttingWatchLemmas.{SendsSoFar}
use Rattle.saved_session.proofs.putting_watch.sends_from.Given as goal

abbrev pub invariant-loop-send : goal.invariant-loop-send
invariant-loop-send l = SendsSoFar l.sends l.send-index l.saved
