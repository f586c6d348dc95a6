use Rattle.std.proofs.Common.{◌≡◌, take}
use Rattle.std.specs.Prelude.{map}
use Rattle.saved_session.specs.SavedWatch.{saved_send}
use Rattle.saved_session.proofs.taking_watch.taken_sends.Given as goal

abbrev pub invariant-loop-k : goal.invariant-loop-k
invariant-loop-k l = l.taken.items ≡ take l.k (map saved_send l.sends)
