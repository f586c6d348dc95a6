use Rattle.std.proofs.Common.{sym}
use Rattle.saved_session.specs.SavedWatch.{saved_send}
use Rattle.saved_session.proofs.TakenLists.{grows-map}
use Rattle.saved_session.proofs.taking_watch.taken_sends.Goals as goal

pub loop-k-preserved : goal.loop-k-preserved
loop-k-preserved c =
    rw (c.in_ok-push-in-Some.ensures.items, c.loop-k.invariant)
    (sym (grows-map saved_send c.args.sends.now c.loop-k.k (c.in-Some.time, c.in-Some.byte) (sym c.in-Some.ensures)))
