use Rattle.saved_session.specs.declared.saved.SavedSend.{SavedSend}
use Rattle.saved_session.proofs.PuttingWatchLemmas.{send-more}
use Rattle.saved_session.proofs.putting_watch.sends_from.Goals as goal

none : SavedSend
none = record { time = 0; byte = 0 }

pub loop-send-preserved : goal.loop-send-preserved
unfolding none
loop-send-preserved c =
    send-more c.args.saved.now c.loop-send.send-index none c.loop-send.sends c.add_send.new.sends c.loop-send-test.true
    c.requires.valid c.add_send.ensures c.loop-send.invariant
