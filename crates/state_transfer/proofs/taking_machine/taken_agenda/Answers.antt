use Rattle.std.proofs.Common.{◌≡◌, ◌∙◌, sym, map, Some}
use Rattle.std.specs.Prelude.{slice_get}
use Rattle.std.proofs.lemmas.Option.{slice_get-map}
use Rattle.state_transfer.specs.Session.{saved_event}
use Rattle.saved_session.proofs.TakenLists.{grows}
use Rattle.state_transfer.proofs.taking_machine.taken_agenda.Goals as goal

pub loop-k-preserved : goal.loop-k-preserved
loop-k-preserved c =
    let is : slice_get (map saved_event c.args.events.now) c.loop-k.k ≡ Some c.in-Some.event =
    slice_get-map saved_event c.args.events.now c.loop-k.k ∙ sym c.in-Some.ensures in
    rw (c.in_ok-push-in-Some.ensures.items, c.loop-k.invariant)
    (sym (grows (map saved_event c.args.events.now) c.loop-k.k c.in-Some.event is))
