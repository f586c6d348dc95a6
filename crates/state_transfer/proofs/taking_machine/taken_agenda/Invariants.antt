use Rattle.std.proofs.Common.{◌≡◌, take}
use Rattle.std.specs.Prelude.{map}
use Rattle.state_transfer.specs.Session.{saved_event}
use Rattle.state_transfer.proofs.taking_machine.taken_agenda.Given as goal

abbrev pub invariant-loop-k : goal.invariant-loop-k
invariant-loop-k l = l.agenda.items ≡ take l.k (map saved_event l.events)
