use Rattle.std.proofs.Common.{◌≡◌, drop}
use Rattle.event_queue.specs.Agenda.{asked_in_order}
use Rattle.state_transfer.proofs.PuttingLemmas.{events_said}
use Rattle.state_transfer.proofs.putting.put_agenda.Given as goal

abbrev pub invariant-loop-event : goal.invariant-loop-event
invariant-loop-event g l = record {
  rest : asked_in_order l.machine.events (events_said (drop l.event-index l.agenda)) ≡ events_said l.agenda;
  others : l.machine ≡ record l.fn.machine { events = l.machine.events };
}
