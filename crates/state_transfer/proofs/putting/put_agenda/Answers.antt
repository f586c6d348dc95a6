use Rattle.std.proofs.Common.{ap, sym, get_or, subst, ◌∙◌}
use Rattle.std.proofs.lemmas.List.Elements.{All-from_recursion}
use Rattle.std.specs.Prelude.{IsTrue, List, [], length, is_some}
use Rattle.unit_trait.specs.Kinds.{code_of}
use Rattle.unit_trait.specs.Calls.{UnitState}
use Rattle.unit_list.specs.Bus.{unit_at}
use Rattle.event_queue.specs.EventList.{Event}
use Rattle.event_queue.specs.Agenda.{asked_in_order}
use Rattle.nova_machine.specs.Machine.{MachineState}
use Rattle.saved_session.specs.declared.saved.SavedEvent.{SavedEvent}
use Rattle.saved_session.specs.Ranges.{kind_at}
use Rattle.state_transfer.proofs.PuttingLemmas.{CanWait, events_said, each-waits, events-stand, event-more, events-end, events-alone, few-units, unit-there}
use Rattle.state_transfer.proofs.putting.put_agenda.Goals as goal

pub loop-event-init : goal.loop-event-init
loop-event-init g c = record {
  rest = ap (λ (m : MachineState). asked_in_order m.events (events_said c.args.agenda.now)) c.clear_events.ensures
      ∙ events-stand (length c.args.machine.now.units) c.args.agenda.now (few-units c.args.machine.now.units c.requires.standard) c.requires.valid;
  others = c.clear_events.ensures ∙ sym (ap (λ (m : MachineState). record c.args.machine.now { events = m.events }) c.clear_events.ensures);
}

none : SavedEvent
none = record { position = 0; unit = 0; remaining = 0 }

pub put_event-requires : goal.put_event-requires
unfolding none
put_event-requires g c =
    let many = length c.args.machine.now.units in
    let can : CanWait many (get_or c.args.agenda.now c.loop-event.event-index none) =
    All-from_recursion (CanWait many) c.args.agenda.now (each-waits many [] c.args.agenda.now c.requires.valid)
    c.loop-event.event-index none c.loop-event-test.true in
    record {
      number = can.number;
      there = subst (λ (us : List UnitState). IsTrue (is_some (unit_at
          (code_of (kind_at (get_or c.args.agenda.now c.loop-event.event-index none).position)) us)))
          (sym (ap (λ (m : MachineState). m.units) c.loop-event.invariant.others))
          (unit-there c.args.machine.now.units (get_or c.args.agenda.now c.loop-event.event-index none).position
          c.requires.standard can.position);
    }

pub loop-event-preserved : goal.loop-event-preserved
unfolding none
loop-event-preserved g c = record {
  rest = event-more c.args.agenda.now c.loop-event.event-index none c.loop-event.machine.events
      c.put_event.new.machine.events (events_said c.args.agenda.now) c.loop-event-test.true
      (ap (λ (m : MachineState). m.events) c.put_event.ensures) c.loop-event.invariant.rest;
  others = events-alone c.args.machine.now c.loop-event.machine c.put_event.new.machine _ c.put_event.ensures
      c.loop-event.invariant.others;
}

pub returns : goal.returns
returns g c =
    c.loop-event.invariant.others
    ∙ ap (λ (es : List Event). record c.args.machine.now { events = es })
    (events-end c.args.agenda.now c.loop-event.event-index c.loop-event.machine.events (events_said c.args.agenda.now)
    c.loop-event-test.false c.loop-event.invariant.rest)
