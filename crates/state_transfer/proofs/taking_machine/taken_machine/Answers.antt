use Rattle.std.proofs.Common.{◌≡◌, List, map, take, sym, subst, ap, ◌∙◌}
use Rattle.event_queue.specs.EventList.{Event}
use Rattle.nova_memory.specs.Memory.{MemoryState, IsMemory, IsSize}
use Rattle.saved_session.specs.Parts.{MachinePart, unit_in}
use Rattle.saved_session.specs.Valid.{MachineFits}
use Rattle.state_transfer.specs.Session.{saved_event, saved_machine}
use Rattle.state_transfer.proofs.TakenFits.{machine-fits}
use Rattle.state_transfer.proofs.taking_machine.taken_machine.Goals as goal

pub returns-clause-fit : goal.returns-clause-fit
unfolding saved_machine
returns-clause-fit g c =
    let m = c.args.machine.now in
    let is : IsMemory m.processor.memory = subst IsMemory c.memory.ensures c.size-size.ensures.valid in
    let size : IsSize m.processor.memory.size =
    subst (λ (x : MemoryState). IsSize x.size) c.memory.ensures c.size-size.ensures.sized in
    let words : c.in_ok-taken_words.field-0.items ≡ take m.processor.memory.size m.processor.memory.words =
    c.in_ok-taken_words.ensures ∙ ap (λ (x : MemoryState). take x.size x.words) c.memory-2.ensures in
    let taken : MachinePart = record {
      cpu = c.taken_cpu.result;
      words = c.in_ok-taken_words.field-0.items;
      units = map unit_in c.in_ok-taken_units.field-0.items;
      agenda = c.in_ok-taken_agenda.field-0.items;
    } in
    let units = c.in_ok-taken_units.ensures in
    let agenda = c.in_ok-taken_agenda.ensures ∙ ap (λ (es : List Event). map saved_event es) c.events.ensures in
    let same : taken ≡ saved_machine m = λ i. record { cpu = c.taken_cpu.ensures i; words = words i; units = units i; agenda = agenda i } in
    subst MachineFits (sym same) (machine-fits m is size c.core.ensures c.requires)
