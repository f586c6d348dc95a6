-- The parts of a state as they are read.
use Rattle.std.specs.Prelude.{map}
use Rattle.saved_session.specs.declared.fields.MachineFields.{MachineFields}
use Rattle.saved_session.specs.declared.fields.WatchFields.{WatchFields}
use Rattle.saved_session.specs.Parts.{MachinePart, WatchPart, unit_in, break_in, expect_in}

abbrev pub machine_in : MachineFields → MachinePart
machine_in m = record { cpu = m.cpu; words = m.words.items; units = map unit_in m.units.items; agenda = m.agenda.items }

abbrev pub watch_in : WatchFields → WatchPart
watch_in w = record {
  breaks = map break_in w.breaks.items;
  expects = map expect_in w.expects.items;
  tail = w.tail.items;
  sends = w.sends.items;
}
