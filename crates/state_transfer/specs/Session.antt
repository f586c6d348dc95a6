-- What is saved of a session: its machine, its watch tables, the files that are attached, and the ports of its lines. The
-- keys of the console and what is still to come on lines are not saved, nor is a connection.
use Rattle.std.specs.Prelude.{ℕ, List, map, take, slice_get, Option, Some, None}
use Rattle.host_lines.specs.Traffic.{Peer}
use Rattle.telnet_lines.specs.Line.{LineOf}
use Rattle.unit_trait.specs.Calls.{UnitState}
use Rattle.event_queue.specs.EventList.{Event}
use Rattle.unit_list.specs.BusOrder.{place_of}
use Rattle.nova_machine.specs.Machine.{MachineState, console_place, place_of as line_place}
use Rattle.nova_machine.specs.Seen.{Seen, attached_in}
use Rattle.saved_session.specs.declared.saved.SavedEvent.{SavedEvent}
use Rattle.saved_session.specs.declared.saved.SavedPorts.{SavedPorts}
use Rattle.saved_session.specs.Parts.{UnitPart, MachinePart, State}
use Rattle.saved_session.specs.SavedWatch.{saved_watch}
use Rattle.saved_files.specs.Taking.{file_places, saved_files}
use Rattle.state_transfer.specs.Processor.{saved_cpu}

-- ---- the machine

abbrev pub saved_unit : UnitState → UnitPart
saved_unit u = record { position = place_of u.kind; registers = u.registers }

abbrev pub saved_event : Event → SavedEvent
saved_event e = record { position = place_of e.unit.kind; unit = e.unit.unit; remaining = e.remaining }

-- of memory the words below its size
unfoldable pub saved_machine : MachineState → MachinePart
saved_machine m = record {
  cpu = saved_cpu m;
  words = take m.processor.memory.size m.processor.memory.words;
  units = map saved_unit m.units;
  agenda = map saved_event m.events;
}

-- ---- the ports

abbrev pub port_number : Option ℕ → ℕ
port_number None = 0
port_number (Some port) = port

abbrev pub port_of : Option (LineOf Peer) → ℕ
port_of None = 0
port_of (Some line) = port_number line.port

-- that of line 0, that of line 1, which is the multiplexer's first, and that of the console line; 0 is none
unfoldable pub saved_ports : List (LineOf Peer) → SavedPorts
saved_ports lines = record {
  tti1 = port_of (slice_get lines (line_place 0));
  qty = port_of (slice_get lines (line_place 1));
  console = port_of (slice_get lines console_place);
}

-- ---- all of it

abbrev pub saved : Seen → State
saved s = record {
  machine = saved_machine s.machine;
  files = saved_files s.files (attached_in s.machine) file_places;
  ports = saved_ports s.lines;
  watch = saved_watch s.watch;
}
