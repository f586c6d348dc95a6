-- What is put back of a saved session.
use Rattle.std.specs.Prelude.{◌≡◌, ◌≢◌, ℕ, suc, ◌-◌, ◌*◌, ◌^◌, ◌&&◌, Bool, false, not, List, [], ◌∷◌, ◌++◌, length, map, drop, replicate, Option, Some, None, option_map, if◌then◌else◌}
use Rattle.std.specs.List.{AllByRecursion}
use Rattle.file_traits.specs.Lists.{NamedBytes}
use Rattle.host_lines.specs.Traffic.{Peer}
use Rattle.telnet_lines.specs.Line.{LineOf, unconnected}
use Rattle.terminal_ports.specs.Ports.{AreNumbered}
use Rattle.terminal_ports.specs.Rows.{with_ports}
use Rattle.unit_trait.specs.declared.kind.Kind.TheVariants.{Qty}
use Rattle.unit_trait.specs.declared.kind.UnitName.{UnitName}
use Rattle.unit_trait.specs.Calls.{UnitState}
use Rattle.unit_trait.specs.Row.{initial_unit}
use Rattle.event_queue.specs.EventList.{Event}
use Rattle.unit_files.specs.Attachments.{Attachment, Held, no_attachments, attachment_at, file_units}
use Rattle.unit_files.specs.Buffer.{disk_unit}
use Rattle.nova_memory.specs.Memory.{MemoryState, IsMemory, IsSize}
use Rattle.expect_actions.specs.Watch.{forgotten}
use Rattle.nova_machine.specs.Machine.{MachineState, new_machine, has_multiplexer, line_count, place_of as line_place}
use Rattle.nova_machine.specs.Seen.{Seen, erased}
use Rattle.nova_machine.specs.Turn.{with_memory}
use Rattle.nova_machine.specs.Valid.{DiskIsItsFile}
use Rattle.saved_session.specs.declared.saved.SavedEvent.{SavedEvent}
use Rattle.saved_session.specs.declared.saved.SavedPorts.{SavedPorts}
use Rattle.saved_session.specs.Parts.{UnitPart, MachinePart, State}
use Rattle.saved_session.specs.Ranges.{kind_at}
use Rattle.saved_session.specs.SavedWatch.{watch_from}
use Rattle.saved_files.specs.Putting.{with_all, copy_of}
use Rattle.state_transfer.specs.Processor.{is_set, with_cpu_of}
use Rattle.state_transfer.specs.Ports.{assigned}

-- ---- the machine

-- so many K of words, and 0 past them, and that rule of the auto-index locations
abbrev pub memory_from : Bool → ℕ → List ℕ → MemoryState
memory_from before k words = record {
  words = words ++ replicate (2 ^ 15 - 1024 * k) 0;
  size = 1024 * k;
  before = before;
}

abbrev pub unit_from : UnitPart → UnitState
unit_from u = record { kind = kind_at u.position; registers = u.registers }

-- whether these units lack the multiplexer, and others have it
abbrev pub lack_multiplexer : List UnitState → List UnitState → Bool
lack_multiplexer units others = has_multiplexer others && not (has_multiplexer units)

-- whether a saved machine has a unit that is missing among the present ones
abbrev pub misses_unit : MachinePart → List UnitState → Bool
misses_unit m present = lack_multiplexer present (map unit_from m.units)

-- the multiplexer as it is at first
unfoldable pub first_multiplexer : UnitState
first_multiplexer = initial_unit Qty

-- the multiplexer, as it is at first, where these units lack it and the present ones have it
abbrev pub missing_from : List UnitState → List UnitState → List UnitState
missing_from units present = if lack_multiplexer units present then first_multiplexer ∷ [] else []

-- the units of a saved machine, as they are put into one that has the present ones
abbrev pub units_from : List UnitPart → List UnitState → List UnitState
units_from units present = map unit_from units ++ missing_from (map unit_from units) present

abbrev pub unit_named : ℕ → ℕ → UnitName
unit_named position unit = record { kind = kind_at position; unit = unit }

abbrev pub event_from : SavedEvent → Event
event_from e = record { unit = unit_named e.position e.unit; remaining = e.remaining }

-- ---- the attached files

-- an attachment, without the number of its file
abbrev pub held_from : Option Attachment → Option Held
held_from a = option_map (λ (b : Attachment). record { file = 0; attachment = b }) a

-- A machine to whose units that is attached, without its lines, and with nothing kept beside the disk's copy: of a new one
-- nothing is left. Of the present units only that matters whether the multiplexer is among them.
unfoldable pub machine_from : MachinePart → List UnitState → List (Option Attachment) → List NamedBytes → MachineState
machine_from m present attached files =
    record (with_memory (with_cpu_of (new_machine []) m.cpu) (memory_from (is_set m.cpu.autobit) m.cpu.size_k m.words)) {
      units = units_from m.units present;
      events = map event_from m.agenda;
      slots = map held_from attached;
      disk = copy_of (attachment_at attached disk_unit) files;
      aside = [];
      lines = [];
    }

-- ---- the ports

-- as many lines as these: those that get a port have it, all others have none, and nobody is connected
abbrev pub lines_from : SavedPorts → List (LineOf Peer) → List (LineOf Peer)
lines_from ports lines = with_ports (assigned ports lines) (map (λ (line : LineOf Peer). unconnected None) lines)

-- ---- all of it

-- What a session works on once a saved one was put back: the keys, the bytes of files and what is still to come on
-- lines are the present ones.
abbrev pub put_back : State → Seen → Seen
put_back s present = record present {
  machine = machine_from s.machine present.machine.units (with_all no_attachments s.files) present.files;
  watch = watch_from s.watch;
  lines = lines_from s.ports present.lines;
}

-- ---- what can be saved

-- nobody is connected to it, and its port, where it has one, is not 0
pub record IsIdleLine (line : LineOf Peer) : Type 0 where
  pub nobody : line ≡ unconnected line.port
  pub port : line.port ≢ Some 0

-- The memory is one, of a size that a machine may have, and each unit that takes files has its place. The machine is
-- without numbers of files, with nothing kept beside the disk's copy and without its lines, as it is seen. The disk's copy is
-- that of its file, and nothing is to be written back. The actions of the stop that came last are forgotten. There are the
-- lines that belong to the units, nobody is on one, and the ports of the multiplexer's rise by one, as a state file names only
-- the first of these.
pub record CanBeSaved (s : Seen) : Type 0 where
  pub memory : IsMemory s.machine.processor.memory
  pub size : IsSize s.machine.processor.memory.size
  pub places : length s.machine.slots ≡ file_units
  pub seen : erased s.machine ≡ s.machine
  pub copy : DiskIsItsFile s
  pub written : s.machine.disk.written ≡ false
  pub watch : s.watch ≡ forgotten s.watch
  pub many : length s.lines ≡ suc (line_count s.machine.units)
  pub numbered : AreNumbered (drop (line_place 1) s.lines)
  pub idle : AllByRecursion IsIdleLine s.lines
