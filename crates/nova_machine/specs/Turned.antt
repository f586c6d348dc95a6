-- The pieces of a turn that print nothing.
use Rattle.std.specs.Prelude.{◌+◌, Option, Some, None}
use Rattle.event_queue.specs.EventList.{ticked as ticked_events}
use Rattle.nova_interrupts.specs.Interrupts.{released}
use Rattle.nova_machine.specs.declared.machine.Stop.{Stop}
use Rattle.nova_processor.specs.Processor.{ProcessorState}
use Rattle.nova_machine.specs.Machine.{MachineState, on_processor}
use Rattle.nova_machine.specs.Seen.{Seen, with_machine}
use Rattle.nova_machine.specs.Parts.{Part, silent}

-- the machine after such a piece, and its stop, if it stopped
pub record Turned : Type 0 where
  pub machine : MachineState
  pub stop : Option Stop

abbrev pub goes_on : MachineState → Turned
goes_on m = record { machine = m; stop = None }

abbrev pub stops : Stop → MachineState → Turned
stops stop m = record { machine = m; stop = Some stop }

-- such a piece as a part of a run
abbrev pub still : Seen → Turned → Part
still s t = silent t.stop (with_machine s t.machine)

-- An instruction is known to be executed: interrupts that waited for one wait no longer.
unfoldable pub begun : MachineState → MachineState
begun m = record m { ints = released m.ints }

-- an instruction was executed: time has passed, and each event that waits is nearer by one
unfoldable pub ticked : MachineState → MachineState
ticked m = record m { time = m.time + 1; events = ticked_events m.events }

-- an instruction is executed: HOLD is cleared before it does its own work, and time passes behind it
abbrev pub executed : (ProcessorState → ProcessorState) → MachineState → MachineState
executed f m = ticked (on_processor f (begun m))
