-- The state of a machine, on which all that it does depends.
use Rattle.std.specs.Prelude.{◌≡◌, ℕ, suc, Bool, false, ◌||◌, List, [], ◌∷◌, length, Option, None, is_some, slice_set, replicate, if◌then◌else◌}
use Rattle.unit_trait.specs.declared.kind.Kind.{Kind}
use Rattle.unit_trait.specs.declared.kind.Kind.TheVariants.{Tti1, Tto1, Qty}
use Rattle.unit_trait.specs.Calls.{UnitState}
use Rattle.event_queue.specs.EventList.{Event}
use Rattle.unit_trait.specs.Kinds.{code_of}
use Rattle.unit_list.specs.Bus.{unit_at, kinds_of}
use Rattle.unit_list.specs.Reset.{reset_units, reset_events}
use Rattle.telnet_lines.specs.Line.{LineOf, unconnected}
use Rattle.unit_files.specs.Attachments.{Held, no_files}
use Rattle.unit_files.specs.Aside.{Aside, nothing_aside}
use Rattle.unit_files.specs.Buffer.{Buffer, AttachedFiles, no_buffer}
use Rattle.nova_interrupts.specs.declared.interrupts.Ints.{Ints}
use Rattle.nova_interrupts.specs.Interrupts.{no_interrupts}
use Rattle.nova_processor.specs.Processor.{ProcessorState, new_processor}

-- the processor with its memory, the interrupts, the switch register, whether a word to a device that is not there stops
-- the machine, the units in bus order, their events that wait, the time: how many instructions were executed since the
-- session began; how many keys were taken; what is attached to the units, what the disk holds of its file, and what the code
-- keeps beside that, on which nothing that is done depends; and its lines, the console line first, and behind it the terminal
-- lines by their numbers
pub record MachineState : Type 0 where
  pub processor : ProcessorState
  pub ints : Ints
  pub sr : ℕ
  pub stop_dev : Bool
  pub units : List UnitState
  pub events : List Event
  pub time : ℕ
  pub taken : ℕ
  pub slots : List (Option Held)
  pub disk : Buffer
  pub aside : Aside
  pub lines : List (LineOf ℕ)

-- what is attached to the units of a machine, and the machine with that attached
abbrev pub attached_files : MachineState → AttachedFiles
attached_files m = record { slots = m.slots; disk = m.disk; aside = m.aside }

abbrev pub with_attached_files : MachineState → AttachedFiles → MachineState
with_attached_files m a = record m { slots = a.slots; disk = a.disk; aside = a.aside }

-- where the console line stands, and where the terminal line with a number does
abbrev pub console_place : ℕ
console_place = 0

abbrev pub place_of : ℕ → ℕ
place_of number = suc number

-- the machine with that line in place of the one at that place
abbrev pub with_line : MachineState → ℕ → LineOf ℕ → MachineState
with_line m place line = record m { lines = slice_set m.lines place line }

-- All devices are reset: the mask is cleared, no event waits, and each unit is reset, in bus order, which may bring an
-- event of it.
unfoldable pub reset_devices : MachineState → MachineState
reset_devices m = record m {
  ints = record m.ints { mask = 0 };
  units = reset_units m.units;
  events = reset_events m.units [];
}

-- A reset: interrupts go off and none waits, and all devices are reset. PC, the accumulators, carry, the switch register,
-- STOP_DEV, memory, time, the keys taken, the files and the lines stay.
unfoldable pub reset_machine : MachineState → MachineState
reset_machine m = record (reset_devices m) { ints = no_interrupts }

abbrev pub has_terminal : List UnitState → Bool
has_terminal units = is_some (unit_at (code_of Tti1) units) || is_some (unit_at (code_of Tto1) units)

abbrev pub has_multiplexer : List UnitState → Bool
has_multiplexer units = is_some (unit_at (code_of Qty) units)

-- How many terminal lines there are. Line 0 is there where one of the units of the second teletype is. Where the multiplexer
-- is, its lines 1 to 64 stand behind line 0.
abbrev pub line_count : List UnitState → ℕ
line_count units = if has_multiplexer units then 65 else if has_terminal units then 1 else 0

-- the terminal lines, and all lines: the console line is always there
abbrev pub terminal_lines_for : List UnitState → List (LineOf ℕ)
terminal_lines_for units = replicate (line_count units) (unconnected None)

abbrev pub lines_for : List UnitState → List (LineOf ℕ)
lines_for units = unconnected None ∷ terminal_lines_for units

-- A machine with units of these kinds has just the terminal lines that belong to them, whatever was done with it.
unfoldable pub HasItsLines : List Kind → List (LineOf ℕ) → Type 0
HasItsLines kinds lines = (units : List UnitState) → kinds_of units ≡ kinds → length lines ≡ line_count units

-- a new machine with those units: every register 0, memory of 0, no instruction executed, no key taken, no file
-- attached, no line with a port, and as a reset leaves it
unfoldable pub new_machine : List UnitState → MachineState
new_machine units = reset_machine (record {
  processor = new_processor;
  ints = no_interrupts;
  sr = 0;
  stop_dev = false;
  units = units;
  events = [];
  time = 0;
  taken = 0;
  slots = no_files;
  disk = no_buffer;
  aside = nothing_aside;
  lines = lines_for units;
})

-- the machine with its processor changed so
abbrev pub on_processor : (ProcessorState → ProcessorState) → MachineState → MachineState
on_processor f m = record m { processor = f m.processor }
