-- What holds of every command, in a reader's words.
use Rattle.std.specs.Prelude.{◌≡◌, ℕ, ◌*◌, ◌<◌, ◌≤◌, true, IsTrue, List, [], Option, is_some, Err}
use Rattle.unit_trait.specs.declared.kind.Kind.TheVariants.{Tti}
use Rattle.unit_trait.specs.Kinds.{code_of}
use Rattle.event_queue.specs.EventList.{waits}
use Rattle.unit_list.specs.Bus.{unit_at}
use Rattle.unit_list.specs.Reset.{first_unit, reset_units, reset_events}
use Rattle.file_commands.specs.Notes.{CommandNote}
use Rattle.nova_interrupts.specs.Interrupts.{no_interrupts}
use Rattle.nova_memory.specs.Memory.{IsMemory, fits_size, get}
use Rattle.nova_machine.specs.Machine.{MachineState}
use Rattle.nova_machine.specs.Turn.{with_memory}
use Rattle.scp_parser.specs.Command.{Request, Reset, Run, SetSize}
use Rattle.command_session.specs.declared.fault.CommandFault.{CommandFault}
use Rattle.command_session.specs.Live.{Live, with_machine}
use Rattle.command_session.specs.Nature.{nature}
use Rattle.command_session.specs.Remains.{Remains}
use Rattle.command_session.specs.RunEffects.{address_fits, starting_at, running}
use Rattle.scp_commands.specs.Effect.{effect}
use Rattle.scp_commands.specs.Traces.{IsUntouched, LeavesTraces}

-- A command that is refused prints nothing and leaves all as it was, but for those that may leave something behind, and
-- these in files alone. One that flushes the disk may have done that.
pub record RefusalsChangeNothing : Type 0 where
  pub untouched : (limit : ℕ) (notes : List CommandNote) (live : Live) (request : Request) (fault : CommandFault)
      → (effect limit notes live request).answer ≡ Err fault
      → IsUntouched (nature request).flushes live (effect limit notes live request)
  pub all : (limit : ℕ) (notes : List CommandNote) (live : Live) (request : Request) (fault : CommandFault)
      → (effect limit notes live request).answer ≡ Err fault → (LeavesTraces request fault → ⊥)
      → Remains (nature request).flushes live (effect limit notes live request).after.live

-- A machine behind a reset: interrupts are off, none waits for an instruction, and none is masked out; each unit is reset,
-- and the events are those that the units' resets wish, in bus order, and no others. The processor with its memory, the
-- switch register, STOP_DEV, the time, the keys taken and the files are as they were.
pub record IsReset (before after : MachineState) : Type 0 where
  pub processor : after.processor ≡ before.processor
  pub sr : after.sr ≡ before.sr
  pub stop_dev : after.stop_dev ≡ before.stop_dev
  pub time : after.time ≡ before.time
  pub taken : after.taken ≡ before.taken
  pub slots : after.slots ≡ before.slots
  pub ints : after.ints ≡ no_interrupts
  pub units : after.units ≡ reset_units before.units
  pub events : after.events ≡ reset_events before.units []
  -- so a keyboard looks for keys again
  pub keyboard : is_some (unit_at (code_of Tti) before.units) ≡ true → waits (first_unit Tti) after.events ≡ true

-- RESET leaves a machine that is reset, and RUN begins with one, in which PC is its address where one is given.
pub record ResetsLeaveTheProgram : Type 0 where
  pub reset : (limit : ℕ) (notes : List CommandNote) (live : Live) → IsReset live.machine (effect limit notes live Reset).after.live.machine
  pub run : (limit : ℕ) (notes : List CommandNote) (live : Live) (address : Option ℕ) → IsTrue (address_fits address)
      → (m : MachineState) × IsReset live.machine m × (effect limit notes live (Run address) ≡ running limit notes (with_machine live (starting_at address m)))

-- A machine that was given so many K of memory: the words below that are as they were, all others are 0, and nothing else
-- has changed.
pub record IsSized (k : ℕ) (before after : MachineState) : Type 0 where
  pub size : after.processor.memory.size ≡ 1024 * k
  pub below : (a : ℕ) → a < 1024 * k → get after.processor.memory a ≡ get before.processor.memory a
  pub others : (a : ℕ) → 1024 * k ≤ a → get after.processor.memory a ≡ 0
  pub rest : after ≡ with_memory before after.processor.memory

-- SET CPU leaves such a machine, where it is given 4, 8 and so on up to 32 K
abbrev pub SetCpuLeavesTheRest : Type 0
SetCpuLeavesTheRest =
    (limit : ℕ) (notes : List CommandNote) (live : Live) (k : ℕ) → IsMemory live.machine.processor.memory → IsTrue (fits_size k)
    → IsSized k live.machine (effect limit notes live (SetSize k)).after.live.machine
