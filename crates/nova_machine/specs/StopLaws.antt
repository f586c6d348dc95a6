-- The stops of a turn have their causes, and come wherever these are given.
use Rattle.std.specs.Prelude.{◌≡◌, ◌≢◌, ◌↔◌, ◌⊎◌, ℕ, ◌+◌, ◌<◌, ◌≤◌, Bool, true, false, Option, Some, None}
use Rattle.nova_word.specs.Bits.{bits}
use Rattle.nova_memory.specs.Memory.{get}
use Rattle.nova_memory.specs.Address.{address}
use Rattle.unit_trait.specs.declared.kind.UnitName.{UnitName}
use Rattle.unit_list.specs.Bus.{unit_at}
use Rattle.nova_machine.specs.declared.machine.Stop.{Stop}
use Rattle.nova_machine.specs.declared.machine.Stop.TheVariants.{Halt, ChainLimit, UnknownDevice, Break, Expect, UnitEnd, UnitNone, BadImage, FileFault, Wru}
use Rattle.expect_actions.specs.Breaks.{stop_at}
use Rattle.unit_files.specs.declared.faults.UnitFault.{UnitFault}
use Rattle.nova_machine.specs.Machine.{MachineState}
use Rattle.nova_machine.specs.Notes.{UnitNote}
use Rattle.nova_machine.specs.Seen.{Seen}
use Rattle.nova_processor.specs.Instruction.{following}
use Rattle.nova_machine.specs.Service.{serving}
use Rattle.nova_machine.specs.Turn.{with_memory, is_interrupted, interrupt_reference, attended, prepared, turn}

-- the word that an instruction of that machine has
abbrev pub fetched : MachineState → ℕ
fetched m = get m.processor.memory m.processor.cpu.pc

-- a word of input and output
pub record IsTransfer (word : ℕ) : Type 0 where
  pub least : 0o60000 ≤ word
  pub most : word < 0o100000

-- DOC to device 77: HALT, with any accumulator and pulse
pub record IsHalt (word : ℕ) : Type 0 where
  pub transfer : IsTransfer word
  pub device : bits 10 15 word ≡ 0o77
  pub function : bits 5 7 word ≡ 6

-- a word to a device that is not there, where STOP_DEV is on; devices 1 and 77 are always there
pub record IsUnknown (word : ℕ) (m : MachineState) : Type 0 where
  pub transfer : IsTransfer word
  pub multiplier : bits 10 15 word ≢ 1
  pub processor : bits 10 15 word ≢ 0o77
  pub absent : unit_at (bits 10 15 word) m.units ≡ None
  pub stops : m.stop_dev ≡ true

-- a memory reference whose indirect chain does not end
pub record IsEndless (word : ℕ) (m : MachineState) : Type 0 where
  pub memory_reference : word < 0o60000
  pub chain : (address m.processor.memory word m.processor.cpu.pc m.processor.cpu.accumulators).address ≡ None

-- the services go on, an interrupt comes, and the chain of its JMP @1 does not end
pub record IsEndlessEntry (note : Option UnitNote) (s : Seen) : Type 0 where
  pub goes : (serving note s).stop ≡ None
  pub comes : is_interrupted (serving note s).after.machine ≡ true
  pub chain : (interrupt_reference (serving note s).after.machine).address ≡ None

-- what comes before the instruction goes on to it
abbrev pub IsReached : Option UnitNote → Bool → Seen → Type 0
IsReached note first s = (prepared note first s).stop ≡ None

-- the machine that executes the instruction
abbrev pub ready : Option UnitNote → Bool → Seen → MachineState
ready note first s = (prepared note first s).after.machine

-- Halt has taken its time and gone on behind itself
pub record IsHalted (before after : MachineState) : Type 0 where
  pub time : after.time ≡ before.time + 1
  pub pc : after.processor.cpu.pc ≡ following before.processor.cpu.pc

-- the machine at a chain without an end, which has changed words of memory and nothing else
abbrev pub behind_chain : MachineState → MachineState
behind_chain m = with_memory m (address m.processor.memory (fetched m) m.processor.cpu.pc m.processor.cpu.accumulators).memory

-- the machine at an interrupt whose chain does not end: interrupts are off, PC is in location 0, the words that the chain
-- changed stay so, and PC is where it was
abbrev pub behind_entry : MachineState → MachineState
behind_entry m = with_memory (record m { ints = record m.ints { on = false } }) (interrupt_reference m).memory

-- the break with that number stops the turn
pub record IsBroken (note : Option UnitNote) (first : Bool) (s : Seen) (k : ℕ) : Type 0 where
  pub later : first ≡ false
  pub attends : (attended note s).stop ≡ None
  pub stops : stop_at (attended note s).after.machine.processor.cpu.pc (attended note s).after.watch.breaks.list ≡ Some k

pub record TurnStops : Type 0 where
  -- a service that stops ends the turn there, and every other turn goes on from it
  pub service : (note : Option UnitNote) (first : Bool) (s : Seen) (stop : Stop) → (serving note s).stop ≡ Some stop → turn note first s ≡ serving note s
  pub unit_end : (note : Option UnitNote) (first : Bool) (s : Seen) (unit : UnitName) → ((turn note first s).stop ≡ Some (UnitEnd unit)) ↔ ((serving note s).stop ≡ Some (UnitEnd unit))
  pub unit_none : (note : Option UnitNote) (first : Bool) (s : Seen) (unit : UnitName) → ((turn note first s).stop ≡ Some (UnitNone unit)) ↔ ((serving note s).stop ≡ Some (UnitNone unit))
  pub bad_image : (note : Option UnitNote) (first : Bool) (s : Seen) (unit : UnitName) (place : ℕ) → ((turn note first s).stop ≡ Some (BadImage unit place)) ↔ ((serving note s).stop ≡ Some (BadImage unit place))
  pub file_fault : (note : Option UnitNote) (first : Bool) (s : Seen) (f : UnitFault) → ((turn note first s).stop ≡ Some (FileFault f)) ↔ ((serving note s).stop ≡ Some (FileFault f))
  pub wru : (note : Option UnitNote) (first : Bool) (s : Seen) → ((turn note first s).stop ≡ Some Wru) ↔ ((serving note s).stop ≡ Some Wru)
  pub expect : (note : Option UnitNote) (first : Bool) (s : Seen) (k : ℕ) → ((turn note first s).stop ≡ Some (Expect k)) ↔ ((serving note s).stop ≡ Some (Expect k))
  -- a break stops a turn that is not a run's first, once the services and the interrupt go on to it
  pub break_ : (note : Option UnitNote) (first : Bool) (s : Seen) (k : ℕ) → ((turn note first s).stop ≡ Some (Break k)) ↔ IsBroken note first s k
  pub halt : (note : Option UnitNote) (first : Bool) (s : Seen) → ((turn note first s).stop ≡ Some Halt) ↔ (IsReached note first s × IsHalt (fetched (ready note first s)))
  pub unknown_device : (note : Option UnitNote) (first : Bool) (s : Seen) → ((turn note first s).stop ≡ Some UnknownDevice) ↔ (IsReached note first s × IsUnknown (fetched (ready note first s)) (ready note first s))
  pub chain_limit : (note : Option UnitNote) (first : Bool) (s : Seen) → ((turn note first s).stop ≡ Some ChainLimit) ↔ (IsEndlessEntry note s ⊎ (IsReached note first s × IsEndless (fetched (ready note first s)) (ready note first s)))
  -- what stands after them
  pub halted : (note : Option UnitNote) (first : Bool) (s : Seen) → (turn note first s).stop ≡ Some Halt → IsHalted (ready note first s) (turn note first s).after.machine
  pub unknown : (note : Option UnitNote) (first : Bool) (s : Seen) → (turn note first s).stop ≡ Some UnknownDevice → (turn note first s).after ≡ (prepared note first s).after
  pub unended : (note : Option UnitNote) (first : Bool) (s : Seen) → IsReached note first s → (turn note first s).stop ≡ Some ChainLimit → (turn note first s).after.machine ≡ behind_chain (ready note first s)
  pub unentered : (note : Option UnitNote) (first : Bool) (s : Seen) → IsEndlessEntry note s → (turn note first s).after.machine ≡ behind_entry (serving note s).after.machine
  pub broken : (note : Option UnitNote) (first : Bool) (s : Seen) (k : ℕ) → (turn note first s).stop ≡ Some (Break k) → (turn note first s).after.machine ≡ (attended note s).after.machine
