-- A loop that waits for a flag of a unit: a skip that is not taken, and behind it a JMP back to the skip. The flag stays as
-- it is until an event comes.
use Rattle.std.specs.Prelude.{◌≡◌, ◌≢◌, ◌==◌, ◌%◌, ℕ, ◌<◌, ◌≤◌, true, false, List, is_some, if◌then◌else◌}
use Rattle.nova_word.specs.Bits.{bits}
use Rattle.nova_memory.specs.Memory.{get}
use Rattle.nova_memory.specs.Address.{indexed}
use Rattle.unit_list.specs.Bus.{unit_at}
use Rattle.nova_processor.specs.Instruction.{following}
use Rattle.nova_processor.specs.Processor.{ProcessorState}
use Rattle.nova_processor.specs.InputOutput.{flag_skips, past}
use Rattle.expect_actions.specs.Breaks.{has_break}
use Rattle.expect_actions.specs.Watch.{WatchState}
use Rattle.nova_machine.specs.Machine.{MachineState}
use Rattle.nova_machine.specs.Transfer.{flags_in}

-- a word that is a skip on the flags of a device other than the processor and the multiply and divide unit
pub record IsTest (word : ℕ) : Type 0 where
  pub from : 0o60000 ≤ word
  pub to : word < 0o100000
  pub skip : bits 5 7 word ≡ 7
  pub no_multiply : bits 10 15 word ≢ 1
  pub no_processor : bits 10 15 word ≢ 0o77

-- a unit with that code is there, and a skip on its flags is not taken
pub record IsUntaken (code test : ℕ) (m : MachineState) : Type 0 where
  pub there : is_some (unit_at code m.units) ≡ true
  pub untaken : flag_skips test (flags_in code m).busy (flags_in code m).done ≡ false

-- a word that stands at one address and is a JMP to another, without an indirect chain
pub record IsJump (word at to : ℕ) (acs : List ℕ) : Type 0 where
  pub direct : word < 0o2000
  pub target : indexed word at acs ≡ to

-- the machine is at such a loop
pub record IsWaiting (m : MachineState) : Type 0 where
  pub test : IsTest (get m.processor.memory m.processor.cpu.pc)
  pub untaken : IsUntaken (bits 10 15 (get m.processor.memory m.processor.cpu.pc)) (bits 8 9 (get m.processor.memory m.processor.cpu.pc)) m
  pub back : IsJump (get m.processor.memory (following m.processor.cpu.pc)) (following m.processor.cpu.pc) m.processor.cpu.pc m.processor.cpu.accumulators

-- no break is at the two instructions of the loop
pub record AreUnbroken (watch : WatchState) (m : MachineState) : Type 0 where
  pub test : has_break m.processor.cpu.pc watch.breaks.list ≡ false
  pub back : has_break (following m.processor.cpu.pc) watch.breaks.list ≡ false

-- where so many instructions of such a loop lead from its skip: to the JMP where they are odd
unfoldable pub halfway : ℕ → ProcessorState → ProcessorState
halfway count p = if count % 2 == 1 then past p else p
