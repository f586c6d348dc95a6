-- What is saved of the processor, with its interrupts, its switches, the rule of the auto-index locations and the clock, and
-- what is put back of them.
use Rattle.std.specs.Prelude.{ℕ, ◌/◌, ◌==◌, Bool}
use Rattle.nova_processor.specs.declared.cpu.Cpu.{Cpu}
use Rattle.nova_interrupts.specs.declared.interrupts.Ints.{Ints}
use Rattle.nova_machine.specs.Machine.{MachineState}
use Rattle.nova_machine.specs.Registers.{with_cpu}
use Rattle.saved_session.specs.declared.saved.SavedCpu.{SavedCpu}
use Rattle.saved_files.specs.Taking.{flag_of}

abbrev pub saved_cpu : MachineState → SavedCpu
saved_cpu m = record {
  size_k = m.processor.memory.size / 1024;
  acs = m.processor.cpu.accumulators;
  carry = flag_of m.processor.cpu.carry;
  pc = m.processor.cpu.pc;
  on = flag_of m.ints.on;
  hold = flag_of m.ints.hold;
  mask = m.ints.mask;
  sr = m.sr;
  stop_dev = flag_of m.stop_dev;
  autobit = flag_of m.processor.memory.before;
  time = m.time;
  keys_taken = m.taken;
}

-- ---- what is put back

abbrev pub is_set : ℕ → Bool
is_set flag = flag == 1

abbrev pub cpu_from : SavedCpu → Cpu
cpu_from c = record { accumulators = c.acs; carry = is_set c.carry; pc = c.pc }

abbrev pub interrupts_from : SavedCpu → Ints
interrupts_from c = record { mask = c.mask; on = is_set c.on; hold = is_set c.hold }

-- the registers that instructions change
abbrev pub with_registers_of : MachineState → SavedCpu → MachineState
with_registers_of m c = with_cpu m (cpu_from c)

abbrev pub with_interrupts_of : MachineState → SavedCpu → MachineState
with_interrupts_of m c = record m { ints = interrupts_from c }

abbrev pub with_switches_of : MachineState → SavedCpu → MachineState
with_switches_of m c = record m { sr = c.sr; stop_dev = is_set c.stop_dev }

-- all of these, and the clock; memory stays, with its rule
abbrev pub with_cpu_of : MachineState → SavedCpu → MachineState
with_cpu_of m c = record (with_switches_of (with_interrupts_of (with_registers_of m c) c) c) {
  time = c.time;
  taken = c.keys_taken;
}
