-- The registers of the processor, as commands name them: how to read one, and how to set it.
use Rattle.std.specs.Prelude.{ℕ, ◌==◌, slice_index, slice_set, if◌then◌else◌}
use Rattle.unit_trait.specs.declared.processor.CpuReg.{CpuReg}
use Rattle.unit_trait.specs.declared.processor.CpuReg.TheVariants.{Ac0, Ac1, Ac2, Ac3, C, Pc, Ion, Hold, Mask, Sr, StopDev, Size}
use Rattle.nova_processor.specs.declared.cpu.Cpu.{Cpu}
use Rattle.nova_machine.specs.Machine.{MachineState}

-- what a register holds; SIZE is the number of words of memory
abbrev pub register_of : MachineState → CpuReg → ℕ
register_of m Ac0 = slice_index m.processor.cpu.accumulators 0
register_of m Ac1 = slice_index m.processor.cpu.accumulators 1
register_of m Ac2 = slice_index m.processor.cpu.accumulators 2
register_of m Ac3 = slice_index m.processor.cpu.accumulators 3
register_of m C = if m.processor.cpu.carry then 1 else 0
register_of m Pc = m.processor.cpu.pc
register_of m Ion = if m.ints.on then 1 else 0
register_of m Hold = if m.ints.hold then 1 else 0
register_of m Mask = m.ints.mask
register_of m Sr = m.sr
register_of m StopDev = if m.stop_dev then 1 else 0
register_of m Size = m.processor.memory.size

-- the machine with other registers of its processor
abbrev pub with_cpu : MachineState → Cpu → MachineState
with_cpu m cpu = record m { processor = record m.processor { cpu = cpu } }

-- the machine with that value in one of its registers
abbrev pub with_register : MachineState → CpuReg → ℕ → MachineState
with_register m Ac0 v = with_cpu m (record m.processor.cpu { accumulators = slice_set m.processor.cpu.accumulators 0 v })
with_register m Ac1 v = with_cpu m (record m.processor.cpu { accumulators = slice_set m.processor.cpu.accumulators 1 v })
with_register m Ac2 v = with_cpu m (record m.processor.cpu { accumulators = slice_set m.processor.cpu.accumulators 2 v })
with_register m Ac3 v = with_cpu m (record m.processor.cpu { accumulators = slice_set m.processor.cpu.accumulators 3 v })
with_register m C v = with_cpu m (record m.processor.cpu { carry = v == 1 })
with_register m Pc v = with_cpu m (record m.processor.cpu { pc = v })
with_register m Ion v = record m { ints = record m.ints { on = v == 1 } }
with_register m Hold v = record m { ints = record m.ints { hold = v == 1 } }
with_register m Mask v = record m { ints = record m.ints { mask = v } }
with_register m Sr v = record m { sr = v }
with_register m StopDev v = record m { stop_dev = v == 1 }
with_register m Size v = m
