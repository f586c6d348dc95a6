-- One instruction on a processor, by cases on its word as a number (How to Use the Nova Computers, "Memory Reference Instructions" and
-- "Arithmetic and Logical Instructions").
use Rattle.std.specs.Prelude.{ℕ, ◌+◌, ◌-◌, ◌%◌, ◌^◌, ◌==◌, Bool, false, slice_index, slice_set, if◌then◌else◌}
use Rattle.nova_word.specs.Bits.{bits}
use Rattle.nova_memory.specs.Memory.{get, put}
use Rattle.nova_alu.specs.Arithmetic.{loaded_accumulators, loaded_carry, skips_next}
use Rattle.nova_processor.specs.declared.cpu.Cpu.{Cpu}
use Rattle.nova_processor.specs.Processor.{ProcessorState}

-- the address that follows another, around the end of memory
abbrev pub following : ℕ → ℕ
following address = (address + 1) % 2 ^ 15

-- PC behind the instruction: at the next address, or one further where it skips
unfoldable pub advanced : Bool → Cpu → Cpu
advanced skips cpu = record cpu { pc = if skips then following (following cpu.pc) else following cpu.pc }

-- JMP
unfoldable pub jump : ℕ → ProcessorState → ProcessorState
jump address p = record p { cpu = record p.cpu { pc = address } }

-- JSR: AC3 gets the address behind the instruction. The effective address was formed before.
unfoldable pub jump_to_subroutine : ℕ → ProcessorState → ProcessorState
jump_to_subroutine address p = record p { cpu = record p.cpu { pc = address; accumulators = slice_set p.cpu.accumulators 3 (following p.cpu.pc) } }

-- ISZ and DSZ: that word is stored, and the next instruction is skipped where it is 0
unfoldable pub store_and_skip : ℕ → ℕ → ProcessorState → ProcessorState
store_and_skip address word p = record p { cpu = advanced (word == 0) p.cpu; memory = put p.memory address word }

-- LDA
unfoldable pub load : ℕ → ℕ → ProcessorState → ProcessorState
load accumulator address p = record p { cpu = advanced false (record p.cpu { accumulators = slice_set p.cpu.accumulators accumulator (get p.memory address) }) }

-- STA
unfoldable pub store : ℕ → ℕ → ProcessorState → ProcessorState
store accumulator address p = record p { cpu = advanced false p.cpu; memory = put p.memory address (slice_index p.cpu.accumulators accumulator) }

-- the instructions without an accumulator, by bits 3 and 4: JMP, JSR, ISZ, DSZ
unfoldable pub without_accumulator : ℕ → ℕ → ProcessorState → ProcessorState
without_accumulator function address p =
    if function == 0 then jump address p
    else if function == 1 then jump_to_subroutine address p
    else if function == 2 then store_and_skip address ((get p.memory address + 1) % 2 ^ 16) p
    else store_and_skip address ((get p.memory address + (2 ^ 16 - 1)) % 2 ^ 16) p

-- a memory reference at its effective address, by bits 0 to 2: 0 without an accumulator, 1 LDA, 2 STA
unfoldable pub memory_reference : ℕ → ℕ → ProcessorState → ProcessorState
memory_reference word address p =
    if bits 0 2 word == 0 then without_accumulator (bits 3 4 word) address p
    else if bits 0 2 word == 1 then load (bits 3 4 word) address p
    else store (bits 3 4 word) address p

-- an arithmetic or logical instruction
unfoldable pub arithmetic : ℕ → ProcessorState → ProcessorState
arithmetic word p =
    let acs = p.cpu.accumulators in
    let carry = p.cpu.carry in
    record p { cpu = advanced (skips_next word acs carry) (record p.cpu { accumulators = loaded_accumulators word acs carry; carry = loaded_carry word acs carry }) }
