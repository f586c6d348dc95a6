-- The processor: what instructions work on. It knows no time, no interrupt and no device.
use Rattle.std.specs.Prelude.{ℕ, List, [], ◌∷◌, Bool, false}
use Rattle.nova_memory.specs.Memory.{MemoryState, blank}
use Rattle.nova_processor.specs.declared.cpu.Cpu.{Cpu}

-- its registers, and the memory
pub record ProcessorState : Type 0 where
  pub cpu : Cpu
  pub memory : MemoryState

-- those registers with that memory
abbrev pub joined : List ℕ → Bool → ℕ → MemoryState → ProcessorState
joined acs carry pc memory = record { cpu = record { accumulators = acs; carry = carry; pc = pc }; memory = memory }

-- every register 0, and memory of 0
abbrev pub new_processor : ProcessorState
new_processor = record { cpu = record { accumulators = 0 ∷ 0 ∷ 0 ∷ 0 ∷ []; carry = false; pc = 0 }; memory = blank }
