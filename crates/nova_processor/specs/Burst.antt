-- Instructions on the processor alone, one behind another: those that no unit has a part in.
use Rattle.std.specs.Prelude.{◌≡◌, ℕ, zero, suc, ◌==◌, ◌<◌, Bool, true, false, nat_lt, Option, Some, None, if◌then◌else◌}
use Rattle.nova_word.specs.Bits.{bits}
use Rattle.nova_memory.specs.Memory.{get}
use Rattle.nova_memory.specs.Address.{address}
use Rattle.nova_processor.specs.declared.burst.Step.{Step}
use Rattle.nova_processor.specs.declared.burst.Step.TheVariants.{Executed, Transfer, ChainLimit}
use Rattle.nova_processor.specs.declared.burst.BurstEnd.{BurstEnd}
use Rattle.nova_processor.specs.declared.burst.BurstEnd.TheVariants as ended
use Rattle.nova_processor.specs.Processor.{ProcessorState}
use Rattle.nova_processor.specs.Instruction.{memory_reference, arithmetic}
use Rattle.nova_processor.specs.InputOutput.{multiply_divide}

-- the processor after a step, and what the step came to
pub record Stepped : Type 0 where
  pub processor : ProcessorState
  pub end : Step

abbrev pub steps : ProcessorState → Stepped
steps p = record { processor = p; end = Executed }

-- a memory reference at its effective address, if its chain ends
abbrev pub refers_to : ℕ → Option ℕ → ProcessorState → Stepped
refers_to word None p = record { processor = p; end = ChainLimit }
refers_to word (Some address) p = steps (memory_reference word address p)

unfoldable pub refers : ℕ → ProcessorState → Stepped
refers word p =
    let reference = address p.memory word p.cpu.pc p.cpu.accumulators in
    refers_to word reference.address (record p { memory = reference.memory })

-- a word of input and output: one to device 1 is executed, and every other one is left as it stands
unfoldable pub passes : ℕ → ProcessorState → Stepped
passes word p = if bits 10 15 word == 1 then steps (multiply_divide word p) else record { processor = p; end = Transfer }

-- the step of a word
unfoldable pub step_of : ℕ → ProcessorState → Stepped
step_of word p =
    if nat_lt word 0o60000 then refers word p
    else if nat_lt word 0o100000 then passes word p
    else steps (arithmetic word p)

-- the step of the word at PC
unfoldable pub step : ProcessorState → Stepped
step p = step_of (get p.memory p.cpu.pc) p

-- so many steps lead from one processor to another, each executed, and none from a stop
abbrev pub Reaches : (ℕ → Bool) → ℕ → ProcessorState → ProcessorState → Type 0
Reaches stops zero p q = q ≡ p
Reaches stops (suc count) p q = (mid : ProcessorState) × Reaches stops count p mid × (stops mid.cpu.pc ≡ false) × (step mid ≡ steps q)

-- what a burst came to: all the budget was executed; or a word of input and output is next, which is left; or a chain without an end,
-- which has changed words of memory and nothing else; or a stop is next
abbrev pub IsBurst : (ℕ → Bool) → ProcessorState → ℕ → ℕ → BurstEnd → ProcessorState → Type 0
IsBurst stops p budget done ended.Spent q = (done ≡ budget) × Reaches stops done p q
IsBurst stops p budget done ended.Transfer q = (done < budget) × Reaches stops done p q × (step q ≡ record { processor = q; end = Transfer })
IsBurst stops p budget done ended.ChainLimit q =
    (mid : ProcessorState) × (done < budget) × Reaches stops done p mid × (stops mid.cpu.pc ≡ false) × (step mid ≡ record { processor = q; end = ChainLimit })
IsBurst stops p budget done ended.AtStop q = (done < budget) × Reaches stops done p q × (stops q.cpu.pc ≡ true)
