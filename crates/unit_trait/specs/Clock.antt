-- The real-time clock (How to Use the Nova Computers, "Real-Time Clock"). Its periods are counted in instructions, by this
-- project's own choice.
use Rattle.std.specs.Prelude.{ℕ, ◌%◌, false, List, [], ◌∷◌, codes, slice_index, slice_set}
use Rattle.unit_trait.specs.declared.calls.IoOp.{IoOp}
use Rattle.unit_trait.specs.declared.calls.IoOp.TheVariants.{Doa}
use Rattle.unit_trait.specs.declared.calls.Got.TheVariants.{Done}
use Rattle.unit_trait.specs.Device.{Device, cleared_register, busy, done}
use Rattle.unit_trait.specs.Calls.{UnitCall, Io, Due, Answered, Reset, Row, holds}
use Rattle.unit_trait.specs.Usual.{pulsed, completed, reset_registers}

abbrev pub clock : Device
clock = record {
  name = codes "CLK";
  code = 0o14;
  mask_bit = 13;
  units = 1;
  takes_file = false;
  registers = busy ∷ done ∷ cleared_register (codes "SEL") 3 ∷ [];
}

-- how many instructions pass to a tick, by SEL
abbrev pub clock_period : ℕ → ℕ
clock_period sel = slice_index (16000 ∷ 100000 ∷ 10000 ∷ 1000 ∷ []) sel

-- DOA sets SEL to the last two bits of the word
abbrev pub clock_output : IoOp → ℕ → List ℕ → List ℕ
clock_output Doa word registers = slice_set registers 2 (word % 4)
clock_output op word registers = registers

-- S starts a tick of the period that SEL then has. The tick wants nothing of the machine, and is done.
unfoldable pub clock_row : List ℕ → UnitCall → Row
clock_row registers (Io op pulse word) =
    let set = clock_output op word registers in pulsed pulse (clock_period (slice_index set 2)) (holds set)
clock_row registers (Due unit) = holds registers
clock_row registers (Answered unit Done) = completed registers
clock_row registers (Answered unit got) = holds registers
clock_row registers Reset = holds (reset_registers clock.registers registers)
