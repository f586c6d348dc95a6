-- The printer of a terminal (How to Use the Nova Computers, "Teletype"): there are two, each with its name and code, and
-- with what it wants of the machine for the character in BUF.
use Rattle.std.specs.Prelude.{ℕ, ◌%◌, ◌^◌, false, List, [], ◌∷◌, codes, slice_index, slice_set}
use Rattle.unit_trait.specs.declared.calls.IoOp.{IoOp}
use Rattle.unit_trait.specs.declared.calls.IoOp.TheVariants.{Doa}
use Rattle.unit_trait.specs.declared.calls.Want.{Want}
use Rattle.unit_trait.specs.declared.calls.Got.TheVariants.{Done, LineFull}
use Rattle.unit_trait.specs.Device.{Device, Register, kept_register, time_register, busy, done}
use Rattle.unit_trait.specs.Calls.{UnitCall, Io, Due, Answered, Reset, Row, holds}
use Rattle.unit_trait.specs.Usual.{pulsed, completed, again, reset_registers}

abbrev pub teleprinter_registers : List Register
teleprinter_registers = busy ∷ done ∷ time_register 100 ∷ kept_register (codes "BUF") 0o377 ∷ []

abbrev pub teleprinter : List ℕ → ℕ → Device
teleprinter name code = record { name = name; code = code; mask_bit = 15; units = 1; takes_file = false; registers = teleprinter_registers }

-- DOA sets BUF to the low eight bits of the word
abbrev pub teleprinter_output : IoOp → ℕ → List ℕ → List ℕ
teleprinter_output Doa word registers = slice_set registers 3 (word % 2 ^ 8)
teleprinter_output op word registers = registers

-- S starts to print the character, which is there to be printed after TIME instructions. Where the terminal takes no
-- more, the printer tries again after TIME instructions.
unfoldable pub teleprinter_row : (ℕ → Want) → List ℕ → UnitCall → Row
teleprinter_row print registers (Io op pulse word) =
    let set = teleprinter_output op word registers in pulsed pulse (slice_index set 2) (holds set)
teleprinter_row print registers (Due unit) = record (holds registers) { want = print (slice_index registers 3) }
teleprinter_row print registers (Answered unit Done) = completed registers
teleprinter_row print registers (Answered unit LineFull) = again (slice_index registers 2) registers
teleprinter_row print registers (Answered unit got) = holds registers
teleprinter_row print registers Reset = holds (reset_registers teleprinter_registers registers)
