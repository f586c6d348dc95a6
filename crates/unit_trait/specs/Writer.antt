-- The units that write one byte behind the other to a file: the paper tape punch and the line printer (How to Use the
-- Nova Computers, "Paper Tape Punch" and "Line Printer"). Each has its registers, and keeps so many bits of a word.
use Rattle.std.specs.Prelude.{ℕ, ◌+◌, ◌%◌, ◌^◌, List, slice_index, slice_set}
use Rattle.unit_trait.specs.declared.calls.IoOp.{IoOp}
use Rattle.unit_trait.specs.declared.calls.IoOp.TheVariants.{Doa}
use Rattle.unit_trait.specs.declared.calls.Want.TheVariants.{WriteByte}
use Rattle.unit_trait.specs.declared.calls.Got.TheVariants.{Done, End, NoFile}
use Rattle.unit_trait.specs.declared.calls.UnitStop.TheVariants as unit_stop
use Rattle.unit_trait.specs.Device.{Register}
use Rattle.unit_trait.specs.Calls.{UnitCall, Io, Due, Answered, Reset, Row, holds}
use Rattle.unit_trait.specs.Usual.{pulsed, completed, stopping, reset_registers}

-- DOA sets BUF to the low bits of the word
abbrev pub writer_output : ℕ → IoOp → ℕ → List ℕ → List ℕ
writer_output bits Doa word registers = slice_set registers 4 (word % 2 ^ bits)
writer_output bits op word registers = registers

-- the place behind the byte that was written
abbrev pub byte_written : List ℕ → List ℕ
byte_written registers = slice_set registers 5 (slice_index registers 5 + 1)

-- S starts to write, and TIME instructions later the byte in BUF is there to be written at POS. The unit is done too
-- where there is no file, or no room left in it, and then POS stays.
unfoldable pub writer_row : ℕ → List Register → List ℕ → UnitCall → Row
writer_row bits table registers (Io op pulse word) =
    let set = writer_output bits op word registers in pulsed pulse (slice_index set 3) (holds set)
writer_row bits table registers (Due unit) =
    record (holds registers) { want = WriteByte (slice_index registers 5) (slice_index registers 4) }
writer_row bits table registers (Answered unit Done) = completed (byte_written registers)
writer_row bits table registers (Answered unit End) = stopping unit_stop.End (completed registers)
writer_row bits table registers (Answered unit NoFile) = stopping unit_stop.NoFile (completed registers)
writer_row bits table registers (Answered unit got) = holds registers
writer_row bits table registers Reset = holds (reset_registers table registers)
