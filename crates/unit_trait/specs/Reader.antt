-- The paper tape reader (How to Use the Nova Computers, "Paper Tape Reader").
use Rattle.std.specs.Prelude.{ℕ, ◌+◌, true, List, [], ◌∷◌, codes, slice_index, slice_set}
use Rattle.unit_trait.specs.declared.calls.IoOp.{IoOp}
use Rattle.unit_trait.specs.declared.calls.IoOp.TheVariants.{Dia}
use Rattle.unit_trait.specs.declared.calls.Want.TheVariants.{ReadByte}
use Rattle.unit_trait.specs.declared.calls.Got.TheVariants.{Byte, End, NoFile}
use Rattle.unit_trait.specs.declared.calls.UnitStop.TheVariants as unit_stop
use Rattle.unit_trait.specs.Device.{Device, kept_register, time_register, busy, done, stop_ioe, position}
use Rattle.unit_trait.specs.Calls.{UnitCall, Io, Due, Answered, Reset, Row, holds}
use Rattle.unit_trait.specs.Usual.{pulsed, completed, stopping, reset_registers}

abbrev pub reader : Device
reader = record {
  name = codes "PTR";
  code = 0o12;
  mask_bit = 11;
  units = 1;
  takes_file = true;
  registers = busy ∷ done ∷ stop_ioe ∷ time_register 300 ∷ kept_register (codes "BUF") 0o377 ∷ position ∷ [];
}

-- DIA answers BUF
abbrev pub reader_input : IoOp → List ℕ → ℕ
reader_input Dia registers = slice_index registers 4
reader_input op registers = 0

-- BUF holds a byte that was read, and the tape has moved on by it
abbrev pub byte_read : ℕ → List ℕ → List ℕ
byte_read byte registers = slice_set (slice_set registers 4 byte) 5 (slice_index registers 5 + 1)

-- S starts to read, and TIME instructions later the byte at POS is there to be read. At the end of the tape, and where
-- there is none, the reader goes on waiting.
unfoldable pub reader_row : List ℕ → UnitCall → Row
reader_row registers (Io op pulse word) =
    pulsed pulse (slice_index registers 3) (record (holds registers) { word = reader_input op registers })
reader_row registers (Due unit) = record (holds registers) { want = ReadByte (slice_index registers 5) }
reader_row registers (Answered unit (Byte byte)) = completed (byte_read byte registers)
reader_row registers (Answered unit End) = stopping unit_stop.End (holds registers)
reader_row registers (Answered unit NoFile) = stopping unit_stop.NoFile (holds registers)
reader_row registers (Answered unit got) = holds registers
reader_row registers Reset = holds (reset_registers reader.registers registers)
