-- The keyboard of a terminal (How to Use the Nova Computers, "Teletype"): there are two, each with its name and code, and
-- with what it wants of the machine where its event is due.
use Rattle.std.specs.Prelude.{ℕ, false, List, [], ◌∷◌, codes, slice_index, slice_set}
use Rattle.unit_trait.specs.declared.calls.IoOp.{IoOp}
use Rattle.unit_trait.specs.declared.calls.IoOp.TheVariants.{Dia}
use Rattle.unit_trait.specs.declared.calls.Pulse.{Pulse}
use Rattle.unit_trait.specs.declared.calls.Pulse.TheVariants.{Start, Clear}
use Rattle.unit_trait.specs.declared.calls.Want.{Want}
use Rattle.unit_trait.specs.declared.calls.Got.TheVariants.{Key, NoKey}
use Rattle.unit_trait.specs.Device.{Device, Register, kept_register, time_register, busy, done}
use Rattle.unit_trait.specs.Calls.{UnitCall, Io, Due, Answered, Reset, Row, holds}
use Rattle.unit_trait.specs.Usual.{flagged, again, reset_registers}

abbrev pub keyboard_registers : List Register
keyboard_registers = busy ∷ done ∷ time_register 100 ∷ kept_register (codes "BUF") 0o377 ∷ []

abbrev pub keyboard : List ℕ → ℕ → Device
keyboard name code = record { name = name; code = code; mask_bit = 14; units = 1; takes_file = false; registers = keyboard_registers }

-- DIA answers BUF
abbrev pub keyboard_input : IoOp → List ℕ → ℕ
keyboard_input Dia registers = slice_index registers 3
keyboard_input op registers = 0

-- S and C change the flags alone: the keyboard goes on looking for keys
abbrev pub keyboard_pulsed : Pulse → List ℕ → List ℕ
keyboard_pulsed Start registers = flagged 1 0 registers
keyboard_pulsed Clear registers = flagged 0 0 registers
keyboard_pulsed other registers = registers

-- A keyboard looks for a key after every TIME instructions, whether it was started or not. A key goes into BUF, where
-- one that was not read is lost.
unfoldable pub keyboard_row : Want → List ℕ → UnitCall → Row
keyboard_row key registers (Io op pulse word) = record (holds (keyboard_pulsed pulse registers)) { word = keyboard_input op registers }
keyboard_row key registers (Due unit) = record (holds registers) { want = key }
keyboard_row key registers (Answered unit (Key byte)) = again (slice_index registers 2) (slice_set (flagged 0 1 registers) 3 byte)
keyboard_row key registers (Answered unit NoKey) = again (slice_index registers 2) registers
keyboard_row key registers (Answered unit got) = holds registers
keyboard_row key registers Reset = again (slice_index registers 2) (reset_registers keyboard_registers registers)
