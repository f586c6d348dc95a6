-- The magnetic tape, of eight drives that share one control (How to Use the Nova Computers, "Magnetic Tape"). Its
-- registers, and the numbers of its commands, are this project's own.
use Rattle.std.specs.Prelude.{ℕ, ◌+◌, ◌-◌, ◌/◌, ◌%◌, ◌^◌, ◌==◌, ◌||◌, Bool, true, false, List, [], ◌∷◌, ◌++◌, codes, map, take, drop, slice_index, slice_set, if◌then◌else◌}
use Rattle.unit_trait.specs.declared.calls.IoOp.{IoOp}
use Rattle.unit_trait.specs.declared.calls.IoOp.TheVariants.{Dia, Doa, Dib, Dob, Dic, Doc}
use Rattle.unit_trait.specs.declared.calls.Pulse.{Pulse}
use Rattle.unit_trait.specs.declared.calls.Pulse.TheVariants.{Start, Clear}
use Rattle.unit_trait.specs.declared.calls.Want.{Want}
use Rattle.unit_trait.specs.declared.calls.Want.TheVariants.{Nothing, Tape}
use Rattle.unit_trait.specs.declared.calls.Got.{Got}
use Rattle.unit_trait.specs.declared.calls.Got.TheVariants as gots
use Rattle.unit_trait.specs.declared.calls.TapeEnd.{TapeEnd}
use Rattle.unit_trait.specs.declared.calls.TapeEnd.TheVariants.{Medium, Mark}
use Rattle.unit_trait.specs.declared.calls.TapeGot.{TapeGot}
use Rattle.unit_trait.specs.declared.calls.TapeOrder.{TapeOrder}
use Rattle.unit_trait.specs.declared.calls.UnitStop.{UnitStop}
use Rattle.unit_trait.specs.declared.calls.UnitStop.TheVariants as unit_stop
use Rattle.unit_trait.specs.Device.{Device, Register, numbered_name, kept_register, cleared_register, time_register, busy, done, stop_ioe}
use Rattle.unit_trait.specs.Calls.{UnitCall, Io, Due, Answered, Reset, Row, holds}
use Rattle.unit_trait.specs.Usual.{flagged, pulsed, stopping, reset_registers}

-- the largest place of a tape
abbrev pub tape_length : ℕ
tape_length = 0o400000000

-- where the tape of a drive stands
abbrev pub tape_position : ℕ → Register
tape_position drive = kept_register (numbered_name (codes "POS") drive) tape_length

-- the same of each drive
abbrev pub tape_positions : List Register
tape_positions = map tape_position (0 ∷ 1 ∷ 2 ∷ 3 ∷ 4 ∷ 5 ∷ 6 ∷ 7 ∷ [])

abbrev pub tape : Device
tape = record {
  name = codes "MTA";
  code = 0o22;
  mask_bit = 10;
  units = 8;
  takes_file = true;
  registers = busy ∷ done ∷ stop_ioe ∷ time_register 1000 ∷ cleared_register (codes "CMD") 7 ∷ cleared_register (codes "DRIVE") 7 ∷ kept_register (codes "MA") 0o77777
      ∷ kept_register (codes "WC") 0o7777 ∷ cleared_register (codes "STAT") 0o177777 ∷ tape_positions;
}

-- the bits of STAT: an error; a command that cannot be done; a block with its error flag; the end of the medium; a tape
-- mark; a tape at its first place; a block of more words than were asked for; a block of an odd length; a drive that is
-- ready
abbrev pub tape_error : ℕ
tape_error = 0o100000

abbrev pub tape_illegal : ℕ
tape_illegal = 0o20000

abbrev pub tape_bad_data : ℕ
tape_bad_data = 0o2000

abbrev pub tape_at_end : ℕ
tape_at_end = 0o1000

abbrev pub tape_at_mark : ℕ
tape_at_mark = 0o400

abbrev pub tape_at_first : ℕ
tape_at_first = 0o200

abbrev pub tape_data_lost : ℕ
tape_data_lost = 0o20

abbrev pub tape_odd : ℕ
tape_odd = 0o2

abbrev pub tape_ready : ℕ
tape_ready = 0o1

abbrev pub is_medium : TapeEnd → Bool
is_medium Medium = true
is_medium end = false

abbrev pub is_mark : TapeEnd → Bool
is_mark Mark = true
is_mark end = false

-- a bit of STAT where it is to be set
abbrev pub bit_where : Bool → ℕ → ℕ
bit_where set bit = if set then bit else 0

-- the bits that say more of what an operation came to
abbrev pub tape_said : TapeGot → ℕ
tape_said got = bit_where got.flagged tape_bad_data + bit_where (is_medium got.end) tape_at_end + bit_where (is_mark got.end) tape_at_mark
    + bit_where (got.place == 0) tape_at_first + bit_where got.lost tape_data_lost + bit_where got.odd tape_odd

-- a block with its error flag, the end of the medium and words that were lost are errors; a mark, the first place and an
-- odd length are none
abbrev pub is_tape_error : TapeGot → Bool
is_tape_error got = got.flagged || is_medium got.end || got.lost

-- STAT behind an operation that was done
abbrev pub tape_status : TapeGot → ℕ
tape_status got = tape_ready + tape_said got + bit_where (is_tape_error got) tape_error

abbrev pub with_tape_status : ℕ → List ℕ → List ℕ
with_tape_status stat registers = slice_set registers 8 stat

-- POS of a drive: the POS of all are the registers behind STAT
abbrev pub place_of_drive : ℕ → List ℕ → ℕ
place_of_drive drive registers = slice_index (drop 9 registers) drive

abbrev pub with_place_of_drive : ℕ → ℕ → List ℕ → List ℕ
with_place_of_drive drive place registers = take 9 registers ++ slice_set (drop 9 registers) drive place

-- DIA answers STAT, DIB MA, and DIC WC
abbrev pub tape_input : IoOp → List ℕ → ℕ
tape_input Dia registers = slice_index registers 8
tape_input Dib registers = slice_index registers 6
tape_input Dic registers = slice_index registers 7
tape_input op registers = 0

-- DOA sets DRIVE to the low 3 bits of the word and CMD to the next 3, DOB sets MA to the low 15, and DOC WC to the low 12
abbrev pub tape_output : IoOp → ℕ → List ℕ → List ℕ
tape_output Doa word registers = slice_set (slice_set registers 4 (word / 8 % 8)) 5 (word % 8)
tape_output Dob word registers = slice_set registers 6 (word % 2 ^ 15)
tape_output Doc word registers = slice_set registers 7 (word % 2 ^ 12)
tape_output op word registers = registers

-- a pulse clears STAT too; the event that S wishes is one of the drive that DRIVE names
abbrev pub tape_begun : List ℕ → Row
tape_begun registers =
    record (pulsed Start (slice_index registers 3) (holds (with_tape_status 0 registers))) { unit = slice_index registers 5 }

abbrev pub tape_cleared : List ℕ → Row
tape_cleared registers = pulsed Clear 0 (holds (with_tape_status 0 registers))

-- S begins what CMD says, and P does nothing
abbrev pub tape_pulsed : Pulse → List ℕ → Row
tape_pulsed Start registers = tape_begun registers
tape_pulsed Clear registers = tape_cleared registers
tape_pulsed other registers = holds registers

-- .. but while the tape is at work S does nothing either
abbrev pub tape_pulsed_at_work : Pulse → List ℕ → Row
tape_pulsed_at_work Clear registers = tape_cleared registers
tape_pulsed_at_work other registers = holds registers

-- at work the tape takes no output
abbrev pub tape_told : IoOp → Pulse → ℕ → List ℕ → Row
tape_told op pulse word registers =
    if slice_index registers 0 == 1 then tape_pulsed_at_work pulse registers else tape_pulsed pulse (tape_output op word registers)

-- the command that CMD says, for the tape at POS of its drive, memory from MA on, and as many words or blocks as WC is
-- below 4096
abbrev pub tape_order : ℕ → List ℕ → TapeOrder
tape_order drive registers = record {
  command = slice_index registers 4;
  place = place_of_drive drive registers;
  address = slice_index registers 6;
  count = 2 ^ 12 - slice_index registers 7;
}

-- CMD 2 is no command: it wants nothing
abbrev pub tape_want : ℕ → List ℕ → Want
tape_want drive registers = if slice_index registers 4 == 2 then Nothing else Tape (tape_order drive registers)

-- MA and WC have moved on by the words, and WC by the blocks too, each past its largest value from 0 on; and the tape of
-- the drive stands where the operation left it
abbrev pub tape_moved : ℕ → TapeGot → List ℕ → List ℕ
tape_moved drive got registers = with_place_of_drive drive got.place (with_tape_status (tape_status got)
    (slice_set (slice_set registers 6 ((slice_index registers 6 + got.words) % 2 ^ 15))
    7 ((slice_index registers 7 + got.words + got.passed) % 2 ^ 12)))

-- An operation that was done, CMD 2, and one for which there is no file or a file that is read only are each done, BUSY
-- cleared and DONE set: the first says in STAT what it came to, and the others that they are illegal, with the drive
-- ready where there is a file.
abbrev pub tape_answered : ℕ → Got → List ℕ → List ℕ
tape_answered drive (gots.Tape got) registers = flagged 0 1 (tape_moved drive got registers)
tape_answered drive gots.Done registers = flagged 0 1 (with_tape_status (tape_error + tape_illegal) registers)
tape_answered drive gots.NoFile registers = flagged 0 1 (with_tape_status (tape_error + tape_illegal) registers)
tape_answered drive gots.ReadOnly registers = flagged 0 1 (with_tape_status (tape_error + tape_illegal + tape_ready) registers)
tape_answered drive got registers = registers

-- why the machine stops where STOP_IOE is 1: the end of the medium, or no file
abbrev pub tape_stop : Got → UnitStop
tape_stop (gots.Tape got) = if is_medium got.end then unit_stop.End else unit_stop.Go
tape_stop gots.NoFile = unit_stop.NoFile
tape_stop got = unit_stop.Go

-- TIME instructions behind S what CMD then says is to be done, for the drive that DRIVE named at S.
abbrev pub tape_row : List ℕ → UnitCall → Row
tape_row registers (Io op pulse word) = record (tape_told op pulse word registers) { word = tape_input op registers }
tape_row registers (Due drive) = record (holds registers) { want = tape_want drive registers }
tape_row registers (Answered drive got) = stopping (tape_stop got) (holds (tape_answered drive got registers))
tape_row registers Reset = holds (reset_registers tape.registers registers)
