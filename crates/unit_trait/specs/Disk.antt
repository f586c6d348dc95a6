-- The fixed-head disk (How to Use the Nova Computers, "Fixed Head Disk"): 8 platters of 128 tracks of 8 sectors of 256
-- words, which are numbered 0 to 17777 (octal) through. Its registers and the bits of its status are this project's own.
use Rattle.std.specs.Prelude.{ℕ, ◌+◌, ◌%◌, ◌^◌, ◌==◌, true, List, [], ◌∷◌, codes, slice_index, slice_set, if◌then◌else◌}
use Rattle.unit_trait.specs.declared.calls.IoOp.{IoOp}
use Rattle.unit_trait.specs.declared.calls.IoOp.TheVariants.{Dia, Doa, Dib, Dob, Dic}
use Rattle.unit_trait.specs.declared.calls.Pulse.{Pulse}
use Rattle.unit_trait.specs.declared.calls.Pulse.TheVariants as pulses
use Rattle.unit_trait.specs.declared.calls.Want.TheVariants.{Sector}
use Rattle.unit_trait.specs.declared.calls.Got.{Got}
use Rattle.unit_trait.specs.declared.calls.Got.TheVariants.{Done, NoFile, ReadOnly}
use Rattle.unit_trait.specs.declared.calls.UnitStop.{UnitStop}
use Rattle.unit_trait.specs.declared.calls.UnitStop.TheVariants as unit_stop
use Rattle.unit_trait.specs.Device.{Device, kept_register, cleared_register, time_register, busy, done, stop_ioe}
use Rattle.unit_trait.specs.Calls.{UnitCall, Io, Due, Answered, Reset, Row, holds}
use Rattle.unit_trait.specs.Usual.{flagged, pulsed, reset_registers}

abbrev pub disk : Device
disk = record {
  name = codes "DSK";
  code = 0o20;
  mask_bit = 9;
  units = 1;
  takes_file = true;
  registers = busy ∷ done ∷ stop_ioe ∷ time_register 200 ∷ kept_register (codes "DA") 0o17777 ∷ kept_register (codes "MA") 0o77777
      ∷ cleared_register (codes "STAT") 0o17 ∷ cleared_register (codes "WRITE") 1 ∷ [];
}

-- how many words a sector has
abbrev pub sector_words : ℕ
sector_words = 0o400

-- the bits of STAT: an error, that no file is attached, and that the file is read only
abbrev pub disk_error : ℕ
disk_error = 0o1

abbrev pub disk_missing : ℕ
disk_missing = 0o4

abbrev pub disk_locked : ℕ
disk_locked = 0o10

abbrev pub with_status : ℕ → List ℕ → List ℕ
with_status stat registers = slice_set registers 6 stat

-- DIA answers STAT, DIB MA, and DIC how many words a sector has
abbrev pub disk_input : IoOp → List ℕ → ℕ
disk_input Dia registers = slice_index registers 6
disk_input Dib registers = slice_index registers 5
disk_input Dic registers = sector_words
disk_input op registers = 0

-- DOA sets DA, which names a sector, to the low 13 bits of the word, and DOB sets MA to the low 15
abbrev pub disk_output : IoOp → ℕ → List ℕ → List ℕ
disk_output Doa word registers = slice_set registers 4 (word % 2 ^ 13)
disk_output Dob word registers = slice_set registers 5 (word % 2 ^ 15)
disk_output op word registers = registers

-- a sector is to be read, or written where WRITE becomes 1: STAT is cleared, and the rest is what S usually does
abbrev pub sector_begun : ℕ → Row → Row
sector_begun write row =
    pulsed pulses.Start (slice_index row.registers 3) (record row { registers = slice_set (with_status 0 row.registers) 7 write })

-- S begins to read, and P to write. C clears STAT too, and leaves WRITE.
abbrev pub disk_pulsed : Pulse → Row → Row
disk_pulsed pulses.None row = row
disk_pulsed pulses.Start row = sector_begun 0 row
disk_pulsed pulses.Clear row = pulsed pulses.Clear 0 (record row { registers = with_status 0 row.registers })
disk_pulsed pulses.Pulse row = sector_begun 1 row

-- MA is the address behind the sector, past 77777 (octal) from 0 on
abbrev pub sector_moved : List ℕ → List ℕ
sector_moved registers = slice_set registers 5 ((slice_index registers 5 + sector_words) % 2 ^ 15)

-- A sector that was moved, one for which there is no file, and one that would be written to a file that is read only
-- are each done, BUSY cleared and DONE set: the first moves MA on, and the other two leave it and say in STAT why.
abbrev pub disk_answered : Got → List ℕ → List ℕ
disk_answered Done registers = flagged 0 1 (sector_moved registers)
disk_answered NoFile registers = flagged 0 1 (with_status (disk_missing + disk_error) registers)
disk_answered ReadOnly registers = flagged 0 1 (with_status (disk_locked + disk_error) registers)
disk_answered got registers = registers

-- the machine stops only where there is no file, and STOP_IOE is 1
abbrev pub disk_stop : Got → List ℕ → UnitStop
disk_stop NoFile registers = if slice_index registers 2 == 1 then unit_stop.NoFile else unit_stop.Go
disk_stop got registers = unit_stop.Go

-- TIME instructions behind S or P the sector that DA then names is to be moved, between its file and memory from the
-- address on that MA then holds; from memory to the file where WRITE is then 1.
abbrev pub disk_row : List ℕ → UnitCall → Row
disk_row registers (Io op pulse word) =
    disk_pulsed pulse (record (holds (disk_output op word registers)) { word = disk_input op registers })
disk_row registers (Due unit) =
    record (holds registers) { want = Sector (slice_index registers 7 == 1) (slice_index registers 4) (slice_index registers 5) }
disk_row registers (Answered unit got) = record (holds (disk_answered got registers)) { stop = disk_stop got registers }
disk_row registers Reset = holds (reset_registers disk.registers registers)
