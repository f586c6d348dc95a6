-- The line printer.
use Rattle.std.specs.Prelude.{ℕ, true, List, [], ◌∷◌, codes}
use Rattle.unit_trait.specs.Device.{Device, kept_register, time_register, busy, done, stop_ioe, position}
use Rattle.unit_trait.specs.Calls.{UnitCall, Row}
use Rattle.unit_trait.specs.Writer.{writer_row}

abbrev pub printer : Device
printer = record {
  name = codes "LPT";
  code = 0o17;
  mask_bit = 12;
  units = 1;
  takes_file = true;
  registers = busy ∷ done ∷ stop_ioe ∷ time_register 500 ∷ kept_register (codes "BUF") 0o177 ∷ position ∷ [];
}

-- it keeps seven bits of a word
abbrev pub printer_row : List ℕ → UnitCall → Row
printer_row registers call = writer_row 7 printer.registers registers call
