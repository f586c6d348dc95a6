-- The paper tape punch.
use Rattle.std.specs.Prelude.{ℕ, true, List, [], ◌∷◌, codes}
use Rattle.unit_trait.specs.Device.{Device, kept_register, time_register, busy, done, stop_ioe, position}
use Rattle.unit_trait.specs.Calls.{UnitCall, Row}
use Rattle.unit_trait.specs.Writer.{writer_row}

abbrev pub punch : Device
punch = record {
  name = codes "PTP";
  code = 0o13;
  mask_bit = 13;
  units = 1;
  takes_file = true;
  registers = busy ∷ done ∷ stop_ioe ∷ time_register 200 ∷ kept_register (codes "BUF") 0o377 ∷ position ∷ [];
}

-- it keeps eight bits of a word
abbrev pub punch_row : List ℕ → UnitCall → Row
punch_row registers call = writer_row 8 punch.registers registers call
