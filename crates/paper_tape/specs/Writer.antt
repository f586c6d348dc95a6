-- A unit of the program that writes to a file byte by byte, as the device table has it.
use Rattle.std.specs.Prelude.{ℕ, List, [], ◌∷◌, codes, if◌then◌else◌}
use Rattle.unit_trait.specs.Device.{Register, kept_register, time_register, busy, done, stop_ioe, position}
use Rattle.unit_trait.specs.Calls.{UnitCall, Row}
use Rattle.unit_trait.specs.Writer.{writer_row}
use Rattle.paper_tape.specs.declared.writer.Writer.{Writer}

-- its registers, by what TIME holds at first and by the largest value of BUF
abbrev pub table : ℕ → ℕ → List Register
table time largest = busy ∷ done ∷ stop_ioe ∷ time_register time ∷ kept_register (codes "BUF") largest ∷ position ∷ []

-- what they hold, in order
abbrev pub values : {time largest : ℕ} → Writer time largest → List ℕ
values w =
    (if w.busy then 1 else 0) ∷ (if w.done then 1 else 0) ∷ (if w.stop_ioe then 1 else 0) ∷ w.time ∷ w.buf ∷ w.pos ∷ []

-- what it says to a call, by how many bits of a word it keeps
abbrev pub row : {time largest : ℕ} → ℕ → Writer time largest → UnitCall → Row
row {time = time} {largest = largest} bits w call = writer_row bits (table time largest) (values w) call
