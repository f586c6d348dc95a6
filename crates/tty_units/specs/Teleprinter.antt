-- A teleprinter of the program, as the device table has it.
use Rattle.std.specs.Prelude.{ℕ, List, [], ◌∷◌, if◌then◌else◌}
use Rattle.unit_trait.specs.declared.calls.Want.{Want}
use Rattle.unit_trait.specs.Calls.{UnitCall, Row}
use Rattle.unit_trait.specs.Teleprinter.{teleprinter_row}
use Rattle.tty_units.specs.declared.teleprinter.Teleprinter.{Teleprinter}

-- what its registers hold, in order
abbrev pub values : Teleprinter → List ℕ
values t = (if t.busy then 1 else 0) ∷ (if t.done then 1 else 0) ∷ t.time ∷ t.buf ∷ []

-- what it says to a call, by what it wants of the machine for a character
abbrev pub row : (ℕ → Want) → Teleprinter → UnitCall → Row
row print t call = teleprinter_row print (values t) call
