-- A keyboard of the program, as the device table has it.
use Rattle.std.specs.Prelude.{ℕ, List, [], ◌∷◌, if◌then◌else◌}
use Rattle.unit_trait.specs.declared.calls.Want.{Want}
use Rattle.unit_trait.specs.Calls.{UnitCall, Row}
use Rattle.unit_trait.specs.Keyboard.{keyboard_row}
use Rattle.tty_units.specs.declared.keyboard.Keyboard.{Keyboard}

-- what its registers hold, in order
abbrev pub values : Keyboard → List ℕ
values k = (if k.busy then 1 else 0) ∷ (if k.done then 1 else 0) ∷ k.time ∷ k.buf ∷ []

-- what it says to a call, by what it wants of the machine where its event is due
abbrev pub row : Want → Keyboard → UnitCall → Row
row key k call = keyboard_row key (values k) call
