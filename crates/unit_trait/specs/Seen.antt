-- A register of the program, as the tables have it.
use Rattle.std.specs.Prelude.{ℕ, ◌<◌, ◌≤◌, List, length, Option, Some, None}
use Rattle.unit_trait.specs.declared.device.Register as program
use Rattle.unit_trait.specs.Device.{Register, numbered_name}

-- a text, with a number behind it where there is one
abbrev pub with_number : List ℕ → Option ℕ → List ℕ
with_number text None = text
with_number text (Some number) = numbered_name text number

abbrev pub name_of : program.Register → List ℕ
name_of r = with_number r.text.now r.number

abbrev pub seen : program.Register → Register
seen r = record { name = name_of r; least = r.least; largest = r.largest; initial = r.initial; cleared = r.cleared }

-- a name that a text of eight bytes has room for, with two digits where it has a number
abbrev pub HasRoom : List ℕ → Option ℕ → Type 0
HasRoom text None = length text ≤ 8
HasRoom text (Some number) = (length text ≤ 6) × (number < 100)

abbrev pub HasShortName : program.Register → Type 0
HasShortName r = HasRoom r.text.now r.number
