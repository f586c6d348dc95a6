-- The registers of each kind of unit, by their numbers.
use Rattle.std.specs.Prelude.{ℕ, ◌+◌, List, [], Option, Some, None, slice_get}
use Rattle.unit_trait.specs.declared.kind.Kind.{Kind}
pub use Rattle.unit_trait.specs.Device.{Register}
use Rattle.unit_trait.specs.Kinds.{device_of}

abbrev pub registers : Kind → List Register
registers kind = (device_of kind).registers

-- register number i of a kind, counted from 0
abbrev pub register_at : Kind → ℕ → Option Register
register_at kind i = slice_get (registers kind) i

abbrev pub name_or_none : Option Register → List ℕ
name_or_none None = []
name_or_none (Some r) = r.name

-- the name of a register, which is empty past the last one
abbrev pub name_at : Kind → ℕ → List ℕ
name_at kind i = name_or_none (register_at kind i)

-- The registers that others than their device look at. BUSY and DONE are the first two of every device; POS, of a unit that
-- goes through its file from place to place, says where it is in that, and a tape has one for each drive.
abbrev pub busy_number : ℕ
busy_number = 0

abbrev pub done_number : ℕ
done_number = 1

abbrev pub pos_number : ℕ
pos_number = 5

abbrev pub drive_pos_number : ℕ → ℕ
drive_pos_number drive = 9 + drive
