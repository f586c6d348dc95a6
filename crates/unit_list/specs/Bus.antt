-- The units of a machine, in bus order. A unit is found by the code of its kind (How to Use the Nova Computers,
-- "Input-Output Instructions").
use Rattle.std.specs.Prelude.{ℕ, ◌<◌, ◌==◌, ◌&&◌, Bool, IsTrue, List, [], ◌∷◌, slice_get, slice_index, slice_set, map, Option, Some, None, is_some, IfSome, option_and_then, if◌then◌else◌}
use Rattle.std.specs.List.{AllByRecursion}
use Rattle.unit_trait.specs.declared.kind.Kind.{Kind}
use Rattle.unit_trait.specs.declared.calls.Want.{Want}
use Rattle.unit_trait.specs.declared.calls.Want.TheVariants.{ReadByte, WriteByte}
use Rattle.unit_trait.specs.declared.calls.Got.{Got}
use Rattle.unit_trait.specs.Device.{position}
use Rattle.unit_trait.specs.Kinds.{code_of}
use Rattle.unit_trait.specs.Registers.{busy_number, done_number, register_at}
use Rattle.unit_trait.specs.Calls.{UnitState, UnitCall, Row, holds}
use Rattle.unit_trait.specs.Row.{row, moved, Fits, takes_value, goes_by_bytes, moves_on, CanMoveOn, IsOnTape}
use Rattle.unit_list.specs.declared.bus.Flags.{Flags}

-- the unit with that code, if one is there: the first one, where there are several
abbrev pub unit_at : ℕ → List UnitState → Option UnitState
unit_at code [] = None
unit_at code (u ∷ us) = if code_of u.kind == code then Some u else unit_at code us

-- the units, where that one has become something else
abbrev pub changed_at : ℕ → (UnitState → UnitState) → List UnitState → List UnitState
changed_at code change [] = []
changed_at code change (u ∷ us) = if code_of u.kind == code then change u ∷ us else u ∷ changed_at code change us

-- what a unit says to a call; one that is not there says nothing
abbrev pub row_or_nothing : UnitCall → Option UnitState → Row
row_or_nothing call None = holds []
row_or_nothing call (Some u) = row u call

-- what the unit with that code says to a call
abbrev pub row_at : ℕ → UnitCall → List UnitState → Row
row_at code call units = row_or_nothing call (unit_at code units)

-- the units behind a call of the one with that code
abbrev pub after_at : ℕ → UnitCall → List UnitState → List UnitState
after_at code call units = changed_at code (λ u. moved u call) units

-- the unit of that kind, where one is there, gets no answer that would move it past the largest value of POS
pub record TakesAnswerIn (kind : Kind) (got : Got) (units : List UnitState) : Type 0 where
  pub room : IsTrue (goes_by_bytes kind) → IsTrue (moves_on got) → IfSome (unit_at (code_of kind) units) (λ u. CanMoveOn u.registers)
  pub tape : IsOnTape got

-- a byte that was read or written is one below the largest place
abbrev pub IsByteBelowEnd : Want → Got → Type 0
IsByteBelowEnd (ReadByte place) got = IsTrue (moves_on got) → place < position.largest
IsByteBelowEnd (WriteByte place byte) got = IsTrue (moves_on got) → place < position.largest
IsByteBelowEnd want got = Unit {0}

-- .. and a tape stands at most at the largest place
abbrev pub IsBelowEnd : Want → Got → Type 0
IsBelowEnd want got = IsByteBelowEnd want got × IsOnTape got

-- BUSY and DONE of a unit
abbrev pub flags_of : UnitState → Flags
flags_of u = record { busy = slice_index u.registers busy_number == 1; done = slice_index u.registers done_number == 1 }

-- what a register holds, by its number from 0, where there is such a unit and such a register
abbrev pub register_in : Kind → ℕ → List UnitState → Option ℕ
register_in kind i units = option_and_then (λ u. slice_get u.registers i) (unit_at (code_of kind) units)

-- whether there is such a unit, and its register takes a value
abbrev pub takes_value_in : Kind → ℕ → ℕ → List UnitState → Bool
takes_value_in kind i value units = is_some (unit_at (code_of kind) units) && takes_value (register_at kind i) value

-- a unit whose register holds a value
abbrev pub with_register : ℕ → ℕ → UnitState → UnitState
with_register i value u = record u { registers = slice_set u.registers i value }

-- the units, where a register of one holds a value
abbrev pub with_register_in : Kind → ℕ → ℕ → List UnitState → List UnitState
with_register_in kind i value units = changed_at (code_of kind) (with_register i value) units

-- the kinds of the units, in order
abbrev pub kinds_of : List UnitState → List Kind
kinds_of units = map (λ u. u.kind) units

-- each register of each unit holds a value from its least to its largest
abbrev pub AllFit : List UnitState → Type 0
AllFit units = AllByRecursion Fits units
