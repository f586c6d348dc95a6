-- Units of which all registers are read, or set, at once.
use Rattle.std.specs.Prelude.{◌≡◌, ◌==◌, ℕ, Bool, List, [], ◌∷◌, map, Option, Some, None}
use Rattle.std.specs.List.{IsDistinct}
use Rattle.unit_trait.specs.declared.kind.Kind.{Kind}
use Rattle.unit_trait.specs.Kinds.{code_of}
use Rattle.unit_trait.specs.Calls.{UnitState}
use Rattle.unit_list.specs.Bus.{unit_at, changed_at, kinds_of}

-- what the registers of a unit hold; nothing where none is there
abbrev pub registers_or_none : Option UnitState → List ℕ
registers_or_none None = []
registers_or_none (Some u) = u.registers

-- .. of the unit of that kind
abbrev pub registers_in : Kind → List UnitState → List ℕ
registers_in kind units = registers_or_none (unit_at (code_of kind) units)

-- a unit whose registers hold these values
abbrev pub with_registers : List ℕ → UnitState → UnitState
with_registers values u = record u { registers = values }

-- the units, where the registers of the one of that kind hold these values
abbrev pub with_registers_in : Kind → List ℕ → List UnitState → List UnitState
with_registers_in kind values units = changed_at (code_of kind) (with_registers values) units

-- the unit of a kind, as its registers are read
abbrev pub unit_read : List UnitState → Kind → UnitState
unit_read units kind = record { kind = kind; registers = registers_in kind units }

-- the registers of one unit after another are set to those of these
abbrev pub units_set : List UnitState → List UnitState → List UnitState
units_set units [] = units
units_set units (v ∷ others) = units_set (with_registers_in v.kind v.registers units) others

abbrev pub same_kind : Kind → Kind → Bool
same_kind a b = code_of a == code_of b

-- Of units of which no two are of one kind: those whose registers are read, kind by kind, are they themselves; and where the
-- registers of each are set, they are the units that were wanted.
pub record UnitsAreWhole : Type 0 where
  pub read : (units : List UnitState) → IsDistinct same_kind (kinds_of units) → map (unit_read units) (kinds_of units) ≡ units
  pub set : (units wanted : List UnitState) → IsDistinct same_kind (kinds_of units) → kinds_of wanted ≡ kinds_of units → units_set units wanted ≡ wanted
