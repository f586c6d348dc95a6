-- Which devices ask for an interrupt, and which of them an acknowledge names (How to Use the Nova Computers, "Program
-- Interrupt"). The units stand in bus order.
use Rattle.std.specs.Prelude.{ℕ, ◌/◌, ◌%◌, ◌==◌, ◌&&◌, Bool, List, filter, slice_get, slice_index, Option, Some, None, is_some}
use Rattle.unit_trait.specs.Kinds.{code_of, mask_of}
use Rattle.unit_trait.specs.Registers.{done_number}
use Rattle.unit_trait.specs.Calls.{UnitState}

-- a device asks where its DONE is 1 and its bit of the mask word is 0
abbrev pub asks : ℕ → UnitState → Bool
asks mask u = (slice_index u.registers done_number == 1) && (mask / mask_of u.kind % 2 == 0)

-- the units of the devices that ask, in bus order
abbrev pub asking : ℕ → List UnitState → List UnitState
asking mask units = filter (asks mask) units

-- the first of them, which is the nearest to the processor
abbrev pub first_asking : ℕ → List UnitState → Option UnitState
first_asking mask units = slice_get (asking mask units) 0

-- whether a device asks
abbrev pub requested : ℕ → List UnitState → Bool
requested mask units = is_some (first_asking mask units)

abbrev pub code_or_none : Option UnitState → ℕ
code_or_none None = 0
code_or_none (Some u) = code_of u.kind

-- what an acknowledge answers: the code of the first device that asks, or 0
abbrev pub acknowledged : ℕ → List UnitState → ℕ
acknowledged mask units = code_or_none (first_asking mask units)
