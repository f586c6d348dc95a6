-- What an item without a fault names: words of memory one behind another, or one or all registers of the processor or
-- of a device.
use Rattle.std.specs.Prelude.{◌≡◌, ℕ, ◌+◌, ◌≤◌, true, List, [], ◌∷◌, length}
use Rattle.scp_examine.specs.declared.item.Named.{Named}
use Rattle.scp_examine.specs.declared.item.Named.TheVariants as named
use Rattle.unit_trait.specs.Registers.{registers}
use Rattle.unit_trait.specs.Processor.{all_registers}
use Rattle.scp_examine.specs.Shape.{Shape, has_kind}
use Rattle.scp_examine.specs.Places.{Place, Register, UnitRegister, cells, registers_of, unit_registers}

-- the places that are named, in order
abbrev pub places_in : Named → List Place
places_in (named.Words from count) = cells from count
places_in (named.Register r) = Register r ∷ []
places_in named.State = registers_of all_registers
places_in (named.UnitRegister kind i) = UnitRegister kind i ∷ []
places_in (named.UnitRegisters kind) = unit_registers kind (length (registers kind))

-- the words that are named are below a size
abbrev pub IsWithin : ℕ → Named → Type 0
IsWithin size (named.Words from count) = from + count ≤ size
IsWithin size other = Unit {0}

-- the device whose registers are named is there
abbrev pub IsThere : Shape → Named → Type 0
IsThere shape (named.UnitRegister kind i) = has_kind kind shape.kinds ≡ true
IsThere shape (named.UnitRegisters kind) = has_kind kind shape.kinds ≡ true
IsThere shape other = Unit {0}
