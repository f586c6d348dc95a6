-- The faults of lists, values and conditions. Items are checked from the left before anything is printed or changed.
use Rattle.std.specs.Prelude.{ℕ, ◌+◌, ◌^◌, ◌-◌, Bool, true, ◌&&◌, nat_le, nat_lt, List, [], ◌∷◌, Option, Some, None, is_some, if◌then◌else◌}
use Rattle.unit_trait.specs.declared.processor.CpuReg.TheVariants.{Size}
use Rattle.unit_trait.specs.Processor.{largest_of}
use Rattle.unit_trait.specs.Registers.{register_at}
use Rattle.unit_trait.specs.Row.{takes_value}
use Rattle.operand_forms.specs.declared.listing.Name.{Name}
use Rattle.operand_forms.specs.declared.listing.Name.TheVariants as whose
use Rattle.operand_forms.specs.declared.listing.Condition.{Condition}
use Rattle.operand_forms.specs.declared.listing.Item.{Item}
use Rattle.operand_forms.specs.declared.listing.Item.TheVariants.{At, Range, Count, All, Reg, State, Unknown}
use Rattle.scp_examine.specs.declared.fault.ExamineFault.{ExamineFault}
use Rattle.scp_examine.specs.declared.fault.ExamineFault.TheVariants.{NoSuchName, OutOfRange, ReadOnlyName}
use Rattle.scp_examine.specs.Shape.{Shape, has_named}
use Rattle.scp_examine.specs.Places.{Place, Cell, Register, UnitRegister, named_register, places_of}

-- the first of two faults
abbrev pub or_fault : Option ExamineFault → Option ExamineFault → Option ExamineFault
or_fault (Some fault) other = Some fault
or_fault None other = other

abbrev pub out_of_range_unless : Bool → Option ExamineFault
out_of_range_unless fits = if fits then None else Some OutOfRange

-- addresses and ALL name memory, which belongs to no device
abbrev pub memory_fault : Name → Bool → Option ExamineFault
memory_fault whose.Cpu fits = out_of_range_unless fits
memory_fault (whose.Device kind) fits = Some NoSuchName

-- a name that is there has no fault
abbrev pub no_such_name_unless : Bool → Option ExamineFault
no_such_name_unless there = if there then None else Some NoSuchName

-- The fault of an item by what it names: an address that is not below the size, a range that is empty or ends behind
-- the last word, or a name that is not there, as every name of a device is that the machine does not have.
unfoldable pub item_fault : Shape → Name → Item → Option ExamineFault
item_fault shape device (At a) = memory_fault device (nat_lt a shape.size)
item_fault shape device (Range a b) = memory_fault device (nat_le a b && nat_lt b shape.size)
item_fault shape device (Count a n) = memory_fault device (nat_lt 0 n && nat_le (a + n) shape.size)
item_fault shape device All = memory_fault device true
item_fault shape device (Reg i) = no_such_name_unless (has_named shape device && is_some (named_register device i))
item_fault shape device State = no_such_name_unless (has_named shape device)
item_fault shape device Unknown = Some NoSuchName

-- the first fault of a list of items
unfoldable pub items_fault : (Item → Option ExamineFault) → List Item → Option ExamineFault
items_fault fault_of [] = None
items_fault fault_of (item ∷ more) = or_fault (fault_of item) (items_fault fault_of more)

abbrev pub largest_word : ℕ
largest_word = 2 ^ 16 - 1

abbrev pub mask_fits : ℕ → Option ℕ → Bool
mask_fits largest None = true
mask_fits largest (Some mask) = nat_le mask largest

-- the mask and the value of a condition are at most the largest value of what they are compared with
abbrev pub condition_fits : ℕ → Condition → Bool
condition_fits largest c = mask_fits largest c.mask && nat_le c.value largest

abbrev pub condition_fault : Option Condition → Option ExamineFault
condition_fault None = None
condition_fault (Some c) = out_of_range_unless (condition_fits largest_word c)

-- the fault of a value for a place: a register that is read only takes none, and no place one above its largest or
-- below its least, which is 0 but for some registers of devices
abbrev pub value_fault : ℕ → Place → Option ExamineFault
value_fault value (Cell a) = out_of_range_unless (nat_le value largest_word)
value_fault value (Register Size) = Some ReadOnlyName
value_fault value (Register r) = out_of_range_unless (nat_le value (largest_of r))
value_fault value (UnitRegister kind i) = out_of_range_unless (takes_value (register_at kind i) value)

-- the first fault of a value for the places of an item
unfoldable pub values_fault : ℕ → List Place → Option ExamineFault
values_fault value [] = None
values_fault value (place ∷ more) = or_fault (value_fault value place) (values_fault value more)

-- the fault of an item of a DEPOSIT: of what it names, and then of the value
unfoldable pub deposit_fault : Shape → Name → ℕ → Item → Option ExamineFault
deposit_fault shape device value item = or_fault (item_fault shape device item) (values_fault value (places_of shape device item))
