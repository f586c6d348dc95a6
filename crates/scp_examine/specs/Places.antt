-- The places that an item of a list names: words of memory, and registers of the processor and of devices.
use Rattle.std.specs.Prelude.{ℕ, ◌+◌, ◌-◌, ◌^◌, zero, suc, Bool, true, false, not, nat_eq, nat_lt, nat_le, bit_and, List, [], ◌∷◌, ◌++◌, length, slice_get, Option, Some, None, unwrap_or, option_to_list}
use Rattle.nova_word.specs.Numbers.{octal_digits, octal_width}
use Rattle.nova_memory.specs.Memory.{get}
use Rattle.nova_symbols.specs.Canon.{canon}
use Rattle.unit_trait.specs.declared.kind.Kind.{Kind}
use Rattle.unit_trait.specs.declared.processor.CpuReg.{CpuReg}
use Rattle.unit_trait.specs.Registers.{Register as DeviceRegister, registers, register_at, name_at}
use Rattle.unit_trait.specs.Processor.{all_registers, register_name, largest_of, digits_of}
use Rattle.unit_list.specs.Bus.{register_in}
use Rattle.nova_machine.specs.Machine.{MachineState}
use Rattle.nova_machine.specs.Registers.{register_of}
use Rattle.operand_forms.specs.declared.listing.Name.{Name}
use Rattle.operand_forms.specs.declared.listing.Name.TheVariants as whose
use Rattle.operand_forms.specs.declared.listing.Rel.{Rel}
use Rattle.operand_forms.specs.declared.listing.Rel.TheVariants.{Eq, Ne, Lt, Le, Gt, Ge}
use Rattle.operand_forms.specs.declared.listing.Condition.{Condition}
use Rattle.operand_forms.specs.declared.listing.Item.{Item}
use Rattle.operand_forms.specs.declared.listing.Item.TheVariants.{At, Range, Count, All, Reg, State, Unknown}
use Rattle.scp_examine.specs.Shape.{Shape}

-- a word of memory, a register of the processor, or a register of a device, by its number from 0
pub data Place : Type 0 where
  Cell : ℕ → Place
  Register : CpuReg → Place
  UnitRegister : Kind → ℕ → Place

-- so many places one behind another, from that number on
unfoldable pub numbered : (ℕ → Place) → ℕ → ℕ → List Place
numbered place from zero = []
numbered place from (suc count) = place from ∷ numbered place (from + 1) count

-- so many words from an address
abbrev pub cells : ℕ → ℕ → List Place
cells from count = numbered Cell from count

abbrev pub registers_of : List CpuReg → List Place
registers_of [] = []
registers_of (r ∷ more) = Register r ∷ registers_of more

-- the first registers of a device, so many
abbrev pub unit_registers : Kind → ℕ → List Place
unit_registers kind count = numbered (UnitRegister kind) 0 count

-- the registers of the processor or of a device, in order
abbrev pub all_of : Name → List Place
all_of whose.Cpu = registers_of all_registers
all_of (whose.Device kind) = unit_registers kind (length (registers kind))

-- the register with that number in their order
unfoldable pub named_register : Name → ℕ → Option Place
named_register device i = slice_get (all_of device) i

-- the places of an item, in order
unfoldable pub places_of : Shape → Name → Item → List Place
places_of shape device (At a) = cells a 1
places_of shape device (Range a b) = cells a (b + 1 - a)
places_of shape device (Count a n) = cells a n
places_of shape device All = cells 0 shape.size
places_of shape device (Reg i) = option_to_list (named_register device i)
places_of shape device State = all_of device
places_of shape device Unknown = []

-- a word as it is printed: as symbolic text, or in octal
abbrev pub word_text : Bool → ℕ → List ℕ
word_text true w = canon w
word_text false w = octal_digits 6 w

-- a name, a colon, a tab, a value and a newline
abbrev pub line_of : List ℕ → List ℕ → List ℕ
line_of name value = name ++ 58 ∷ 9 ∷ [] ++ value ++ 10 ∷ []

-- what a place is called in front of its value: an address in octal, or the name of a register
abbrev pub place_name : Place → List ℕ
place_name (Cell a) = octal_digits 5 a
place_name (Register r) = register_name r
place_name (UnitRegister kind i) = name_at kind i

-- the largest value of a register of a device; one that is not there holds 0 alone
abbrev pub largest_or_0 : Option DeviceRegister → ℕ
largest_or_0 None = 0
largest_or_0 (Some r) = r.largest

-- what a place holds
abbrev pub value_at : MachineState → Place → ℕ
value_at m (Cell a) = get m.processor.memory a
value_at m (Register r) = register_of m r
value_at m (UnitRegister kind i) = unwrap_or (register_in kind i m.units) 0

-- what a place holds as it is printed: a register has as many octal digits as its largest value
abbrev pub value_text : Bool → Place → ℕ → List ℕ
value_text symbolic (Cell a) v = word_text symbolic v
value_text symbolic (Register r) v = octal_digits (digits_of r) v
value_text symbolic (UnitRegister kind i) v = octal_digits (octal_width (largest_or_0 (register_at kind i))) v

-- what EXAMINE prints of a place
unfoldable pub place_text : MachineState → Bool → Place → List ℕ
place_text m symbolic place = line_of (place_name place) (value_text symbolic place (value_at m place))

-- a comparison of two numbers
abbrev pub compares : Rel → ℕ → ℕ → Bool
compares Eq a b = nat_eq a b
compares Ne a b = not (nat_eq a b)
compares Lt a b = nat_lt a b
compares Le a b = nat_le a b
compares Gt a b = nat_lt b a
compares Ge a b = nat_le b a

abbrev pub masked : Option ℕ → ℕ → ℕ
masked None v = v
masked (Some mask) v = bit_and v mask

-- whether a value meets a condition: the mask is applied to it first
abbrev pub meets : Condition → ℕ → Bool
meets c v = compares c.rel (masked c.mask v) c.value

abbrev pub chosen_word : Option Condition → ℕ → Bool
chosen_word None w = true
chosen_word (Some c) w = meets c w

-- whether EXAMINE shows a place: a condition chooses among words of memory, and leaves registers
abbrev pub is_chosen : MachineState → Option Condition → Place → Bool
is_chosen m condition (Cell a) = chosen_word condition (get m.processor.memory a)
is_chosen m condition place = true

-- the largest value of a place
abbrev pub largest_at : Place → ℕ
largest_at (Cell a) = 2 ^ 16 - 1
largest_at (Register r) = largest_of r
largest_at (UnitRegister kind i) = largest_or_0 (register_at kind i)
