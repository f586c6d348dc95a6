-- What EXAMINE, DEPOSIT and ASSERT do (SIMH Users' Guide, "Examining and Changing State").
use Rattle.std.specs.Prelude.{◌≡◌, ℕ, Bool, List, [], ◌∷◌, ◌++◌, Option, Some, None, Result, Ok, Err, if◌then◌else◌}
use Rattle.nova_memory.specs.Memory.{put}
use Rattle.fault_counts.specs.Faults.{raised}
use Rattle.file_traits.specs.Streams.{AddsPart}
use Rattle.unit_list.specs.Bus.{with_register_in}
use Rattle.nova_machine.specs.Machine.{MachineState}
use Rattle.nova_machine.specs.Registers.{with_register}
use Rattle.operand_forms.specs.declared.listing.Name.{Name}
use Rattle.operand_forms.specs.declared.listing.Condition.{Condition}
use Rattle.operand_forms.specs.declared.listing.Item.{Item}
use Rattle.operand_forms.specs.declared.listing.Listing.{Listing}
use Rattle.operand_forms.specs.declared.listing.Test.{Test}
use Rattle.scp_examine.specs.declared.fault.ExamineFault.{ExamineFault}
use Rattle.scp_examine.specs.declared.fault.ExamineFault.TheVariants.{NoSuchName, OutOfRange, ReadOnlyName, Console}
use Rattle.scp_examine.specs.Shape.{Shape, shape_of}
use Rattle.scp_examine.specs.Places.{Place, Cell, Register, UnitRegister, places_of, place_text, value_at, is_chosen, meets, largest_at}
use Rattle.scp_examine.specs.Checks.{or_fault, item_fault, items_fault, condition_fault, condition_fits, deposit_fault}

-- the places of a list of items, in order
unfoldable pub all_places : Shape → Name → List Item → List Place
all_places shape device [] = []
all_places shape device (item ∷ more) = places_of shape device item ++ all_places shape device more

-- what EXAMINE prints of places: each that is chosen, in order
unfoldable pub listed : MachineState → Bool → Option Condition → List Place → List ℕ
listed m symbolic condition [] = []
listed m symbolic condition (place ∷ more) = (if is_chosen m condition place then place_text m symbolic place else []) ++ listed m symbolic condition more

-- the fault of an EXAMINE: of its condition, and then of its items from the left
unfoldable pub examine_fault : MachineState → Listing → Option ExamineFault
examine_fault m l = or_fault (condition_fault l.condition) (items_fault (item_fault (shape_of m) l.device) l.items)

-- what an EXAMINE without a fault prints
unfoldable pub examined : MachineState → Listing → List ℕ
examined m l = listed m l.symbolic l.condition (all_places (shape_of m) l.device l.items)

-- A call of `examine`: it prints the whole text; or a byte of it was refused, and what comes before was printed; or a
-- fault stood before all printing.
abbrev pub Examines : {T : Type 0} → MachineState → Listing → Result T ExamineFault → List ℕ → List ℕ → Type 0
Examines m l (Ok _) before after = (examine_fault m l ≡ None) × (after ≡ before ++ examined m l)
Examines m l (Err Console) before after = (examine_fault m l ≡ None) × AddsPart before (examined m l) after
Examines m l (Err NoSuchName) before after = (examine_fault m l ≡ Some NoSuchName) × (after ≡ before)
Examines m l (Err OutOfRange) before after = (examine_fault m l ≡ Some OutOfRange) × (after ≡ before)
Examines m l (Err ReadOnlyName) before after = ⊥

-- The faults of an EXAMINE, where the first one by the rules is given: that one is answered, or where there is none,
-- that the console refused a byte.
abbrev pub FaultIs : {T : Type 0} → Option ExamineFault → Result T ExamineFault → Type 0
FaultIs first (Ok _) = first ≡ None
FaultIs first (Err Console) = first ≡ None
FaultIs first (Err NoSuchName) = first ≡ Some NoSuchName
FaultIs first (Err OutOfRange) = first ≡ Some OutOfRange
FaultIs first (Err ReadOnlyName) = ⊥

-- The console counts one fault where the answer is that a byte was refused, and none with every other answer.
abbrev pub ConsoleCause : {T : Type 0} → ℕ → ℕ → Result T ExamineFault → Type 0
ConsoleCause before now (Err Console) = now ≡ raised before
ConsoleCause before now result = now ≡ before

-- the machine with a value in a place
abbrev pub with_value : ℕ → MachineState → Place → MachineState
with_value value m (Cell a) = record m { processor = record m.processor { memory = put m.processor.memory a value } }
with_value value m (Register r) = with_register m r value
with_value value m (UnitRegister kind i) = record m { units = with_register_in kind i value m.units }

-- the machine with a value in each of the places
unfoldable pub filled : ℕ → MachineState → List Place → MachineState
filled value m [] = m
filled value m (place ∷ more) = filled value (with_value value m place) more

-- the fault of a DEPOSIT: of its items from the left
unfoldable pub fault_of_deposit : MachineState → Listing → ℕ → Option ExamineFault
fault_of_deposit m l value = items_fault (deposit_fault (shape_of m) l.device value) l.items

-- the machine after a DEPOSIT without a fault
unfoldable pub deposited : MachineState → Listing → ℕ → MachineState
deposited m l value = filled value m (all_places (shape_of m) l.device l.items)

-- a value compared by a condition, whose numbers are at most the largest value of the place that holds it
abbrev pub compared : ℕ → ℕ → Condition → Result Bool ExamineFault
compared value largest c = if condition_fits largest c then Ok (meets c value) else Err OutOfRange

-- a test of the one place of its item
abbrev pub test_of : MachineState → Condition → List Place → Result Bool ExamineFault
test_of m c [] = Err NoSuchName
test_of m c (place ∷ more) = compared (value_at m place) (largest_at place) c

abbrev pub test_after : Option ExamineFault → MachineState → Test → Result Bool ExamineFault
test_after (Some fault) m t = Err fault
test_after None m t = test_of m t.condition (places_of (shape_of m) t.device t.item)

-- What ASSERT tests: its item is checked first, and then its condition, up to the largest value of the item. A value
-- below the least one of a register is no fault.
unfoldable pub tested : MachineState → Test → Result Bool ExamineFault
tested m t = test_after (item_fault (shape_of m) t.device t.item) m t
