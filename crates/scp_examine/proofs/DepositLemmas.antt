-- A DEPOSIT without a fault puts its value into the listed places, and changes no other.
use Rattle.std.proofs.Common.{◌≡◌, ◌⊎◌, inl, inr, ℕ, ◌+◌, ◌-◌, ◌^◌, ◌<◌, ◌≤◌, zero, suc, Bool, true, false, ◌&&◌, nat_le, nat_lt, List, [], ◌∷◌, ◌++◌, length, slice_get, Contains, Option, Some, None, is_some, unwrap_or, option_map, option_to_list, refl, sym, ap, subst, ◌∙◌, lt_of_lt_of_le, arith}
use Rattle.std.proofs.lemmas.Option.{slice_get_within}
use Rattle.std.proofs.lemmas.Bool.{cases_eq, and_parts, leb-true, ltb-true}
use Rattle.nova_memory.specs.Memory.{MemoryState, IsMemory, get, put}
use Rattle.nova_memory.proofs.Keeps.{get-put-other, put-memory}
use Rattle.unit_trait.specs.declared.kind.Kind.{Kind}
use Rattle.unit_trait.specs.declared.processor.CpuReg.{CpuReg}
use Rattle.unit_trait.specs.Device as table
use Rattle.unit_trait.specs.Kinds.{code_of}
use Rattle.unit_trait.specs.Processor.{all_registers}
use Rattle.unit_trait.specs.Registers.{registers, register_at}
use Rattle.unit_trait.specs.Calls.{UnitState}
use Rattle.unit_trait.specs.Row.{takes_value}
use Rattle.unit_trait.proofs.Codes.{same-code}
use Rattle.unit_list.specs.Bus.{register_in, with_register_in, AllFit}
use Rattle.nova_machine.specs.Machine.{MachineState}
use Rattle.operand_forms.specs.declared.listing.Name.{Name}
use Rattle.operand_forms.specs.declared.listing.Name.TheVariants as whose
use Rattle.operand_forms.specs.declared.listing.Item.{Item}
use Rattle.operand_forms.specs.declared.listing.Item.TheVariants as item
use Rattle.scp_examine.specs.Shape.{Shape, shape_of, has_kind, has_named}
use Rattle.scp_examine.specs.Places.{Place, Cell, Register, UnitRegister, cells, numbered, registers_of, named_register, all_of, places_of, value_at}
use Rattle.scp_examine.specs.Checks.{out_of_range_unless, no_such_name_unless, memory_fault, item_fault, items_fault, largest_word, value_fault, values_fault, deposit_fault}
use Rattle.scp_examine.specs.Effect.{with_value, filled, all_places, fault_of_deposit, deposited}
use Rattle.scp_examine.specs.Laws.{IsMachine, IsPlace, PutsInto, DepositPuts}
use Rattle.scp_examine.proofs.UnitLemmas.{named-processor, named-unit, listed-has_kind, all_fit-set, register_in-other}
use Rattle.scp_examine.proofs.KeepLemmas.{size-put, register_keeps, register_of-memory, register_of-units, with_value-shape}
use Rattle.scp_examine.proofs.ShowLemmas.{first_none, second_none}
use Rattle.scp_examine.proofs.FillLemmas.{fits_from_none, named_fits, value_fits}
use Rattle.scp_examine.proofs.LawLemmas.{reads_back}
use Rattle.scp_examine.proofs.RegisterLemmas.{same_register, register_of-other}

-- A value is put into one place.

-- a place, and a value that it takes
pub record Takes (shape : Shape) (value : ℕ) (place : Place) : Type 0 where
  pub within : (m : MachineState) → shape_of m ≡ shape → IsPlace m place
  pub fits : value_fault value place ≡ None

cell-injective : {a b : ℕ} → Cell a ≡ Cell b → a ≡ b
cell-injective e = cc

register-injective : {r q : CpuReg} → Register r ≡ Register q → r ≡ q
register-injective e = cc

unit_register-injective : {k l : Kind} {i j : ℕ} → UnitRegister k i ≡ UnitRegister l j → (k ≡ l) × (i ≡ j)
unit_register-injective e = (cc, cc)

same_unit_register : (k l : Kind) (i j : ℕ) → (UnitRegister k i ≡ UnitRegister l j) ⊎ (UnitRegister k i ≡ UnitRegister l j → ⊥)
same_unit_register k l i j = elim (cases_eq (code_of k) (code_of l)) [
  | inl same ↦ elim (cases_eq i j) [
    | inl number ↦ inl (ap (λ (kind : Kind). UnitRegister kind i) (same-code k l same) ∙ ap (λ (n : ℕ). UnitRegister l n) number)
    | inr apart ↦ inr (λ e. apart (unit_register-injective e).1)
  ]
  | inr apart ↦ inr (λ e. apart (ap code_of (unit_register-injective e).0))
]

same_place : (p q : Place) → (p ≡ q) ⊎ (p ≡ q → ⊥)
same_place (Cell a) (Cell b) = elim (cases_eq a b) [ inl same ↦ inl (ap (λ (n : ℕ). Cell n) same) | inr apart ↦ inr (λ e. apart (cell-injective e)) ]
same_place (Cell a) (Register q) = inr (λ e. cc)
same_place (Cell a) (UnitRegister l j) = inr (λ e. cc)
same_place (Register r) (Cell b) = inr (λ e. cc)
same_place (Register r) (Register q) = elim (same_register r q) [ inl same ↦ inl (ap (λ (n : CpuReg). Register n) same) | inr apart ↦ inr (λ e. apart (register-injective e)) ]
same_place (Register r) (UnitRegister l j) = inr (λ e. cc)
same_place (UnitRegister k i) (Cell b) = inr (λ e. cc)
same_place (UnitRegister k i) (Register q) = inr (λ e. cc)
same_place (UnitRegister k i) (UnitRegister l j) = same_unit_register k l i j

-- what is left by it
pub record PutsOne (place : Place) (value : ℕ) (before after : MachineState) : Type 0 where
  pub holds : value_at after place ≡ value
  pub others : (other : Place) → (other ≡ place → ⊥) → value_at after other ≡ value_at before other
  pub shape : shape_of after ≡ shape_of before
  pub time : after.time ≡ before.time
  pub events : after.events ≡ before.events
  pub machine : IsMachine after

pub word_value : (v : ℕ) → out_of_range_unless (nat_le v largest_word) ≡ None → v < 2 ^ 16
word_value v none =
    let h : v ≤ 65535 = leb-true v 65535 (fits_from_none (nat_le v largest_word) none) in
    omega arith

cell_others : (m : MachineState) (a v : ℕ) (other : Place) → (other ≡ Cell a → ⊥) → value_at (with_value v m (Cell a)) other ≡ value_at m other
cell_others m a v (Cell b) apart = get-put-other m.processor.memory a b v (λ e. apart (ap (λ (n : ℕ). Cell n) e))
cell_others m a v (Register r) apart = register_of-memory m (put m.processor.memory a v) r (size-put m.processor.memory a v)
cell_others m a v (UnitRegister l j) apart = refl

register_others : (m : MachineState) (r : CpuReg) (v : ℕ) (other : Place) → length m.processor.cpu.accumulators ≡ 4 → value_fault v (Register r) ≡ None
    → (other ≡ Register r → ⊥) → value_at (with_value v m (Register r)) other ≡ value_at m other
register_others m r v (Cell b) is none apart = ap (λ (mem : MemoryState). get mem b) (register_keeps m r v).memory
register_others m r v (Register q) is none apart = register_of-other m r q v is none (λ e. apart (ap (λ (n : CpuReg). Register n) e))
register_others m r v (UnitRegister l j) is none apart = ap (λ (us : List UnitState). unwrap_or (register_in l j us) 0) (register_keeps m r v).units

unit_others : (m : MachineState) (kind : Kind) (i v : ℕ) (other : Place) → (other ≡ UnitRegister kind i → ⊥) → value_at (with_value v m (UnitRegister kind i)) other ≡ value_at m other
unit_others m kind i v (Cell b) apart = refl
unit_others m kind i v (Register q) apart = register_of-units m (with_register_in kind i v m.units) q
unit_others m kind i v (UnitRegister l j) apart = ap (λ o. unwrap_or o 0) (register_in-other kind l i j v m.units apart)

puts_one : (m : MachineState) (place : Place) (v : ℕ) → IsMachine m → Takes (shape_of m) v place → PutsOne place v m (with_value v m place)
puts_one m (Cell a) v is takes = record {
  holds = reads_back m (Cell a) v is (takes.within m refl) takes.fits;
  others = cell_others m a v;
  shape = with_value-shape v m (Cell a);
  time = refl;
  events = refl;
  machine = record {
    accumulators = is.accumulators;
    memory = put-memory m.processor.memory a v is.memory (word_value v takes.fits);
    units = is.units;
  };
}
puts_one m (Register r) v is takes =
    let kept = register_keeps m r v in
    record {
      holds = reads_back m (Register r) v is tt takes.fits;
      others = λ other. register_others m r v other is.accumulators takes.fits;
      shape = with_value-shape v m (Register r);
      time = kept.time;
      events = kept.events;
      machine = record {
        accumulators = kept.accumulators ∙ is.accumulators;
        memory = subst IsMemory (sym kept.memory) is.memory;
        units = subst AllFit (sym kept.units) is.units;
      };
    }
puts_one m (UnitRegister kind i) v is takes = record {
  holds = reads_back m (UnitRegister kind i) v is (takes.within m refl) takes.fits;
  others = unit_others m kind i v;
  shape = with_value-shape v m (UnitRegister kind i);
  time = refl;
  events = refl;
  machine = record {
    accumulators = is.accumulators;
    memory = is.memory;
    units = all_fit-set kind i v m.units (fits_from_none (takes_value (register_at kind i) v) takes.fits) is.units;
  };
}

-- A value is put into places one behind another.

-- each place takes the value
abbrev pub AllTake : Shape → ℕ → List Place → Type 0
AllTake shape v [] = Unit {0}
AllTake shape v (place ∷ more) = Takes shape v place × AllTake shape v more

contains_here : (p : Place) (more : List Place) → Contains (p ∷ more) p
contains_here p more = (0, omega arith, refl)

contains_later : (p q : Place) (more : List Place) → Contains more q → Contains (p ∷ more) q
contains_later p q more h = (suc h.0, omega (arith, h.1), h.2)

contains_cases : (p q : Place) (more : List Place) → Contains (p ∷ more) q → (p ≡ q) ⊎ Contains more q
contains_cases p q more (zero, h, e) = inl e
contains_cases p q more (suc k, h, e) = inr (k, omega arith, e)

-- what holds the value goes on to hold it
still_holds : (m after : MachineState) (p q : Place) (v : ℕ) → PutsOne p v m after → value_at m q ≡ v → value_at after q ≡ v
still_holds m after p q v puts held = elim (same_place q p) [
  | inl same ↦ ap (λ (r : Place). value_at after r) same ∙ puts.holds
  | inr apart ↦ puts.others q apart ∙ held
]

filled_holds : (m : MachineState) (v : ℕ) (places : List Place) (q : Place) → IsMachine m → AllTake (shape_of m) v places → value_at m q ≡ v
    → value_at (filled v m places) q ≡ v
unfolding filled
filled_holds m v [] q is take held = held
filled_holds m v (p ∷ more) q is take held =
    let next = with_value v m p in
    let puts = puts_one m p v is take.0 in
    filled_holds next v more q puts.machine (subst (λ (shape : Shape). AllTake shape v more) (sym puts.shape) take.1) (still_holds m next p q v puts held)

IsPlace-same : (m after : MachineState) (q : Place) → shape_of after ≡ shape_of m → IsPlace m q → IsPlace after q
IsPlace-same m after (Cell a) same h = subst (λ (shape : Shape). a < shape.size) (sym same) h
IsPlace-same m after (Register r) same h = tt
IsPlace-same m after (UnitRegister kind i) same h = (subst (λ (shape : Shape). Contains shape.kinds kind) (sym same) h.0, h.1)

filled_puts : (m : MachineState) (v : ℕ) (places : List Place) → IsMachine m → AllTake (shape_of m) v places → PutsInto places v m (filled v m places)
unfolding filled
filled_puts m v [] is take = record {
  listed = λ place h. absurd (omega (arith, h.1));
  others = λ place there apart. refl;
  size = refl;
  kinds = refl;
  time = refl;
  events = refl;
  machine = is;
}
filled_puts m v (p ∷ more) is take =
    let next = with_value v m p in
    let puts = puts_one m p v is take.0 in
    let rest_take = subst (λ (shape : Shape). AllTake shape v more) (sym puts.shape) take.1 in
    let rest = filled_puts next v more puts.machine rest_take in
    record {
      listed = λ place h. elim (contains_cases p place more h) [
        | inl here ↦ filled_holds next v more place puts.machine rest_take (subst (λ (q : Place). value_at next q ≡ v) here puts.holds)
        | inr later ↦ rest.listed place later
      ];
      others = λ place there apart.
          rest.others place (IsPlace-same m next place puts.shape there) (λ later. apart (contains_later p place more later))
          ∙ puts.others place (λ e. apart (subst (λ (q : Place). Contains (p ∷ more) q) (sym e) (contains_here p more)));
      size = rest.size ∙ ap (λ (shape : Shape). shape.size) puts.shape;
      kinds = rest.kinds ∙ ap (λ (shape : Shape). shape.kinds) puts.shape;
      time = rest.time ∙ puts.time;
      events = rest.events ∙ puts.events;
      machine = rest.machine;
    }

-- The places of a list without a fault take the value.

AllTake-append : (shape : Shape) (v : ℕ) (xs ys : List Place) → AllTake shape v xs → AllTake shape v ys → AllTake shape v (xs ++ ys)
AllTake-append shape v [] ys first second = second
AllTake-append shape v (p ∷ xs) ys first second = (first.0, AllTake-append shape v xs ys first.1 second)

-- places one behind another, each of which is one of the machine
numbered_take : (place : ℕ → Place) (shape : Shape) (v from count : ℕ) → ((i : ℕ) → i < from + count → (m : MachineState) → shape_of m ≡ shape → IsPlace m (place i))
    → values_fault v (numbered place from count) ≡ None → AllTake shape v (numbered place from count)
unfolding numbered values_fault
numbered_take place shape v from zero are none = tt
numbered_take place shape v from (suc n) are none = (
  record { within = are from (omega arith); fits = first_none (value_fault v (place from)) (values_fault v (numbered place (from + 1) n)) none },
  numbered_take place shape v (from + 1) n (λ i h. are i (omega arith)) (second_none (value_fault v (place from)) (values_fault v (numbered place (from + 1) n)) none),
)

cells_take : (shape : Shape) (v from count : ℕ) → from + count ≤ shape.size → values_fault v (cells from count) ≡ None → AllTake shape v (cells from count)
cells_take shape v from count within none =
    numbered_take Cell shape v from count (λ i h m same. subst (λ (s : Shape). i < s.size) (sym same) (lt_of_lt_of_le h within)) none

registers_take : (shape : Shape) (v : ℕ) (registers : List CpuReg) → values_fault v (registers_of registers) ≡ None → AllTake shape v (registers_of registers)
unfolding values_fault
registers_take shape v [] none = tt
registers_take shape v (r ∷ more) none = (
  record { within = λ m same. tt; fits = first_none (value_fault v (Register r)) (values_fault v (registers_of more)) none },
  registers_take shape v more (second_none (value_fault v (Register r)) (values_fault v (registers_of more)) none),
)

unit_registers_take : (shape : Shape) (v : ℕ) (kind : Kind) → has_kind kind shape.kinds ≡ true → values_fault v (all_of (whose.Device kind)) ≡ None → AllTake shape v (all_of (whose.Device kind))
unit_registers_take shape v kind there none =
    numbered_take (UnitRegister kind) shape v 0 (length (registers kind))
    (λ i h m same. (subst (λ (s : Shape). Contains s.kinds kind) (sym same) (listed-has_kind kind shape.kinds there), omega (arith, h))) none

state_takes : (shape : Shape) (v : ℕ) (device : Name) → has_named shape device ≡ true → values_fault v (all_of device) ≡ None → AllTake shape v (all_of device)
state_takes shape v whose.Cpu there none = registers_take shape v all_registers none
state_takes shape v (whose.Device kind) there none = unit_registers_take shape v kind there none

abbrev TakesAll : Shape → ℕ → Option Place → Type 0
TakesAll shape v place = values_fault v (option_to_list place) ≡ None → AllTake shape v (option_to_list place)

processor_takes : (shape : Shape) (v : ℕ) (register : Option CpuReg) → TakesAll shape v (option_map (λ r. Register r) register)
processor_takes shape v None none = tt
processor_takes shape v (Some r) none = registers_take shape v (r ∷ []) none

unit_takes : (shape : Shape) (v : ℕ) (kind : Kind) (i : ℕ) → has_kind kind shape.kinds ≡ true → (register : Option table.Register) → register ≡ register_at kind i
    → TakesAll shape v (option_map (λ r. UnitRegister kind i) register)
unfolding values_fault
unit_takes shape v kind i there None e none = tt
unit_takes shape v kind i there (Some r) e none = (
  record {
    within = λ m same. (subst (λ (s : Shape). Contains s.kinds kind) (sym same) (listed-has_kind kind shape.kinds there), slice_get_within (registers kind) i r (sym e));
    fits = first_none (value_fault v (UnitRegister kind i)) None none;
  },
  tt,
)

one_takes : (shape : Shape) (v : ℕ) (device : Name) (i : ℕ) → has_named shape device ≡ true → TakesAll shape v (named_register device i)
one_takes shape v whose.Cpu i there = subst (TakesAll shape v) (sym (named-processor i)) (processor_takes shape v (slice_get all_registers i))
one_takes shape v (whose.Device kind) i there = subst (TakesAll shape v) (sym (named-unit kind i)) (unit_takes shape v kind i there (register_at kind i) refl)

memory_fits : (device : Name) (fits : Bool) → memory_fault device fits ≡ None → fits ≡ true
memory_fits whose.Cpu fits none = fits_from_none fits none
memory_fits (whose.Device kind) fits none = cc

name_fits : (there : Bool) → no_such_name_unless there ≡ None → there ≡ true
name_fits true none = refl
name_fits false none = cc

item_takes : (shape : Shape) (v : ℕ) (device : Name) (i : Item) → item_fault shape device i ≡ None → values_fault v (places_of shape device i) ≡ None
    → AllTake shape v (places_of shape device i)
unfolding item_fault places_of
item_takes shape v device (item.At a) named none =
    let h = ltb-true a shape.size (memory_fits device (nat_lt a shape.size) named) in
    cells_take shape v a 1 (omega (arith, h)) none
item_takes shape v device (item.Range a b) named none =
    let h = and_parts (nat_le a b) (nat_lt b shape.size) (memory_fits device (nat_le a b && nat_lt b shape.size) named) in
    cells_take shape v a (b + 1 - a) (omega (arith, leb-true a b h.0, ltb-true b shape.size h.1)) none
item_takes shape v device (item.Count a n) named none =
    let h = and_parts (nat_lt 0 n) (nat_le (a + n) shape.size) (memory_fits device (nat_lt 0 n && nat_le (a + n) shape.size) named) in
    cells_take shape v a n (leb-true (a + n) shape.size h.1) none
item_takes shape v device item.All named none = cells_take shape v 0 shape.size (omega arith) none
item_takes shape v device (item.Reg i) named none =
    let h = and_parts (has_named shape device) (is_some (named_register device i)) (name_fits (has_named shape device && is_some (named_register device i)) named) in
    one_takes shape v device i h.0 none
item_takes shape v device item.State named none = state_takes shape v device (name_fits (has_named shape device) named) none
item_takes shape v device item.Unknown named none = tt

pub items_take : (shape : Shape) (v : ℕ) (device : Name) (items : List Item) → items_fault (deposit_fault shape device v) items ≡ None → AllTake shape v (all_places shape device items)
unfolding items_fault all_places
items_take shape v device [] none = tt
items_take shape v device (i ∷ more) none =
    let here = first_none (deposit_fault shape device v i) (items_fault (deposit_fault shape device v) more) none in
    let rest = second_none (deposit_fault shape device v i) (items_fault (deposit_fault shape device v) more) none in
    AllTake-append shape v (places_of shape device i) (all_places shape device more) (item_takes shape v device i (named_fits shape device v i here) (value_fits shape device v i here))
    (items_take shape v device more rest)

pub deposit_puts : DepositPuts
unfolding fault_of_deposit deposited
deposit_puts m l v is none =
    filled_puts m v (all_places (shape_of m) l.device l.items) is (items_take (shape_of m) v l.device l.items none)
