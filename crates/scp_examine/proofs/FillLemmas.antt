-- What a value in places one behind another leaves.
use Rattle.std.proofs.Common.{◌≡◌, ℕ, ◌+◌, ◌^◌, ◌<◌, ◌≤◌, ◌&&◌, zero, suc, List, [], ◌∷◌, ◌++◌, length, get_or, take, None, ap, sym, ◌∙◌, refl, arith, Bool, true, false, nat_le}
use borrow.Author.Tests.{leb-true}
use Rattle.unit_trait.specs.declared.kind.Kind.{Kind}
use Rattle.unit_trait.specs.declared.processor.CpuReg.{CpuReg}
use Rattle.unit_trait.specs.declared.processor.CpuReg.TheVariants.{Ac0, Ac1, Ac2, Ac3, C, Pc, Ion, Hold, Mask, Sr, StopDev, Size}
use Rattle.unit_trait.specs.Registers.{register_at}
use Rattle.unit_trait.specs.Calls.{UnitState}
use Rattle.unit_trait.specs.Row.{takes_value}
use Rattle.unit_list.specs.Bus.{kinds_of, takes_value_in}
use Rattle.nova_machine.specs.Machine.{MachineState}
use Rattle.operand_forms.specs.declared.listing.Name.{Name}
use Rattle.operand_forms.specs.declared.listing.Item.{Item}
use Rattle.unit_trait.specs.Processor.{all_registers}
use Rattle.scp_examine.specs.Shape.{Shape, has_kind, shape_of}
use Rattle.scp_examine.specs.Places.{Place, Register, UnitRegister, cells, numbered, registers_of, unit_registers, places_of}
use Rattle.scp_examine.specs.Checks.{deposit_fault, item_fault, items_fault, largest_word, or_fault, out_of_range_unless, value_fault, values_fault}
use Rattle.scp_examine.specs.Effect.{all_places, filled, with_value}
use Rattle.scp_examine.proofs.UnitLemmas.{has_unit-kind}
use Rattle.scp_examine.proofs.KeepLemmas.{filled-shape}
use Rattle.scp_examine.proofs.FaultLemmas.{words_fault, values_fault-append}
use Rattle.scp_examine.proofs.ShowLemmas.{numbered-more, numbered_rest, all_places-more, items_fault-none, first_none, second_none}

pub fits_from_none : (fits : Bool) → out_of_range_unless fits ≡ None → fits ≡ true
fits_from_none true e = refl
fits_from_none false e = cc

pub filled-append : (v : ℕ) (m : MachineState) (xs ys : List Place) → filled v m (xs ++ ys) ≡ filled v (filled v m xs) ys
unfolding filled
filled-append v m [] ys = refl
filled-append v m (p ∷ xs) ys = filled-append v (with_value v m p) xs ys

pub filled-none : (v : ℕ) (m : MachineState) → filled v m [] ≡ m
unfolding filled
filled-none v m = refl

pub filled-one : (v : ℕ) (m : MachineState) (p : Place) → filled v m (p ∷ []) ≡ with_value v m p
unfolding filled
filled-one v m p = refl

-- a place more
pub filled-more : (place : ℕ → Place) (v : ℕ) (m at after : MachineState) (from n here : ℕ) → here ≡ from + n → at ≡ filled v m (numbered place from n)
    → after ≡ with_value v at (place here) → after ≡ filled v m (numbered place from (n + 1))
filled-more place v m at after from n here e first second =
    second ∙ ap (λ k. with_value v k (place here)) first ∙ sym (filled-one v (filled v m (numbered place from n)) (place here))
    ∙ sym (filled-append v m (numbered place from n) (place here ∷ [])) ∙ ap (λ ps. filled v m ps) (sym (numbered-more place from n here e))

-- an item more
pub filled_items-more : (v : ℕ) (device : Name) (m at after : MachineState) (xs : List Item) (i : ℕ) (d : Item) → i < length xs
    → at ≡ filled v m (all_places (shape_of m) device (take i xs)) → after ≡ filled v at (places_of (shape_of at) device (get_or xs i d))
    → after ≡ filled v m (all_places (shape_of m) device (take (i + 1) xs))
filled_items-more v device m at after xs i d h first second =
    let shape = shape_of m in
    let before = all_places shape device (take i xs) in
    let here = places_of shape device (get_or xs i d) in
    second ∙ ap (λ k. filled v at (places_of k device (get_or xs i d))) (ap shape_of first ∙ filled-shape v m before)
    ∙ ap (λ k. filled v k here) first ∙ sym (filled-append v m before here) ∙ ap (λ ps. filled v m ps) (sym (all_places-more shape device xs i d h))

-- an item has no fault in the machine that the items before it have left
pub item_fits : (v : ℕ) (device : Name) (m at : MachineState) (xs : List Item) (i : ℕ) (d : Item) → i < length xs
    → items_fault (deposit_fault (shape_of m) device v) xs ≡ None → at ≡ filled v m (all_places (shape_of m) device (take i xs))
    → deposit_fault (shape_of at) device v (get_or xs i d) ≡ None
item_fits v device m at xs i d h none first =
    ap (λ k. deposit_fault k device v (get_or xs i d)) (ap shape_of first ∙ filled-shape v m (all_places (shape_of m) device (take i xs)))
    ∙ items_fault-none (deposit_fault (shape_of m) device v) xs i d none h

-- a kind that was there is there in the machine that some registers have left
pub still_there : (v : ℕ) (kind : Kind) (m at : MachineState) (places : List Place) → has_kind kind (shape_of m).kinds ≡ true → at ≡ filled v m places
    → has_kind kind (shape_of at).kinds ≡ true
still_there v kind m at places there first =
    ap (λ (k : Shape). has_kind kind k.kinds) (ap shape_of first ∙ filled-shape v m places) ∙ there

-- a register of a unit that is there takes a value that has no fault for it
pub takes_in : (kind : Kind) (i v : ℕ) (us : List UnitState) → has_kind kind (kinds_of us) ≡ true → value_fault v (UnitRegister kind i) ≡ None → takes_value_in kind i v us ≡ true
takes_in kind i v us there none =
    ap (λ b. b && takes_value (register_at kind i) v) (has_unit-kind kind us ∙ there) ∙ fits_from_none (takes_value (register_at kind i) v) none

-- each of some registers takes a value that has no fault for all of them
pub unit_register_fits : (v : ℕ) (kind : Kind) (count i : ℕ) → i < count → values_fault v (unit_registers kind count) ≡ None → value_fault v (UnitRegister kind i) ≡ None
unfolding values_fault
unit_register_fits v kind count i h none =
    let r = numbered_rest (UnitRegister kind) 0 count i i h (omega arith) in
    let first = unit_registers kind i in
    let last = UnitRegister kind i ∷ [] in
    let e : or_fault (or_fault (values_fault v first) (values_fault v last)) (values_fault v r.0) ≡ None =
    ap (λ o. or_fault o (values_fault v r.0)) (sym (values_fault-append v first last)) ∙ sym (values_fault-append v (first ++ last) r.0) ∙ ap (values_fault v) (sym r.1) ∙ none in
    first_none (value_fault v (UnitRegister kind i)) None (second_none (values_fault v first) (values_fault v last) (first_none (or_fault (values_fault v first) (values_fault v last)) (values_fault v r.0) e))

-- an item without a fault names something, and the value fits it
pub named_fits : (shape : Shape) (device : Name) (v : ℕ) (item : Item) → deposit_fault shape device v item ≡ None → item_fault shape device item ≡ None
unfolding deposit_fault
named_fits shape device v item e = first_none (item_fault shape device item) (values_fault v (places_of shape device item)) e

pub value_fits : (shape : Shape) (device : Name) (v : ℕ) (item : Item) → deposit_fault shape device v item ≡ None → values_fault v (places_of shape device item) ≡ None
unfolding deposit_fault
value_fits shape device v item e = second_none (item_fault shape device item) (values_fault v (places_of shape device item)) e

-- a value that has no fault for some words is a word
pub word_fits : (v from count : ℕ) → 0 < count → values_fault v (cells from count) ≡ None → v < 2 ^ 16
word_fits v from count some none =
    let fits : nat_le v largest_word ≡ true = fits_from_none (nat_le v largest_word) (sym (words_fault (nat_le v largest_word) v from count refl some) ∙ none) in
    let h : v ≤ 65535 = leb-true v 65535 fits in
    omega arith

pub filled_no_cells : (v : ℕ) (m : MachineState) (from count : ℕ) → count ≤ 0 → m ≡ filled v m (cells from count)
unfolding filled numbered
filled_no_cells v m from zero h = refl
filled_no_cells v m from (suc n) h = absurd (omega arith)

pub one_fits : (v : ℕ) (place : Place) → values_fault v (place ∷ []) ≡ None → value_fault v place ≡ None
unfolding values_fault
one_fits v place none = first_none (value_fault v place) None none

pub size_refuses : (v : ℕ) (before : List CpuReg) → values_fault v (registers_of (before ++ Size ∷ [])) ≡ None → ⊥
unfolding values_fault
size_refuses v [] none = cc
size_refuses v (r ∷ before) none = size_refuses v before (second_none (value_fault v (Register r)) (values_fault v (registers_of (before ++ Size ∷ []))) none)

-- no value goes into all registers, since size is one of them
pub state_refuses : (v : ℕ) → values_fault v (registers_of all_registers) ≡ None → ⊥
state_refuses v none = size_refuses v (Ac0 ∷ Ac1 ∷ Ac2 ∷ Ac3 ∷ C ∷ Pc ∷ Ion ∷ Hold ∷ Mask ∷ Sr ∷ StopDev ∷ []) none
