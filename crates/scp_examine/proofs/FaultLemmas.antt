-- The first fault of a list, as a loop over it finds it.
use Rattle.std.proofs.Common.{◌≡◌, ℕ, ◌+◌, ◌<◌, zero, suc, List, [], ◌∷◌, ◌++◌, length, get_or, drop, Option, Some, None, ap, sym, ◌∙◌, refl, add-one, arith, Bool, true, false, nat_le}
use Rattle.std.proofs.Math.Seq.{drop-cons, drop-length}
use Rattle.unit_trait.specs.declared.processor.CpuReg.{CpuReg}
use Rattle.operand_forms.specs.declared.listing.Item.{Item}
use Rattle.scp_examine.specs.declared.fault.ExamineFault.{ExamineFault}
use Rattle.unit_trait.specs.declared.kind.Kind.{Kind}
use Rattle.scp_examine.specs.Places.{Place, Register, UnitRegister, cells, numbered, registers_of, unit_registers}
use Rattle.scp_examine.proofs.ShowLemmas.{numbered-more, numbered_rest}
use Rattle.scp_examine.specs.Checks.{or_fault, items_fault, value_fault, values_fault, out_of_range_unless, largest_word}

-- from the item at a place on
pub items_fault-at : (f : Item → Option ExamineFault) (xs : List Item) (i : ℕ) (d : Item) → i < length xs
    → items_fault f (drop i xs) ≡ or_fault (f (get_or xs i d)) (items_fault f (drop (i + 1) xs))
unfolding items_fault
items_fault-at f xs i d h = rw (add-one, drop-cons xs i d)

-- the items before the place have no fault, and neither has the one that stands there
pub items_fault-more : (f : Item → Option ExamineFault) (xs : List Item) (i : ℕ) (d : Item) → i < length xs
    → items_fault f xs ≡ items_fault f (drop i xs) → f (get_or xs i d) ≡ None
    → items_fault f xs ≡ items_fault f (drop (i + 1) xs)
items_fault-more f xs i d h before none = before ∙ items_fault-at f xs i d h ∙ ap (λ o. or_fault o (items_fault f (drop (i + 1) xs))) none

-- the items before the place have no fault, and the one that stands there has one
pub items_fault-found : (f : Item → Option ExamineFault) (xs : List Item) (i : ℕ) (d : Item) (fault : ExamineFault) → i < length xs
    → items_fault f xs ≡ items_fault f (drop i xs) → f (get_or xs i d) ≡ Some fault
    → items_fault f xs ≡ Some fault
items_fault-found f xs i d fault h before some = before ∙ items_fault-at f xs i d h ∙ ap (λ o. or_fault o (items_fault f (drop (i + 1) xs))) some

-- no item has a fault
pub items_fault-all : (f : Item → Option ExamineFault) (xs : List Item) (i : ℕ) → i ≡ length xs → items_fault f xs ≡ items_fault f (drop i xs) → None ≡ items_fault f xs
unfolding items_fault
items_fault-all f xs i e before = sym (before ∙ ap (λ n. items_fault f (drop n xs)) e ∙ ap (λ ys. items_fault f ys) (drop-length xs))

pub registers_fault-at : (value : ℕ) (xs : List CpuReg) (i : ℕ) (d : CpuReg) → i < length xs
    → values_fault value (registers_of (drop i xs)) ≡ or_fault (value_fault value (Register (get_or xs i d))) (values_fault value (registers_of (drop (i + 1) xs)))
unfolding values_fault
registers_fault-at value xs i d h = rw (add-one, drop-cons xs i d)

pub registers_fault-more : (value : ℕ) (xs : List CpuReg) (i : ℕ) (d : CpuReg) → i < length xs
    → values_fault value (registers_of xs) ≡ values_fault value (registers_of (drop i xs)) → value_fault value (Register (get_or xs i d)) ≡ None
    → values_fault value (registers_of xs) ≡ values_fault value (registers_of (drop (i + 1) xs))
registers_fault-more value xs i d h before none =
    before ∙ registers_fault-at value xs i d h ∙ ap (λ o. or_fault o (values_fault value (registers_of (drop (i + 1) xs)))) none

pub registers_fault-found : (value : ℕ) (xs : List CpuReg) (i : ℕ) (d : CpuReg) (fault : ExamineFault) → i < length xs
    → values_fault value (registers_of xs) ≡ values_fault value (registers_of (drop i xs)) → value_fault value (Register (get_or xs i d)) ≡ Some fault
    → values_fault value (registers_of xs) ≡ Some fault
registers_fault-found value xs i d fault h before some =
    before ∙ registers_fault-at value xs i d h ∙ ap (λ o. or_fault o (values_fault value (registers_of (drop (i + 1) xs)))) some

pub registers_fault-all : (value : ℕ) (xs : List CpuReg) (i : ℕ) → i ≡ length xs → values_fault value (registers_of xs) ≡ values_fault value (registers_of (drop i xs))
    → None ≡ values_fault value (registers_of xs)
unfolding values_fault
registers_fault-all value xs i e before =
    sym (before ∙ ap (λ n. values_fault value (registers_of (drop n xs))) e ∙ ap (λ ys. values_fault value (registers_of ys)) (drop-length xs))

-- the fault of a value for words of memory is that for each of them
pub words_fault : (fits : Bool) (value from count : ℕ) → nat_le value largest_word ≡ fits → 0 < count
    → values_fault value (cells from count) ≡ out_of_range_unless fits
unfolding values_fault numbered
words_fault fits value from zero e h = absurd (omega arith)
words_fault false value from (suc n) e h = ap (λ b. or_fault (out_of_range_unless b) (values_fault value (cells (from + 1) n))) e
words_fault true value from (suc zero) e h = ap (λ b. or_fault (out_of_range_unless b) (values_fault value (cells (from + 1) zero))) e
words_fault true value from (suc (suc n)) e h =
    ap (λ b. or_fault (out_of_range_unless b) (values_fault value (cells (from + 1) (suc n)))) e ∙ words_fault true value (from + 1) (suc n) e (omega arith)

-- no words have no fault
pub words_fault-none : (value from : ℕ) → values_fault value (cells from 0) ≡ None
unfolding values_fault numbered
words_fault-none value from = refl

pub words_fault-code : (value from count : ℕ) (result : Option ExamineFault) → result ≡ out_of_range_unless (nat_le value largest_word) → 0 < count
    → result ≡ values_fault value (cells from count)
words_fault-code value from count result e h = e ∙ sym (words_fault (nat_le value largest_word) value from count refl h)

pub values_fault-append : (value : ℕ) (xs ys : List Place) → values_fault value (xs ++ ys) ≡ or_fault (values_fault value xs) (values_fault value ys)
unfolding values_fault
values_fault-append value [] ys = refl
values_fault-append value (p ∷ xs) ys = ap (or_fault (value_fault value p)) (values_fault-append value xs ys) ∙ or_fault-assoc (value_fault value p) (values_fault value xs) (values_fault value ys)
  where
    or_fault-assoc : (a b c : Option ExamineFault) → or_fault a (or_fault b c) ≡ or_fault (or_fault a b) c
    or_fault-assoc None b c = refl
    or_fault-assoc (Some fault) b c = refl

pub values_fault-one : (value : ℕ) (place : Place) → values_fault value (place ∷ []) ≡ value_fault value place
unfolding values_fault
values_fault-one value place = alone (value_fault value place)
  where
    alone : (fault : Option ExamineFault) → or_fault fault None ≡ fault
    alone None = refl
    alone (Some fault) = refl

-- the registers before one have no fault, and neither has that one
pub unit_fault-more : (value : ℕ) (kind : Kind) (i : ℕ) → values_fault value (unit_registers kind i) ≡ None → value_fault value (UnitRegister kind i) ≡ None
    → values_fault value (unit_registers kind (i + 1)) ≡ None
unfolding values_fault
unit_fault-more value kind i before none =
    let first = unit_registers kind i in
    let last = UnitRegister kind i ∷ [] in
    ap (values_fault value) (numbered-more (UnitRegister kind) 0 i i (omega arith)) ∙ values_fault-append value first last
    ∙ ap (λ o. or_fault o (values_fault value last)) before ∙ ap (λ o. or_fault o None) none

-- the registers before one have no fault, and that one has one
pub unit_fault-found : (value : ℕ) (kind : Kind) (count i : ℕ) (fault : ExamineFault) → i < count
    → values_fault value (unit_registers kind i) ≡ None → value_fault value (UnitRegister kind i) ≡ Some fault
    → values_fault value (unit_registers kind count) ≡ Some fault
unfolding values_fault
unit_fault-found value kind count i fault h before some =
    let first = unit_registers kind i in
    let last = UnitRegister kind i ∷ [] in
    let r = numbered_rest (UnitRegister kind) 0 count i i h (omega arith) in
    ap (values_fault value) r.1 ∙ values_fault-append value (first ++ last) r.0
    ∙ ap (λ o. or_fault o (values_fault value r.0)) (
    values_fault-append value first last ∙ ap (λ o. or_fault o (values_fault value last)) before ∙ ap (λ o. or_fault o None) some
    )

pub unit_fault-none : (value : ℕ) (kind : Kind) → values_fault value (unit_registers kind 0) ≡ None
unfolding values_fault numbered
unit_fault-none value kind = refl
