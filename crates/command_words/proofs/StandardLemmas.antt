-- Lists that are the same, element by element; and standard units stand in bus order.
use Rattle.std.proofs.Common.{rules, ◌≡◌, inl, inr, subst, ℕ, ◌+◌, ◌≤◌, ◌<◌, zero, suc, List, [], ◌∷◌, ◌++◌, length, get_or, take, map, refl, ap, sym, ◌∙◌, add-one, arith, Some, None, slice_get, option_map}
use Rattle.std.proofs.Math.Seq.{take-suc}
use Rattle.std.proofs.lemmas.List.{take_all, length-map}
use Rattle.std.proofs.lemmas.Option.{slice_get-map, slice_get_within, get_or_from_slice_get}
use Rattle.unit_trait.specs.declared.kind.Kind.{Kind}
use Rattle.unit_trait.specs.Registers.{Register, registers}
use Rattle.unit_trait.specs.Calls.{UnitState}
use Rattle.unit_trait.specs.Row.{InRange, Fits}
use Rattle.unit_trait.proofs.EveryKind.{every-kind}
use Rattle.unit_trait.proofs.LineRegisters.{registers-many}
use Rattle.unit_list.specs.BusOrder.{IsBusOrder}
use Rattle.command_words.specs.Standard.{IsStandard, standard_units, all_units}

-- one element more
pub same-more : {A : Type 0} (xs ys : List A) (i : ℕ) (d : A) → i < length xs → i < length ys → take i xs ≡ take i ys → get_or xs i d ≡ get_or ys i d
    → take (i + 1) xs ≡ take (i + 1) ys
same-more xs ys i d in_xs in_ys front here =
    ap (λ n. take n xs) (add-one i) ∙ take-suc xs i d in_xs ∙ ap (λ l. l ++ (get_or xs i d ∷ [])) front ∙ ap (λ x. take i ys ++ (x ∷ [])) here
    ∙ sym (take-suc ys i d in_ys) ∙ ap (λ n. take n ys) (sym (add-one i))

-- all elements
pub same-all : {A : Type 0} (xs ys : List A) (i : ℕ) → length xs ≤ i → length ys ≤ i → take i xs ≡ take i ys → xs ≡ ys
same-all xs ys i all_xs all_ys same = sym (take_all i xs all_xs) ∙ same ∙ take_all i ys all_ys

-- values that are in their ranges are as many as their registers
range-length : (rs : List Register) (vs : List ℕ) → InRange rs vs → length vs ≡ length rs
range-length [] [] fits = refl
range-length [] (v ∷ vs) fits = absurd fits
range-length (r ∷ rs) [] fits = absurd fits
range-length (r ∷ rs) (v ∷ vs) fits = ap suc (range-length rs vs fits.2)

pub held-length : (u : UnitState) → Fits u → length u.registers ≡ length (map (λ r. r.initial) (registers u.kind))
held-length u fits = range-length (registers u.kind) u.registers fits ∙ sym (length-map (registers u.kind) (λ r. r.initial))

-- what the registers of a kind hold at first
abbrev pub initials : List Register → List ℕ
initials rs = map (λ r. r.initial) rs

pub initial-at : (rs : List Register) (i v : ℕ) → Some v ≡ option_map (λ r. r.initial) (slice_get rs i) → (i < length (initials rs)) × (get_or (initials rs) i 0 ≡ v)
initial-at rs i v is =
    let here : slice_get (initials rs) i ≡ Some v = slice_get-map (λ (r : Register). r.initial) rs i ∙ sym is in
    (slice_get_within (initials rs) i v here, get_or_from_slice_get (initials rs) i v 0 here)

pub no-initial : (rs : List Register) (i : ℕ) → None ≡ option_map (λ r. r.initial) (slice_get rs i) → length (initials rs) ≤ i
no-initial rs i is = by-list (initials rs) i (slice_get-map (λ (r : Register). r.initial) rs i ∙ sym is)
  where
    by-list : (vs : List ℕ) (i : ℕ) → slice_get vs i ≡ None → length vs ≤ i
    by-list [] i none = omega arith
    by-list (v ∷ vs) zero none = absurd (cc)
    by-list (v ∷ vs) (suc i) none = omega (arith, by-list vs i none)

-- a number of a register fits a byte
few_registers : (kind : Kind) → length (registers kind) ≤ 131
few_registers = every-kind (λ (k : Kind). length (registers k) ≤ 131)
    (omega arith, omega arith, omega arith, omega arith, omega arith, omega arith, omega arith, omega arith, omega arith, omega arith, omega (arith, registers-many))

pub few-initials : (kind : Kind) → length (initials (registers kind)) ≤ 131
few-initials kind = let few = few_registers kind in let same = length-map (registers kind) (λ (r : Register). r.initial) in omega (arith, few, same)

-- ---- standard units stand in bus order: the ten, and these and the multiplexer

ten-order : IsBusOrder standard_units
ten-order = search rules

all-order : IsBusOrder all_units
all-order = search rules

pub in-bus-order : (units : List UnitState) → IsStandard units → IsBusOrder units
in-bus-order units (inl is) = subst IsBusOrder (sym is) ten-order
in-bus-order units (inr is) = subst IsBusOrder (sym is) all-order
