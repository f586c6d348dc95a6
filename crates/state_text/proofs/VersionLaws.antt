-- A row that the first version does not have.
use Rattle.std.proofs.Common.{◌≡◌, ◌≢◌, ◌⊎◌, ℕ, ◌^◌, ◌<◌, Bool, true, false, eqb, Result, Ok, refl, sym, ap, subst, arith, eq-eqb, inl, inr}
use Rattle.std.specs.Prelude.{nat_le, ◌==◌, ◌&&◌, ◌||◌, not}
use Rattle.std.proofs.lemmas.Bool.{cases_lt, and_parts, leb-true, eqb-true}
use Rattle.saved_session.specs.Ranges.{standard_kinds, most_kinds, is_unit_count}
use Rattle.byte_layouts.specs.declared.fault.FieldFault.{FieldFault}
use Rattle.byte_layouts.specs.Readers.{At, Reads, is_version_to}
use Rattle.byte_layouts.specs.Layout.{Layout, reading}
use Rattle.byte_layouts.proofs.ByteLaws.{IsOfBytes}
use Rattle.state_text.specs.Rows.{this_version, unless, unless_first, is_count_in}

pub in_first : {A : Type 0} (version : ℕ) (a : A) (row : Layout A) (at : At) → version ≡ 1 → reading (unless_first version a row) at ≡ Ok (a, at)
in_first version a row at is = ap (λ (b : Bool). reading (unless b a row) at) (eq-eqb version 1 is)

not_first : (version : ℕ) → version ≢ 1 → (version == 1) ≡ false
not_first version never = by_test (eqb version 1) refl
  where
    by_test : (b : Bool) → eqb version 1 ≡ b → eqb version 1 ≡ false
    by_test true e = absurd (never (eqb-true version 1 e))
    by_test false e = e

pub in_later : {X A : Type 0} (view : X → A) (version : ℕ) (a : A) (row : Layout A) (result : Result X FieldFault) (next at : At) → version ≢ 1
    → Reads view result next (reading row at) → Reads view result next (reading (unless_first version a row) at)
in_later {X} {A} view version a row result next at never read =
    subst (λ (b : Bool). Reads view result next (reading (unless b a row) at)) (sym (not_first version never)) read

-- what is of bytes where the row is there
pub none_of_bytes : {A : Type 0} (first : Bool) (a : A) (row : Layout A) (x : A) → IsOfBytes row x → IsOfBytes (unless first a row) x
none_of_bytes true a row x h = tt
none_of_bytes false a row x h = h

-- the versions that there are
pub either_version : (version : ℕ) → is_version_to this_version version ≡ true → (version ≡ this_version) ⊎ (version ≡ 1)
either_version version h =
    let p = and_parts (nat_le 1 version) (nat_le version 2) h in
    let least = leb-true 1 version p.0 in
    let most = leb-true version 2 p.1 in
    elim (cases_lt version 2) [
      | inl under ↦ inr (omega (arith, least, under))
      | inr over ↦ inl (omega (arith, most, over))
    ]

-- how many units there are
pub count_to : (version n : ℕ) → is_count_in version n ≡ true → is_unit_count n ≡ true
count_to version n h = by_tests (n == standard_kinds) (not (version == 1)) (n == most_kinds) h
  where
    by_tests : (a b c : Bool) → (a || (b && c)) ≡ true → (a || c) ≡ true
    by_tests true b c h = refl
    by_tests false true c h = h
    by_tests false false c h = absurd cc

pub count_first : (n : ℕ) → is_count_in 1 n ≡ true → n ≡ standard_kinds
count_first n h = eqb-true n standard_kinds (by_test (n == standard_kinds) h)
  where
    by_test : (a : Bool) → (a || false) ≡ true → a ≡ true
    by_test true h = refl
    by_test false h = h

pub first_count : (n : ℕ) → n ≡ standard_kinds → is_count_in 1 n ≡ true
first_count n is = ap (is_count_in 1) is

pub few_units_there : (n : ℕ) → is_unit_count n ≡ true → n < 2 ^ 8
few_units_there n h = by_test (n == standard_kinds) refl
  where
    by_test : (a : Bool) → (n == standard_kinds) ≡ a → n < 2 ^ 8
    by_test true e = let is = eqb-true n standard_kinds e in omega (arith, is)
    by_test false e = let is = eqb-true n most_kinds (subst (λ (a : Bool). (a || n == most_kinds) ≡ true) e h) in omega (arith, is)
