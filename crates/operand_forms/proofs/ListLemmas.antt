-- The first of a list that passes a test, where no two of the list can pass it.
use Rattle.std.specs.Prelude.{not, slice_get, Contains}
use Rattle.std.proofs.Common.{◌≡◌, ◌⊎◌, inl, inr, ℕ, ◌<◌, zero, suc, Bool, true, false, ◌&&◌, Some, List, [], ◌∷◌, length, get_or, refl, ap, sym, ◌∙◌, arith}
use Rattle.std.specs.List.{list_all, position}
use Rattle.std.proofs.lemmas.Bool.{and_parts, lt-ltb, not-true, both_ways, false_from_ne_true}
use Rattle.std.proofs.lemmas.List.Sums.{AllPass-from_list_all, position_or_len_is}
use Rattle.std.proofs.lemmas.List.Quantifiers.{position-Some}
use Rattle.std.proofs.lemmas.List.Elements.{All-contains}
use Rattle.std.proofs.lemmas.Option.{slice_get_within, get_or_from_slice_get, slice_get-get_or}
use Rattle.operand_forms.specs.Names.{first_of}
use Rattle.operand_forms.proofs.ChoiceLemmas.{chosen, same_some}

-- no two of a list clash
abbrev pub are_apart : {T : Type 0} → (T → T → Bool) → List T → Bool
are_apart clash [] = true
are_apart clash (x ∷ more) = list_all (λ y. not (clash x y)) more && are_apart clash more

listed_cases : {T : Type 0} (x : T) (more : List T) (v : T) → Contains (x ∷ more) v → (x ≡ v) ⊎ Contains more v
listed_cases x more v (zero, within, is) = inl is
listed_cases x more v (suc k, within, is) = inr (k, omega arith, is)

listed_more : {T : Type 0} (x : T) (more : List T) (v : T) → Contains more v → Contains (x ∷ more) v
listed_more x more v (k, within, is) = (suc k, omega arith, is)

-- what is found is one of the list, and passes
pub first_found : {T : Type 0} (test : T → Bool) (xs : List T) (v : T) → first_of test xs ≡ Some v → Contains xs v × (test v ≡ true)
first_found test [] v h = absurd (cc)
first_found test (x ∷ more) v h =
    elim (chosen (test x) (Some x) (first_of test more) (Some v) h) [
      | inl here ↦
          let same = same_some x v here.1 in
          ((zero, omega arith, same), ap test (sym same) ∙ here.0)
      | inr behind ↦
          let rest = first_found test more v behind.1 in
          (listed_more x more v rest.0, rest.1)
    ]

-- one that passes is found where those before it fail
first_here : {T : Type 0} (test : T → Bool) (x : T) (more : List T) (v : T) → x ≡ v → test v ≡ true → first_of test (x ∷ more) ≡ Some v
first_here test x more v same passes =
    let here : test x ≡ true = ap test same ∙ passes in
    rw here (ap (λ w. Some w) same)

first_behind : {T : Type 0} (test : T → Bool) (x : T) (more : List T) (v : T) → test x ≡ false → first_of test more ≡ Some v → first_of test (x ∷ more) ≡ Some v
first_behind test x more v fails found = rw fails found

-- what passes is found, where any two that pass would clash
pub first_is : {T : Type 0} (test : T → Bool) (clash : T → T → Bool) (xs : List T) (v : T)
    → ((x y : T) → test x ≡ true → test y ≡ true → clash x y ≡ true) → are_apart clash xs ≡ true → Contains xs v → test v ≡ true → first_of test xs ≡ Some v
first_is test clash [] v meet apart (k, within, is) passes = absurd (omega arith)
first_is test clash (x ∷ more) v meet apart listed passes =
    let parts = and_parts (list_all (λ y. not (clash x y)) more) (are_apart clash more) apart in
    elim (listed_cases x more v listed) [
      | inl here ↦ first_here test x more v here passes
      | inr behind ↦
          let apart_from : not (clash x v) ≡ true = All-contains (λ y. not (clash x y) ≡ true) more v (AllPass-from_list_all (λ y. not (clash x y)) more parts.0) behind in
          let fails = false_from_ne_true (test x) (λ yes. both_ways (clash x v) (not-true (clash x v) apart_from) (meet x v yes passes)) in
          first_behind test x more v fails (first_is test clash more v meet parts.1 behind passes)
    ]

-- the same by places

pub place_found : {T : Type 0} (test : T → Bool) (xs : List T) (k : ℕ) → position test xs ≡ Some k → (x : T) × (slice_get xs k ≡ Some x) × (test x ≡ true)
place_found test [] k h = absurd (cc)
place_found test (x ∷ more) k h =
    let found = position-Some test (x ∷ more) k x h in
    (get_or (x ∷ more) k x, slice_get-get_or (x ∷ more) k x found.0, found.1)

apart_at : {T : Type 0} (clash : T → T → Bool) (xs : List T) (j k : ℕ) (d : T) → are_apart clash xs ≡ true → j < k → k < length xs → clash (get_or xs j d) (get_or xs k d) ≡ false
apart_at clash [] j k d apart before within = absurd (omega arith)
apart_at clash (x ∷ more) j zero d apart before within = absurd (omega arith)
apart_at clash (x ∷ more) zero (suc k) d apart before within =
    let parts = and_parts (list_all (λ y. not (clash x y)) more) (are_apart clash more) apart in
    not-true (clash x (get_or more k d)) (AllPass-from_list_all (λ y. not (clash x y)) more parts.0 k d (omega arith))
apart_at clash (x ∷ more) (suc j) (suc k) d apart before within =
    let parts = and_parts (list_all (λ y. not (clash x y)) more) (are_apart clash more) apart in
    apart_at clash more j k d parts.1 (omega arith) (omega arith)

pub place_is : {T : Type 0} (test : T → Bool) (clash : T → T → Bool) (xs : List T) (k : ℕ) (x : T)
    → ((x y : T) → test x ≡ true → test y ≡ true → clash x y ≡ true) → are_apart clash xs ≡ true → slice_get xs k ≡ Some x → test x ≡ true → position test xs ≡ Some k
place_is test clash xs k x meet apart at passes =
    let within = slice_get_within xs k x at in
    let here : test (get_or xs k x) ≡ true = ap test (get_or_from_slice_get xs k x x at) ∙ passes in
    let first = position_or_len_is test xs k x (omega arith) (λ j before. false_from_ne_true (test (get_or xs j x)) (λ yes. both_ways (clash (get_or xs j x) (get_or xs k x)) (apart_at clash xs j k x apart before within) (meet (get_or xs j x) (get_or xs k x) yes here))) (λ below. here) in
    rw (first, lt-ltb k (length xs) within) refl
