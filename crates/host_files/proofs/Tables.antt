-- A table of open files: places, ids that were given, and counts.
use Rattle.std.proofs.Common.{inl, inr, IsSome, ◌≡◌, ◌≢◌, ℕ, zero, suc, ◌+◌, ◌<◌, ◌≤◌, true, List, [], ◌∷◌, map, None, nat_lt, refl, ap, sym, ◌∙◌, subst, arith}
use Rattle.std.specs.List.{remove}
use Rattle.std.proofs.lemmas.Bool.{cases_lt, cases_eq}
use Rattle.std.proofs.lemmas.Bool.Decides.{nat_tests}
use Rattle.file_traits.specs.State.{Opened, opened_at, without}
use Rattle.host_files.specs.OpenTable.{StandsAt, all_given}
use Rattle.host_files.proofs.Names.{both}
use Rattle.file_traits.proofs.Fronts.{front-found, front-out, front-passed, front-kept, both-and}

-- an id stands one place further behind another one
pub stands-further : (o : Opened) (rest : List Opened) (file place : ℕ) → o.file ≢ file → StandsAt rest file place → StandsAt (o ∷ rest) file (place + 1)
stands-further o rest file place other at =
    let more : place + 1 ≡ suc place = omega arith in
    subst (λ (n : ℕ). StandsAt (o ∷ rest) file n) (sym more)
    (record {
      within = let within = at.within in omega (arith, within);
      found = front-passed o rest file other ∙ at.found;
      rest = front-kept o rest file other ∙ ap (λ (xs : List Opened). o ∷ xs) at.rest;
    })

pub stands-first : (o : Opened) (rest : List Opened) (file : ℕ) → o.file ≡ file → StandsAt (o ∷ rest) file 0
stands-first o rest file is = record {
  within = omega arith;
  found = front-found o rest file is;
  rest = front-out o rest file is;
}

-- ---- ids that were given

below : (m n : ℕ) → nat_lt m n ≡ true → m < n
below m n less = grind (arith, nat_tests)

below-is : (m n : ℕ) → m < n → nat_lt m n ≡ true
below-is m n less = grind (arith, nat_tests)

pub given-more : (opened : List Opened) (given : ℕ) → all_given opened given ≡ true → all_given opened (given + 1) ≡ true
given-more [] given all = refl
given-more (o ∷ rest) given all =
    let both = both (nat_lt o.file given) (all_given rest given) all in
    let less = below o.file given both.0 in
    both-and (nat_lt o.file (given + 1)) (all_given rest (given + 1)) (below-is o.file (given + 1) (omega (arith, less))) (given-more rest given both.1)

-- an id that was not given is not open
pub not-open : (opened : List Opened) (given file : ℕ) → all_given opened given ≡ true → given ≤ file → opened_at opened file ≡ None
not-open [] given file all late = refl
not-open (o ∷ rest) given file all late =
    let both = both (nat_lt o.file given) (all_given rest given) all in
    let less = below o.file given both.0 in
    front-passed o rest file (λ same. absurd (omega (arith, less, same, late))) ∙ not-open rest given file both.1 late

pub open-given : (opened : List Opened) (given file : ℕ) → all_given opened given ≡ true → IsSome (opened_at opened file) → file < given
open-given opened given file all is_open =
    elim (cases_lt file given) [
      | inl less ↦ less
      | inr late ↦ let none = not-open opened given file all late in let there : IsSome {T = Opened} None = subst IsSome none is_open in absurd (cc)
    ]

pub without-missing : (opened : List Opened) (file : ℕ) → opened_at opened file ≡ None → without opened file ≡ opened
without-missing [] file none = refl
without-missing (o ∷ rest) file none =
    elim (cases_eq o.file file) [
      | inl same ↦ let found = front-found o rest file same in absurd (cc (none, found))
      | inr other ↦ front-kept o rest file other ∙ ap (λ (xs : List Opened). o ∷ xs) (without-missing rest file (sym (front-passed o rest file other) ∙ none))
    ]

pub given-without : (opened : List Opened) (given file : ℕ) → all_given opened given ≡ true → all_given (without opened file) given ≡ true
given-without [] given file all = refl
given-without (o ∷ rest) given file all =
    let both = both (nat_lt o.file given) (all_given rest given) all in
    elim (cases_eq o.file file) [
      | inl same ↦ ap (λ (xs : List Opened). all_given xs given) (front-out o rest file same) ∙ both.1
      | inr other ↦ ap (λ (xs : List Opened). all_given xs given) (front-kept o rest file other) ∙ both-and (nat_lt o.file given) (all_given (without rest file) given) both.0 (given-without rest given file both.1)
    ]

pub map-remove : {A B : Type 0} (f : A → B) (xs : List A) (i : ℕ) → map f (remove xs i) ≡ remove (map f xs) i
map-remove f [] zero = refl
map-remove f [] (suc i) = refl
map-remove f (x ∷ xs) zero = refl
map-remove f (x ∷ xs) (suc i) = ap (λ ys. f x ∷ ys) (map-remove f xs i)

pub given-added : (o : Opened) (opened : List Opened) (given : ℕ) → o.file ≡ given → all_given opened given ≡ true → all_given (o ∷ opened) (given + 1) ≡ true
given-added o opened given is all =
    both-and (nat_lt o.file (given + 1)) (all_given opened (given + 1)) (below-is o.file (given + 1) (omega (arith, is))) (given-more opened given all)
