-- A list is taken one element behind another.
use Rattle.std.proofs.Common.{◌≡◌, ℕ, suc, ◌+◌, ◌<◌, ◌≤◌, ◌⊎◌, List, [], ◌∷◌, ◌++◌, length, take, map, Some, None, inl, inr, sym, ap, subst, ◌∙◌, arith}
use Rattle.std.specs.Prelude.{slice_get, get_or, option_map}
use Rattle.std.specs.List.{AllByRecursion}
use Rattle.std.proofs.Math.Seq.{take-suc}
use Rattle.std.proofs.lemmas.Option.{slice_get_within, get_or_from_slice_get, slice_get-map, slice_get_cases}
use Rattle.std.proofs.lemmas.List.{map_push, take_all}

-- what was taken so far, with the next one behind it
pub grows : {A : Type 0} (xs : List A) (k : ℕ) (x : A) → slice_get xs k ≡ Some x → take (k + 1) xs ≡ take k xs ++ x ∷ []
grows xs k x is =
    let more : k + 1 ≡ suc k = omega arith in
    rw more (take-suc xs k x (slice_get_within xs k x is) ∙ ap (λ y. take k xs ++ y ∷ []) (get_or_from_slice_get xs k x x is))

-- the same of what a function makes of a list
pub grows-map : {A B : Type 0} (f : A → B) (xs : List A) (k : ℕ) (x : A) → slice_get xs k ≡ Some x
    → take (k + 1) (map f xs) ≡ take k (map f xs) ++ f x ∷ []
grows-map f xs k x is = grows (map f xs) k (f x) (slice_get-map f xs k ∙ ap (option_map f) is)

-- What was taken, and the next one behind it, mean the list so far.
pub takes : {A B C : Type 0} (g : A → C) (f : B → C) (ys : List A) (y : A) (new : List A) (xs : List B) (k : ℕ) (x : B)
    → map g ys ≡ take k (map f xs) → slice_get xs k ≡ Some x → g y ≡ f x → new ≡ ys ++ y ∷ []
    → map g new ≡ take (k + 1) (map f xs)
takes g f ys y new xs k x before is same pushed =
    ap (map g) pushed ∙ map_push g ys y ∙ ap (λ l. l ++ g y ∷ []) before ∙ ap (λ z. take k (map f xs) ++ z ∷ []) same
    ∙ sym (grows-map f xs k x is)

-- what holds of all that were taken, and of the next one behind them
all-behind : {A : Type 0} (P : A → Type 0) (xs : List A) (x : A) → AllByRecursion P xs → P x → AllByRecursion P (xs ++ x ∷ [])
all-behind P [] x all here = (here, tt)
all-behind P (y ∷ xs) x all here = (all.0, all-behind P xs x all.1 here)

pub fits-behind : {A B : Type 0} (g : A → B) (P : B → Type 0) (ys : List A) (y : A) (new : List A)
    → AllByRecursion P (map g ys) → P (g y) → new ≡ ys ++ y ∷ [] → AllByRecursion P (map g new)
fits-behind {A} {B} g P ys y new all here pushed =
    subst (λ (l : List B). AllByRecursion P l) (sym (ap (map g) pushed ∙ map_push g ys y))
    (all-behind P (map g ys) (g y) all here)

-- what is taken of a list that has no more
pub taken-all : {A : Type 0} (xs : List A) (k : ℕ) → slice_get xs k ≡ None → take k xs ≡ xs
taken-all {A} xs k none = by-case (slice_get_cases xs k).1
  where
    by-case : ((x : A) × (k < length xs) × (slice_get xs k ≡ Some x) × (get_or xs k x ≡ x)) ⊎ ((length xs ≤ k) × (slice_get xs k ≡ None))
        → take k xs ≡ xs
    by-case (inl there) = grind arith
    by-case (inr past) = take_all k xs past.0
