-- What holds of each element of a list holds of those of a list that is made of it.
use Rattle.std.proofs.Common.{ℕ, zero, suc, List, [], ◌∷◌, ◌++◌, take, drop, replicate, remove, slice_set}
use Rattle.std.specs.List.{AllByRecursion}

pub every-append : {A : Type 0} (P : A → Type 0) (xs ys : List A) → AllByRecursion P xs → AllByRecursion P ys → AllByRecursion P (xs ++ ys)
every-append P [] ys first second = second
every-append P (x ∷ xs) ys first second = (first.0, every-append P xs ys first.1 second)

pub every-take : {A : Type 0} (P : A → Type 0) (n : ℕ) (xs : List A) → AllByRecursion P xs → AllByRecursion P (take n xs)
every-take P zero xs all = tt
every-take P (suc n) [] all = tt
every-take P (suc n) (x ∷ xs) all = (all.0, every-take P n xs all.1)

pub every-drop : {A : Type 0} (P : A → Type 0) (n : ℕ) (xs : List A) → AllByRecursion P xs → AllByRecursion P (drop n xs)
every-drop P zero xs all = all
every-drop P (suc n) [] all = tt
every-drop P (suc n) (x ∷ xs) all = every-drop P n xs all.1

pub every-remove : {A : Type 0} (P : A → Type 0) (xs : List A) (n : ℕ) → AllByRecursion P xs → AllByRecursion P (remove xs n)
every-remove P xs n all = every-append P (take n xs) (drop (suc n) xs) (every-take P n xs all) (every-drop P (suc n) xs all)

pub every-set : {A : Type 0} (P : A → Type 0) (xs : List A) (n : ℕ) (y : A) → P y → AllByRecursion P xs → AllByRecursion P (slice_set xs n y)
every-set P [] n y here all = tt
every-set P (x ∷ xs) zero y here all = (here, all.1)
every-set P (x ∷ xs) (suc n) y here all = (all.0, every-set P xs n y here all.1)

pub every-replicate : {A : Type 0} (P : A → Type 0) (n : ℕ) (x : A) → P x → AllByRecursion P (replicate n x)
every-replicate P zero x here = tt
every-replicate P (suc n) x here = (here, every-replicate P n x here)
