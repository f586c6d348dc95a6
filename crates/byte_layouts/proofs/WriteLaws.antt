-- A list that is written element by element.
use Rattle.std.proofs.Common.{◌≡◌, ℕ, List, [], ◌∷◌, ◌++◌, refl}
use Rattle.std.specs.Prelude.{map}
use Rattle.std.specs.List.{flat_map, AllByRecursion}
use Rattle.byte_layouts.specs.Layout.{texts, Follow}
use Rattle.byte_layouts.specs.Readers.{with_last}

pub flat_texts : {A : Type 0} (t : List A → A → List ℕ) (u : A → List ℕ) → ((front : List A) (x : A) → t front x ≡ u x) → (front xs : List A) → texts t with_last front xs ≡ flat_map u xs
flat_texts t u same front [] = refl
flat_texts t u same front (x ∷ xs) = λ i. same front x i ++ flat_texts t u same (with_last front x) xs i

pub each_fits : {X A : Type 0} (view : X → A) (F : List A → A → Type 0) (G : A → Type 0) → ((front : List A) (x : A) → F front x → G x) → (front : List A) (xs : List X) → Follow F with_last front (map view xs)
    → AllByRecursion (λ (x : X). G (view x)) xs
each_fits view F G one front [] fits = tt
each_fits view F G one front (x ∷ xs) fits = (one front (view x) fits.0, each_fits view F G one (with_last front (view x)) xs fits.1)

-- where all fit
pub all_fit : {A : Type 0} (F : List A → A → Type 0) → ((front : List A) (x : A) → F front x) → (front xs : List A) → Follow F with_last front xs
all_fit F fits front [] = tt
all_fit F fits front (x ∷ xs) = (fits front x, all_fit F fits (with_last front x) xs)
