-- Things that are units, in a list: the place of the first one with a code, and what a change of it comes to.
use Rattle.std.proofs.Common.{◌≡◌, ◌≢◌, ℕ, zero, suc, List, [], ◌∷◌, map, get_or, slice_set, Some, None, refl, sym, ap, ◌∙◌, arith}
use Rattle.std.proofs.lemmas.Bool.Decides.{nat_tests}
use Rattle.unit_trait.specs.declared.kind.Kind.{Kind}
use Rattle.unit_trait.specs.Kinds.{code_of}
use Rattle.unit_trait.specs.Calls.{UnitState}
use Rattle.unit_trait.specs.Row.{Fits}
use Rattle.unit_trait.proofs.Codes.{same-code}
use Rattle.unit_list.specs.Bus.{unit_at, changed_at, kinds_of, AllFit}
use Rattle.unit_list.specs.Places.{StandsAt}

-- where none is found, the first one has another code
first-other : (code : ℕ) (u : UnitState) (us : List UnitState) → unit_at code (u ∷ us) ≡ None → code_of u.kind ≢ code
first-other code u us none = λ same. grind (arith, nat_tests)

-- behind one with another code, the rest alone counts
pub behind-other : (code : ℕ) (u : UnitState) (us : List UnitState) → code_of u.kind ≢ code → unit_at code (u ∷ us) ≡ unit_at code us
behind-other code u us other = grind (arith, nat_tests)

first-found : (code : ℕ) (u : UnitState) (us : List UnitState) → code_of u.kind ≡ code → unit_at code (u ∷ us) ≡ Some u
first-found code u us here = grind (arith, nat_tests)

first-changed : (code : ℕ) (change : UnitState → UnitState) (u : UnitState) (us : List UnitState) → code_of u.kind ≡ code → changed_at code change (u ∷ us) ≡ change u ∷ us
first-changed code change u us here = grind (arith, nat_tests)

behind-changed : (code : ℕ) (change : UnitState → UnitState) (u : UnitState) (us : List UnitState) → code_of u.kind ≢ code → changed_at code change (u ∷ us) ≡ u ∷ changed_at code change us
behind-changed code change u us other = grind (arith, nat_tests)

-- the one that stands there is the one that is found
pub found : {A : Type 0} (f : A → UnitState) (xs : List A) (code i : ℕ) (x : A) → StandsAt code (map f xs) i → x ≡ get_or xs i x → unit_at code (map f xs) ≡ Some (f x)
found f [] code i x there at = absurd there
found f (a ∷ xs) code zero x there at = first-found code (f a) (map f xs) there ∙ ap (λ y. Some (f y)) (sym at)
found f (a ∷ xs) code (suc i) x there at = behind-other code (f a) (map f xs) there.0 ∙ found f xs code i x there.1 at

-- a change of it is one of the units
pub changed : {A : Type 0} (f : A → UnitState) (xs : List A) (code i : ℕ) (x y : A) (change : UnitState → UnitState) → StandsAt code (map f xs) i → x ≡ get_or xs i x
    → f y ≡ change (f x) → map f (slice_set xs i y) ≡ changed_at code change (map f xs)
changed f [] code i x y change there at becomes = absurd there
changed f (a ∷ xs) code zero x y change there at becomes =
    ap (λ u. u ∷ map f xs) (becomes ∙ ap (λ z. change (f z)) at) ∙ sym (first-changed code change (f a) (map f xs) there)
changed f (a ∷ xs) code (suc i) x y change there at becomes =
    ap (λ us. f a ∷ us) (changed f xs code i x y change there.1 at becomes) ∙ sym (behind-changed code change (f a) (map f xs) there.0)

-- no unit changes where none is found
pub changed-none : (code : ℕ) (change : UnitState → UnitState) (us : List UnitState) → unit_at code us ≡ None → changed_at code change us ≡ us
changed-none code change [] none = refl
changed-none code change (u ∷ us) none =
    let off = first-other code u us none in
    behind-changed code change u us off ∙ ap (λ rest. u ∷ rest) (changed-none code change us (sym (behind-other code u us off) ∙ none))

pub found-kind : {A : Type 0} (f : A → UnitState) (xs : List A) (kind : Kind) (i : ℕ) (x : A) → StandsAt (code_of kind) (map f xs) i → x ≡ get_or xs i x → (f x).kind ≡ kind
found-kind f [] kind i x there at = absurd there
found-kind f (a ∷ xs) kind zero x there at = ap (λ y. (f y).kind) at ∙ same-code (f a).kind kind there
found-kind f (a ∷ xs) kind (suc i) x there at = found-kind f xs kind i x there.1 at

-- one unit is replaced by another whose registers fit
pub fits-set : {A : Type 0} (f : A → UnitState) (xs : List A) (i : ℕ) (y : A) → AllFit (map f xs) → Fits (f y) → AllFit (map f (slice_set xs i y))
fits-set f [] i y all fits = tt
fits-set f (a ∷ xs) zero y all fits = (fits, all.1)
fits-set f (a ∷ xs) (suc i) y all fits = (all.0, fits-set f xs i y all.1 fits)

-- .. and by one of its kind
pub kinds-set : {A : Type 0} (f : A → UnitState) (xs : List A) (i : ℕ) (x y : A) → x ≡ get_or xs i x → (f y).kind ≡ (f x).kind → kinds_of (map f (slice_set xs i y)) ≡ kinds_of (map f xs)
kinds-set f [] i x y at same = refl
kinds-set f (a ∷ xs) zero x y at same = ap (λ kind. kind ∷ kinds_of (map f xs)) (same ∙ ap (λ z. (f z).kind) at)
kinds-set f (a ∷ xs) (suc i) x y at same = ap (λ kinds. (f a).kind ∷ kinds) (kinds-set f xs i x y at same)

-- .. and by one that is the same
pub same-set : {A : Type 0} (f : A → UnitState) (xs : List A) (i : ℕ) (x y : A) → x ≡ get_or xs i x → f y ≡ f x → map f (slice_set xs i y) ≡ map f xs
same-set f [] i x y at same = refl
same-set f (a ∷ xs) zero x y at same = ap (λ u. u ∷ map f xs) (same ∙ ap f at)
same-set f (a ∷ xs) (suc i) x y at same = ap (λ us. f a ∷ us) (same-set f xs i x y at same)

pub ruleset standing = (found, changed, changed-none, found-kind, fits-set, kinds-set, same-set)
