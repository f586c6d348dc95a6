-- The table of places: what it says of a code, and how a search for the first unit with one fills it.
use Rattle.std.proofs.Common.{◌≡◌, ◌≢◌, ℕ, ◌+◌, ◌<◌, ◌≤◌, zero, suc, List, [], ◌∷◌, ◌++◌, length, map, take, get_or, slice_set, None, true, add-one, refl, subst, sym, ap, ◌∙◌, arith}
use Rattle.std.specs.Prelude.{slice_index, is_some}
use Rattle.std.specs.List.{range_with_len}
use Rattle.std.proofs.Math.Seq.{take-length}
use Rattle.std.proofs.lemmas.List.{take_more_set}
use Rattle.std.proofs.lemmas.List.FromFn.{get_or-map-range_with_len, map-range_with_len_more}
use Rattle.std.proofs.lemmas.Bool.Decides.{nat_tests}
use Rattle.unit_trait.specs.declared.kind.Kind.{Kind}
use Rattle.unit_trait.specs.Kinds.{code_of}
use Rattle.unit_trait.specs.Calls.{UnitState}
use Rattle.unit_trait.proofs.EveryKind.{every-kind}
use Rattle.unit_list.specs.Bus.{unit_at, kinds_of}
use Rattle.unit_list.specs.Places.{StandsAt, place_in, places_in}
use Rattle.unit_list.proofs.Standing.{behind-other}

first-is : (code : ℕ) (kind : Kind) (kinds : List Kind) → place_in code (kind ∷ kinds) ≡ 0 → code_of kind ≡ code
first-is code kind kinds first = grind (arith, nat_tests)

first-not : (code place : ℕ) (kind : Kind) (kinds : List Kind) → place_in code (kind ∷ kinds) ≡ suc place → code_of kind ≢ code
first-not code place kind kinds later = λ same. grind (arith, nat_tests)

here : (code : ℕ) (kind : Kind) (kinds : List Kind) → code_of kind ≡ code → place_in code (kind ∷ kinds) ≡ 0
here code kind kinds same = grind (arith, nat_tests)

behind : (code : ℕ) (kind : Kind) (kinds : List Kind) → code_of kind ≢ code → place_in code (kind ∷ kinds) ≡ suc (place_in code kinds)
behind code kind kinds other = grind (arith, nat_tests)

behind-place : (code place : ℕ) (kind : Kind) (kinds : List Kind) → place_in code (kind ∷ kinds) ≡ suc place → place_in code kinds ≡ place
behind-place code place kind kinds later =
    let next = behind code kind kinds (first-not code place kind kinds later) in
    omega (arith, next, later)

-- none of the first units has the code, nor has the next one
more-suc : {A : Type 0} (f : A → UnitState) (xs : List A) (code i : ℕ) (x : A) → place_in code (kinds_of (map f (take i xs))) ≡ i → i < length xs → x ≡ get_or xs i x
    → code_of (f x).kind ≢ code → place_in code (kinds_of (map f (take (suc i) xs))) ≡ suc i
more-suc f [] code i x none within at other = absurd (omega arith)
more-suc f (a ∷ xs) code zero x none within at other =
    behind code (f a).kind [] (subst (λ y. code_of (f y).kind ≢ code) at other)
more-suc f (a ∷ xs) code (suc i) x none within at other =
    let first = kinds_of (map f (take i xs)) in
    behind code (f a).kind (kinds_of (map f (take (suc i) xs))) (first-not code i (f a).kind first none)
    ∙ ap suc (more-suc f xs code i x (behind-place code i (f a).kind first none) (omega arith) at other)

pub none-more : {A : Type 0} (f : A → UnitState) (xs : List A) (code i : ℕ) (x : A) → place_in code (kinds_of (map f (take i xs))) ≡ i → i < length xs → x ≡ get_or xs i x
    → code_of (f x).kind ≢ code → place_in code (kinds_of (map f (take (i + 1) xs))) ≡ i + 1
none-more f xs code i x none within at other = rw add-one (more-suc f xs code i x none within at other)

-- .. and the next one has it
pub first-here : {A : Type 0} (f : A → UnitState) (xs : List A) (code i : ℕ) (x : A) → place_in code (kinds_of (map f (take i xs))) ≡ i → i < length xs → x ≡ get_or xs i x
    → code_of (f x).kind ≡ code → i ≡ place_in code (kinds_of (map f xs))
first-here f [] code i x none within at same = absurd (omega arith)
first-here f (a ∷ xs) code zero x none within at same =
    sym (here code (f a).kind (kinds_of (map f xs)) (subst (λ y. code_of (f y).kind ≡ code) at same))
first-here f (a ∷ xs) code (suc i) x none within at same =
    let first = kinds_of (map f (take i xs)) in
    ap suc (first-here f xs code i x (behind-place code i (f a).kind first none) (omega arith) at same)
    ∙ sym (behind code (f a).kind (kinds_of (map f xs)) (first-not code i (f a).kind first none))

-- a place within the list is that of the first unit with the code
pub stands-there : {A : Type 0} (f : A → UnitState) (xs : List A) (code place : ℕ) → place ≡ place_in code (kinds_of (map f xs)) → place < length xs → StandsAt code (map f xs) place
stands-there f [] code place at within = absurd (omega arith)
stands-there f (a ∷ xs) code zero at within = first-is code (f a).kind (kinds_of (map f xs)) (sym at)
stands-there f (a ∷ xs) code (suc place) at within = (
  first-not code place (f a).kind (kinds_of (map f xs)) (sym at),
  stands-there f xs code place (sym (behind-place code place (f a).kind (kinds_of (map f xs)) (sym at))) (omega arith),
)

-- .. and a unit that stands in the list is found
pub found-there : (code : ℕ) (us : List UnitState) (place : ℕ) → StandsAt code us place → is_some (unit_at code us) ≡ true
found-there code [] place there = absurd there
found-there code (u ∷ us) zero there = grind (arith, nat_tests)
found-there code (u ∷ us) (suc place) there = ap is_some (behind-other code u us there.0) ∙ found-there code us place there.1

-- a place behind the list says that no unit has the code
pub none-there : {A : Type 0} (f : A → UnitState) (xs : List A) (code : ℕ) → length xs ≤ place_in code (kinds_of (map f xs)) → unit_at code (map f xs) ≡ None
none-there f [] code far = refl
none-there f (a ∷ xs) code far =
    let kinds = kinds_of (map f xs) in
    let other : code_of (f a).kind ≢ code = λ same. absurd (omega (arith, here code (f a).kind kinds same, far)) in
    behind-other code (f a) (map f xs) other ∙ none-there f xs code (omega (arith, behind code (f a).kind kinds other, far))

-- no unit has a code above the bus
code-low : (kind : Kind) → code_of kind < 64
code-low kind =
    every-kind (λ (k : Kind). code_of k < 64)
    (omega arith, omega arith, omega arith, omega arith, omega arith, omega arith, omega arith, omega arith, omega arith, omega arith, omega arith)
    kind

pub none-high : (code : ℕ) (us : List UnitState) → 64 ≤ code → unit_at code us ≡ None
none-high code [] high = refl
none-high code (u ∷ us) high =
    let other : code_of u.kind ≢ code = λ same. absurd (omega (arith, code-low u.kind, same, high)) in
    behind-other code u us other ∙ none-high code us high

-- what the table says of a code
said : (kinds : List Kind) (code : ℕ) → code < 64 → slice_index (places_in kinds) code ≡ place_in code kinds
unfolding places_in
said kinds code low = get_or-map-range_with_len (λ c. place_in c kinds) 0 64 code code 0 low (omega arith)

-- the table is filled code by code
pub filled-more : (f : ℕ → ℕ) (table : List ℕ) (code index place : ℕ) → take code table ≡ map f (range_with_len 0 code) → code < length table → index ≡ code → place ≡ f code
    → take (code + 1) (slice_set table index place) ≡ map f (range_with_len 0 (code + 1))
filled-more f table code index place done within same is =
    ap (λ i. take (code + 1) (slice_set table i place)) same
    ∙ take_more_set table code place within
    ∙ ap (λ places. places ++ place ∷ []) done
    ∙ ap (λ p. map f (range_with_len 0 code) ++ p ∷ []) is
    ∙ sym (map-range_with_len_more f 0 code code (omega arith))

pub filled : (kinds : List Kind) (table : List ℕ) (code : ℕ) → take code table ≡ map (λ c. place_in c kinds) (range_with_len 0 code) → length table ≡ 64 → code ≡ 64
    → table ≡ places_in kinds
unfolding places_in
filled kinds table code done whole end =
    sym (take-length table)
    ∙ ap (λ n. take n table) (whole ∙ sym end)
    ∙ done
    ∙ ap (λ n. map (λ c. place_in c kinds) (range_with_len 0 n)) end

-- what a table that is right says of a code
pub table-at : (kinds : List Kind) (table places : List ℕ) (code index : ℕ) → index ≡ code → code < 64 → table ≡ places → places ≡ places_in kinds
    → slice_index table index ≡ place_in code kinds
table-at kinds table places code index same low view right =
    ap (λ i. slice_index table i) same ∙ ap (λ t. slice_index t code) (view ∙ right) ∙ said kinds code low
