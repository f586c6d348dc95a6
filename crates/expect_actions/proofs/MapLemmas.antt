-- A list of breaks is a map.
use Rattle.std.proofs.Common.{slice_get, option_map, ◌≡◌, ℕ, ◌||◌, ◌&&◌, suc, not, eqb, ltb, leb, Bool, true, false, cond, zero, is_some, List, [], ◌∷◌, ◌++◌, filter, Option, Some, None, refl, sym, ap, ◌∙◌, inl, inr, arith}
use Rattle.std.proofs.lemmas.Bool.{eqb-true, eq-eqb, ne_eqb, lt-ltb, le-ltb, cases_lt, cases_eq}
use Rattle.expect_actions.specs.declared.breaks.Break.{Break}
use Rattle.expect_actions.specs.Breaks.{is_at, has_break, with_break, without_break, lowered, tested, stops, stop_at, stops_now, Rising, break_of, BreaksAreAMap}
use Rattle.expect_actions.proofs.BreakLemmas.{below, above, yes, otherwise, elim_false, not_at, none_at, higher_still, later, position_cons, stop_none}

has_by : (v rest : Bool) (b : Break) (found : Option Break) → rest ≡ is_some found → (v || rest) ≡ is_some (cond v (Some b) found)
has_by true rest b found is = refl
has_by false rest b found is = is

has_is : (a : ℕ) (list : List Break) → has_break a list ≡ is_some (break_of a list)
has_is a [] = refl
has_is a (b ∷ list) = has_by (is_at a b) (has_break a list) b (break_of a list) (has_is a list)

-- ---- lists of which some were taken
kept_step : (x y : Bool) (a : ℕ) (b : Break) (list : List Break) (found : Option Break) → is_at a b ≡ y → (y ≡ true → x ≡ true) → break_of a list ≡ found
    → break_of a (cond x (b ∷ list) list) ≡ cond y (Some b) found
kept_step true y a b list found at keeps is =
    ap (λ (v : Bool). cond v (Some b) (break_of a list)) at ∙ ap (λ (o : Option Break). cond y (Some b) o) is
kept_step false true a b list found at keeps is = absurd (elim_false (sym (keeps refl)))
kept_step false false a b list found at keeps is = is

all_found : (p : Break → Bool) (a : ℕ) (list : List Break) → ((b : Break) → b.address ≡ a → p b ≡ true) → break_of a (filter p list) ≡ break_of a list
all_found p a [] keeps = refl
all_found p a (b ∷ list) keeps =
    kept_step (p b) (is_at a b) a b (filter p list) (break_of a list) refl (λ at. keeps b (eqb-true b.address a at)) (all_found p a list keeps)

left_step : (x y : Bool) (a : ℕ) (b : Break) (list rest : List Break) → is_at a b ≡ y → (y ≡ true → x ≡ false) → break_of a (list ++ rest) ≡ break_of a rest
    → break_of a (cond x (b ∷ list) list ++ rest) ≡ break_of a rest
left_step true true a b list rest at leaves is = absurd (elim_false (leaves refl))
left_step true false a b list rest at leaves is = ap (λ (v : Bool). cond v (Some b) (break_of a (list ++ rest))) at ∙ is
left_step false y a b list rest at leaves is = is

-- none at that address was taken
none_found : (p : Break → Bool) (a : ℕ) (list rest : List Break) → ((b : Break) → b.address ≡ a → p b ≡ false) → break_of a (filter p list ++ rest) ≡ break_of a rest
none_found p a [] rest leaves = refl
none_found p a (b ∷ list) rest leaves =
    left_step (p b) (is_at a b) a b (filter p list) rest refl (λ at. leaves b (eqb-true b.address a at)) (none_found p a list rest leaves)

nothing_behind : (a : ℕ) (list rest : List Break) → break_of a rest ≡ None → break_of a (list ++ rest) ≡ break_of a list
nothing_behind a [] rest none = none
nothing_behind a (b ∷ list) rest none = ap (λ (o : Option Break). cond (is_at a b) (Some b) o) (nothing_behind a list rest none)

nothing_taken : (p : Break → Bool) (a : ℕ) (list : List Break) → ((b : Break) → b.address ≡ a → p b ≡ false) → break_of a (filter p list) ≡ None
nothing_taken p a [] leaves = refl
nothing_taken p a (b ∷ list) leaves = nothing_step (p b) (is_at a b) a b (filter p list) refl (λ at. leaves b (eqb-true b.address a at)) (nothing_taken p a list leaves)
  where
    nothing_step : (x y : Bool) (a : ℕ) (b : Break) (list : List Break) → is_at a b ≡ y → (y ≡ true → x ≡ false) → break_of a list ≡ None → break_of a (cond x (b ∷ list) list) ≡ None
    nothing_step true true a b list at leaves is = absurd (elim_false (leaves refl))
    nothing_step true false a b list at leaves is = ap (λ (v : Bool). cond v (Some b) (break_of a list)) at ∙ is
    nothing_step false y a b list at leaves is = is

-- ---- a break is put, and removed
put_is : (a : ℕ) (new : Break) (list : List Break) → break_of a (with_break new list) ≡ cond (is_at a new) (Some new) (break_of a list)
put_is a new list =
    let n = new.address in
    let low = below n list in
    let high = above n list in
    elim (cases_lt a n) [
      | inl less ↦
          let other = not_at a n (λ same. omega (arith, less, same)) in
          let none : break_of a high ≡ None = nothing_taken (λ (b : Break). ltb n b.address) a list (λ b at. le-ltb n b.address (omega (arith, at, less))) in
          nothing_behind a low (new ∷ high) (otherwise (is_at a new) (Some new) (break_of a high) other ∙ none)
          ∙ all_found (λ (b : Break). ltb b.address n) a list (λ b at. lt-ltb b.address n (omega (arith, at, less)))
          ∙ sym (otherwise (is_at a new) (Some new) (break_of a list) other)
      | inr more ↦
          none_found (λ (b : Break). ltb b.address n) a list (new ∷ high) (λ b at. le-ltb b.address n (omega (arith, at, more)))
          ∙ elim (cases_eq n a) [
            | inl same ↦
                let here = eq-eqb n a same in
                yes (is_at a new) (Some new) (break_of a high) here ∙ sym (yes (is_at a new) (Some new) (break_of a list) here)
            | inr other ↦
                ap (λ (o : Option Break). cond (is_at a new) (Some new) o)
                (all_found (λ (b : Break). ltb n b.address) a list (λ b at. lt-ltb n b.address (omega (arith, at, more, other))))
          ]
    ]

removed_is : (a gone : ℕ) (list : List Break) → break_of a (without_break gone list) ≡ cond (eqb gone a) None (break_of a list)
removed_is a gone list =
    elim (cases_eq gone a) [
      | inl same ↦
          nothing_taken (λ (b : Break). not (is_at gone b)) a list (λ b at. ap not (eq-eqb b.address gone (at ∙ sym same)))
          ∙ sym (yes (eqb gone a) None (break_of a list) (eq-eqb gone a same))
      | inr other ↦
          all_found (λ (b : Break). not (is_at gone b)) a list (λ b at. ap not (not_at gone b.address (λ s. other (sym s ∙ at))))
          ∙ sym (otherwise (eqb gone a) None (break_of a list) (ne_eqb gone a other))
    ]

-- ---- a test
same_step : (v : Bool) (a : ℕ) (b : Break) (rest found : Option Break) → is_at a b ≡ v → rest ≡ option_map lowered found
    → cond (is_at a (cond v (lowered b) b)) (Some (cond v (lowered b) b)) rest ≡ option_map lowered (cond v (Some b) found)
same_step true a b rest found at is = yes (is_at a b) (Some (lowered b)) rest at
same_step false a b rest found at is = otherwise (is_at a b) (Some b) rest at ∙ is

tested_same : (a : ℕ) (list : List Break) → break_of a (tested a list) ≡ option_map lowered (break_of a list)
tested_same a [] = refl
tested_same a (b ∷ list) = same_step (is_at a b) a b (break_of a (tested a list)) (break_of a list) refl (tested_same a list)

other_step : (v : Bool) (at a : ℕ) (b : Break) (rest found : Option Break) → (at ≡ a → ⊥) → is_at at b ≡ v → rest ≡ found
    → cond (is_at a (cond v (lowered b) b)) (Some (cond v (lowered b) b)) rest ≡ cond (is_at a b) (Some b) found
other_step true at a b rest found other here is =
    let never : is_at a b ≡ false = not_at a b.address (λ same. other (sym (eqb-true b.address at here) ∙ same)) in
    otherwise (is_at a b) (Some (lowered b)) rest never ∙ is ∙ sym (otherwise (is_at a b) (Some b) found never)
other_step false at a b rest found other here is = ap (λ (o : Option Break). cond (is_at a b) (Some b) o) is

tested_other : (at a : ℕ) (list : List Break) → (at ≡ a → ⊥) → break_of a (tested at list) ≡ break_of a list
tested_other at a [] other = refl
tested_other at a (b ∷ list) other = other_step (is_at at b) at a b (break_of a (tested at list)) (break_of a list) other refl (tested_other at a list other)

tested_is : (a at : ℕ) (list : List Break) → break_of a (tested at list) ≡ cond (eqb at a) (option_map lowered (break_of a list)) (break_of a list)
tested_is a at list =
    elim (cases_eq at a) [
      | inl same ↦
          ap (λ (n : ℕ). break_of a (tested n list)) same ∙ tested_same a list
          ∙ sym (yes (eqb at a) (option_map lowered (break_of a list)) (break_of a list) (eq-eqb at a same))
      | inr other ↦
          tested_other at a list other
          ∙ sym (otherwise (eqb at a) (option_map lowered (break_of a list)) (break_of a list) (ne_eqb at a other))
    ]

later_some : (o : Option ℕ) → is_some (later o) ≡ is_some o
later_some None = refl
later_some (Some k) = refl

first_if : (v : Bool) → is_some {T = ℕ} (cond v (Some 0) None) ≡ v
first_if true = refl
first_if false = refl

stops_step : (v : Bool) (a : ℕ) (b : Break) (list : List Break) → is_at a b ≡ v → Rising (b ∷ list) → is_some (stop_at a list) ≡ stops_now (break_of a list)
    → is_some (cond (v && leb b.count 1) (Some 0) (later (stop_at a list))) ≡ stops_now (cond v (Some b) (break_of a list))
stops_step true a b list here rising is =
    let at : b.address ≡ a = eqb-true b.address a here in
    let none = stop_none a list (none_at a list (higher_still a b.address list (omega (arith, at)) rising.0)) in
    ap (λ (o : Option ℕ). is_some (cond (leb b.count 1) (Some 0) (later o))) none ∙ first_if (leb b.count 1)
stops_step false a b list here rising is = later_some (stop_at a list) ∙ is

stops_is : (a : ℕ) (list : List Break) → Rising list → is_some (stop_at a list) ≡ stops_now (break_of a list)
stops_is a [] rising = refl
stops_is a (b ∷ list) rising =
    ap is_some (position_cons (stops a) b list) ∙ stops_step (is_at a b) a b list refl rising (stops_is a list rising.1)

place_step : (v w : Bool) (o : Option ℕ) (b : Break) (list : List Break) (found : Option Break) (k : ℕ) → ((j : ℕ) → o ≡ Some j → (v ≡ false) × (slice_get list j ≡ found))
    → cond (v && w) (Some 0) (later o) ≡ Some k → slice_get (b ∷ list) k ≡ cond v (Some b) found
place_step true true o b list found zero gives is = refl
place_step true true o b list found (suc k) gives is = absurd (cc)
place_step true false None b list found k gives is = absurd (cc)
place_step true false (Some j) b list found k gives is = absurd (elim_false ((gives j refl).0))
place_step false w None b list found k gives is = absurd (cc)
place_step false w (Some j) b list found zero gives is = absurd (cc)
place_step false w (Some j) b list found (suc k) gives is =
    let same : Some (suc j) ≡ Some (suc k) = is in
    let inner : j ≡ k = cc in
    ap (slice_get list) (sym inner) ∙ (gives j refl).1

-- a stop behind the first is at no address of the first
behind_first : (v : Bool) (a : ℕ) (b : Break) (list : List Break) (j : ℕ) → is_at a b ≡ v → Rising (b ∷ list) → stop_at a list ≡ Some j → v ≡ false
behind_first false a b list j here rising is = refl
behind_first true a b list j here rising is =
    let at : b.address ≡ a = eqb-true b.address a here in
    let none = stop_none a list (none_at a list (higher_still a b.address list (omega (arith, at)) rising.0)) in
    absurd (cc)

place_is : (a : ℕ) (list : List Break) (k : ℕ) → Rising list → stop_at a list ≡ Some k → slice_get list k ≡ break_of a list
place_is a [] k rising is = absurd (cc)
place_is a (b ∷ list) k rising is =
    place_step (is_at a b) (leb b.count 1) (stop_at a list) b list (break_of a list) k
    (λ j at. (behind_first (is_at a b) a b list j refl rising at, place_is a list j rising.1 at))
    (sym (position_cons (stops a) b list) ∙ is)

pub are_a_map : BreaksAreAMap
are_a_map = record {
  has = has_is;
  put = put_is;
  removed = removed_is;
  after_test = tested_is;
  stop = stops_is;
  place = place_is;
}
