-- Lists of breaks in rising address.
use Rattle.std.proofs.Common.{unwrap_or, option_map, slice_get, ◌≡◌, ℕ, ◌+◌, ◌<◌, ◌≤◌, ◌||◌, ◌&&◌, suc, not, eqb, ltb, leb, Bool, true, false, cond, zero, List, [], ◌∷◌, ◌++◌, filter, length, get_or, set, drop, insert, Option, Some, None, refl, sym, ap, ◌∙◌, subst, inl, inr, arith}
use Rattle.std.specs.List.{AllByRecursion, list_any, position, prefix_len, count_by}
use Rattle.std.proofs.lemmas.Bool.{cond_both, eqb-true, eq-eqb, ne_eqb, ltb-true, lt-ltb, le-ltb, cases_lt, cases_eq}
use Rattle.std.proofs.lemmas.Bool.Decides.{nat_tests}
use Rattle.std.proofs.lemmas.List.{take_at, drop_at, length-set, get_or-set_same, get_or-set_other}
use Rattle.std.proofs.lemmas.List.Sums.{length-filter}
use Rattle.expect_actions.specs.declared.breaks.Break.{Break}
use Rattle.expect_actions.specs.Breaks.{is_at, has_break, with_break, without_break, lowered, tested, stops, stop_at, stopped_actions, Rising, AreMarks, NoMarks}

abbrev pub below : ℕ → List Break → List Break
below a list = filter (λ (b : Break). ltb b.address a) list

abbrev pub above : ℕ → List Break → List Break
above a list = filter (λ (b : Break). ltb a b.address) list

abbrev pub Above : ℕ → List Break → Type 0
Above a list = AllByRecursion (λ (b : Break). a < b.address) list

-- ---- choices
pub yes : {A : Type 0} (v : Bool) (x y : A) → v ≡ true → cond v x y ≡ x
yes true x y is = refl
yes false x y is = absurd (cc)

pub otherwise : {A : Type 0} (v : Bool) (x y : A) → v ≡ false → cond v x y ≡ y
otherwise true x y is = absurd (cc)
otherwise false x y is = refl

not_true : (v : Bool) → (v ≡ true → ⊥) → v ≡ false
not_true true never = absurd (never refl)
not_true false never = refl

or_left : (v w : Bool) → (v || w) ≡ false → v ≡ false
or_left true w is = absurd (cc)
or_left false w is = refl

or_right : (v w : Bool) → (v || w) ≡ false → w ≡ false
or_right true w is = absurd (cc)
or_right false w is = is

pub elim_false : true ≡ false → ⊥
elim_false is = absurd (cc)

or_true : (v : Bool) → (v || true) ≡ true
or_true true = refl
or_true false = refl

-- ---- what is higher
pub higher_still : (a n : ℕ) (list : List Break) → a ≤ n → Above n list → Above a list
higher_still a n [] less all = tt
higher_still a n (b ∷ list) less all = (omega (arith, all.0, less), higher_still a n list less all.1)

none_below : (a : ℕ) (list : List Break) → Above a list → below a list ≡ []
none_below a [] all = refl
none_below a (b ∷ list) all =
    otherwise (ltb b.address a) (b ∷ below a list) (below a list) (le-ltb b.address a (omega (arith, all.0))) ∙ none_below a list all.1

pub not_at : (a n : ℕ) → (n ≡ a → ⊥) → eqb n a ≡ false
not_at a n other = ne_eqb n a other

pub none_at : (a : ℕ) (list : List Break) → Above a list → has_break a list ≡ false
none_at a [] all = refl
none_at a (b ∷ list) all =
    ap (λ (v : Bool). v || has_break a list) (not_at a b.address (λ same. omega (arith, all.0, same))) ∙ none_at a list all.1

-- ---- without a break
pub all_kept : (a : ℕ) (list : List Break) → has_break a list ≡ false → without_break a list ≡ list
all_kept a [] absent = refl
all_kept a (b ∷ list) absent =
    let here : is_at a b ≡ false = or_left (is_at a b) (has_break a list) absent in
    let kept = all_kept a list (or_right (is_at a b) (has_break a list) absent) in
    yes (not (is_at a b)) (b ∷ without_break a list) (without_break a list) (ap not here) ∙ ap (λ (xs : List Break). b ∷ xs) kept

pub without_is : (a : ℕ) (list : List Break) → Rising list → without_break a list ≡ below a list ++ above a list
without_is a [] rising = refl
without_is a (b ∷ list) rising =
    let rest = without_is a list rising.1 in
    elim (cases_lt b.address a) [
      | inl low ↦
          rw (not_at a b.address (λ same. omega (arith, low, same)), lt-ltb b.address a low, le-ltb a b.address (omega (arith, low)))
          (ap (λ (xs : List Break). b ∷ xs) rest)
      | inr high ↦ elim (cases_eq b.address a) [
        | inl same ↦
            rw (eq-eqb b.address a same, le-ltb b.address a high, le-ltb a b.address (omega (arith, same))) rest
        | inr other ↦
            let up : a < b.address = omega (arith, high, other) in
            let none = none_below a list (higher_still a b.address list (omega (arith, high)) rising.0) in
            rw (not_at a b.address other, le-ltb b.address a high, lt-ltb a b.address up)
            (ap (λ (xs : List Break). b ∷ xs) (rest ∙ ap (λ (xs : List Break). xs ++ above a list) none)
            ∙ ap (λ (xs : List Break). xs ++ b ∷ above a list) (sym none))
      ]
    ]

gone_by : (v : Bool) (a : ℕ) (b : Break) (kept : List Break) → is_at a b ≡ v → has_break a kept ≡ false → has_break a (cond (not v) (b ∷ kept) kept) ≡ false
gone_by true a b kept is rest = rest
gone_by false a b kept is rest = ap (λ (v : Bool). v || has_break a kept) is ∙ rest

pub gone : (a : ℕ) (list : List Break) → has_break a (without_break a list) ≡ false
gone a [] = refl
gone a (b ∷ list) = gone_by (is_at a b) a b (without_break a list) refl (gone a list)

other_by : (v : Bool) (x a : ℕ) (b : Break) (kept list : List Break) → (x ≡ a → ⊥) → is_at a b ≡ v → has_break x kept ≡ has_break x list
    → has_break x (cond (not v) (b ∷ kept) kept) ≡ has_break x (b ∷ list)
other_by true x a b kept list other is rest =
    let at : b.address ≡ a = eqb-true b.address a is in
    let never : is_at x b ≡ false = not_at x b.address (λ same. other (sym same ∙ at)) in
    rest ∙ ap (λ (v : Bool). v || has_break x list) (sym never)
other_by false x a b kept list other is rest = ap (λ (v : Bool). is_at x b || v) rest

pub others_stay : (x a : ℕ) (list : List Break) → (x ≡ a → ⊥) → has_break x (without_break a list) ≡ has_break x list
others_stay x a [] other = refl
others_stay x a (b ∷ list) other = other_by (is_at a b) x a b (without_break a list) list other refl (others_stay x a list other)

fewer_by : (v : Bool) (a : ℕ) (b : Break) (list kept : List Break) → (v || has_break a list) ≡ true → length kept ≤ length list
    → (has_break a list ≡ true → length kept + 1 ≤ length list) → length (cond (not v) (b ∷ kept) kept) + 1 ≤ length (b ∷ list)
fewer_by true a b list kept there most fewer = omega (arith, most)
fewer_by false a b list kept there most fewer = omega (arith, fewer there)

no_more_by : (v : Bool) (b : Break) (kept list : List Break) → length kept ≤ length list → length (cond v (b ∷ kept) kept) ≤ length (b ∷ list)
no_more_by true b kept list most = omega (arith, most)
no_more_by false b kept list most = omega (arith, most)

pub no_more : (a : ℕ) (list : List Break) → length (without_break a list) ≤ length list
no_more a [] = omega arith
no_more a (b ∷ list) = no_more_by (not (is_at a b)) b (without_break a list) list (no_more a list)

pub fewer : (a : ℕ) (list : List Break) → has_break a list ≡ true → length (without_break a list) + 1 ≤ length list
fewer a [] there = absurd (cc)
fewer a (b ∷ list) there = fewer_by (is_at a b) a b list (without_break a list) there (no_more a list) (fewer a list)

-- ---- rising
all_filter : (P : Break → Type 0) (p : Break → Bool) (list : List Break) → AllByRecursion P list → AllByRecursion P (filter p list)
all_filter P p [] all = tt
all_filter P p (b ∷ list) all =
    cond_both (p b) _ _ (λ (xs : List Break). AllByRecursion P xs) (λ _. (all.0, all_filter P p list all.1)) (λ _. all_filter P p list all.1)

pub rising_filter : (p : Break → Bool) (list : List Break) → Rising list → Rising (filter p list)
rising_filter p [] rising = tt
rising_filter p (b ∷ list) rising =
    cond_both (p b) _ _ (λ (xs : List Break). Rising xs)
    (λ _. (all_filter (λ (c : Break). b.address < c.address) p list rising.0, rising_filter p list rising.1)) (λ _. rising_filter p list rising.1)

passed : (P : Break → Type 0) (p : Break → Bool) → ((b : Break) → p b ≡ true → P b) → (list : List Break) → AllByRecursion P (filter p list)
passed P p gives [] = tt
passed P p gives (b ∷ list) =
    cond_both (p b) _ _ (λ (xs : List Break). AllByRecursion P xs) (λ is. (gives b is, passed P p gives list)) (λ _. passed P p gives list)

all_both : (P : Break → Type 0) (xs ys : List Break) → AllByRecursion P xs → AllByRecursion P ys → AllByRecursion P (xs ++ ys)
all_both P [] ys all others = others
all_both P (x ∷ xs) ys all others = (all.0, all_both P xs ys all.1 others)

from_there : (n a : ℕ) (list : List Break) → n < a → AllByRecursion (λ (b : Break). a ≤ b.address) list → Above n list
from_there n a [] less all = tt
from_there n a (b ∷ list) less all = (omega (arith, less, all.0), from_there n a list less all.1)

not_lower : (a : ℕ) (list : List Break) → Above a list → AllByRecursion (λ (b : Break). a ≤ b.address) list
not_lower a [] all = tt
not_lower a (b ∷ list) all = (omega (arith, all.0), not_lower a list all.1)

rising_both : (a : ℕ) (xs ys : List Break) → Rising xs → AllByRecursion (λ (b : Break). b.address < a) xs → Rising ys → AllByRecursion (λ (b : Break). a ≤ b.address) ys → Rising (xs ++ ys)
rising_both a [] ys rising low others high = others
rising_both a (x ∷ xs) ys rising low others high =
    (all_both (λ (b : Break). x.address < b.address) xs ys rising.0 (from_there x.address a ys low.0 high), rising_both a xs ys rising.1 low.1 others high)

pub rising_with : (new : Break) (list : List Break) → Rising list → Rising (with_break new list)
rising_with new list rising =
    let a = new.address in
    let high : Above a (above a list) = passed (λ (b : Break). a < b.address) (λ (b : Break). ltb a b.address) (λ b is. ltb-true a b.address is) list in
    rising_both a (below a list) (new ∷ above a list) (rising_filter (λ (b : Break). ltb b.address a) list rising)
    (passed (λ (b : Break). b.address < a) (λ (b : Break). ltb b.address a) (λ b is. ltb-true b.address a is) list)
    (high, rising_filter (λ (b : Break). ltb a b.address) list rising)
    (omega arith, not_lower a (above a list) high)

-- ---- put in its place
pub with_put : (new : Break) (n : ℕ) (list : List Break) → Rising list → has_break new.address list ≡ false
    → n ≡ count_by (λ (b : Break). ltb b.address new.address) list → insert list n new ≡ with_break new list
with_put new n list rising absent count =
    let a = new.address in
    let is : list ≡ below a list ++ above a list = sym (all_kept a list absent) ∙ without_is a list rising in
    let long : length (below a list) ≡ n = length-filter (λ (b : Break). ltb b.address a) list ∙ sym count in
    ap (λ (xs : List Break). insert xs n new) is
    ∙ ap (λ (xs : List Break). xs ++ new ∷ drop n (below a list ++ above a list)) (take_at (below a list) (above a list) n long)
    ∙ ap (λ (xs : List Break). below a list ++ new ∷ xs) (drop_at (below a list) (above a list) n long)

twice_by : (v : Bool) (p q : Break → Bool) (b : Break) (list : List Break) → q b ≡ v → (p b ≡ true → q b ≡ true)
    → filter p (filter q list) ≡ filter p list → filter p (cond v (b ∷ filter q list) (filter q list)) ≡ filter p (b ∷ list)
twice_by true p q b list is gives rest = ap (λ (xs : List Break). cond (p b) (b ∷ xs) xs) rest
twice_by false p q b list is gives rest =
    rest ∙ sym (otherwise (p b) (b ∷ filter p list) (filter p list) (not_true (p b) (λ yes_p. elim_false (sym (gives yes_p) ∙ is))))

twice : (p q : Break → Bool) → ((b : Break) → p b ≡ true → q b ≡ true) → (list : List Break) → filter p (filter q list) ≡ filter p list
twice p q gives [] = refl
twice p q gives (b ∷ list) = twice_by (q b) p q b list refl (gives b) (twice p q gives list)

pub with_again : (new : Break) (list : List Break) → with_break new (without_break new.address list) ≡ with_break new list
with_again new list =
    let a = new.address in
    let q : Break → Bool = λ (b : Break). not (is_at a b) in
    let low = twice (λ (b : Break). ltb b.address a) q (λ b is. ap not (not_at a b.address (λ same. omega (arith, ltb-true b.address a is, same)))) list in
    let high = twice (λ (b : Break). ltb a b.address) q (λ b is. ap not (not_at a b.address (λ same. omega (arith, ltb-true a b.address is, same)))) list in
    ap (λ (xs : List Break). xs ++ new ∷ above a (without_break a list)) low ∙ ap (λ (xs : List Break). below a list ++ new ∷ xs) high

-- ---- marks
any_skips : (t : Break → Bool) (new : Break) (xs ys : List Break) → t new ≡ false → list_any t (xs ++ new ∷ ys) ≡ list_any t (xs ++ ys)
any_skips t new [] ys is = ap (λ (v : Bool). v || list_any t ys) is
any_skips t new (x ∷ xs) ys is = ap (λ (v : Bool). t x || v) (any_skips t new xs ys is)

any_here : (t : Break → Bool) (new : Break) (xs ys : List Break) → t new ≡ true → list_any t (xs ++ new ∷ ys) ≡ true
any_here t new [] ys is = ap (λ (v : Bool). v || list_any t ys) is
any_here t new (x ∷ xs) ys is = ap (λ (v : Bool). t x || v) (any_here t new xs ys is) ∙ or_true (t x)

pub marks_with : (new : Break) (marks : List Bool) (list : List Break) → new.address < 32768 → Rising list → AreMarks marks list → AreMarks (set marks new.address true) (with_break new list)
marks_with new marks list low rising are =
    let a = new.address in
    record {
      all = length-set marks a true ∙ are.all;
      exact = λ x within. elim (cases_eq x a) [
        | inl same ↦
            rw same
            (get_or-set_same marks a true false (omega (arith, low, are.all))
            ∙ sym (any_here (is_at a) new (below a list) (above a list) (eq-eqb a a refl)))
        | inr other ↦
            get_or-set_other marks a x true false other ∙ are.exact x within
            ∙ sym (others_stay x a list other)
            ∙ ap (has_break x) (without_is a list rising)
            ∙ sym (any_skips (is_at x) new (below a list) (above a list) (not_at x a (λ same. other (sym same))))
      ];
    }

pub marks_without : (a : ℕ) (marks : List Bool) (list : List Break) → a < 32768 → AreMarks marks list → AreMarks (set marks a false) (without_break a list)
marks_without a marks list low are = record {
  all = length-set marks a false ∙ are.all;
  exact = λ x within. elim (cases_eq x a) [
    | inl same ↦ rw same (get_or-set_same marks a false false (omega (arith, low, are.all)) ∙ sym (gone a list))
    | inr other ↦ get_or-set_other marks a x false false other ∙ are.exact x within ∙ sym (others_stay x a list other)
  ];
}

-- ---- a test
kept_address : (v : Bool) (b : Break) → (cond v (lowered b) b).address ≡ b.address
kept_address true b = refl
kept_address false b = refl

kept_actions : (v : Bool) (b : Break) → (cond v (lowered b) b).actions ≡ b.actions
kept_actions true b = refl
kept_actions false b = refl

abbrev pub later : Option ℕ → Option ℕ
later None = None
later (Some k) = Some (suc k)

pos_by : (v : Bool) (n len : ℕ) → cond (ltb (cond (not v) (1 + n) 0) (suc len)) (Some (cond (not v) (1 + n) 0)) None
    ≡ cond v (Some 0) (later (cond (ltb n len) (Some n) None))
pos_by true n len = yes (ltb 0 (suc len)) (Some 0) None (lt-ltb 0 (suc len) (omega arith))
pos_by false n len =
    let one : 1 + n ≡ suc n = omega arith in
    elim (cases_lt n len) [
      | inl low ↦
          yes (ltb (1 + n) (suc len)) (Some (1 + n)) None (lt-ltb (1 + n) (suc len) (omega (arith, low)))
          ∙ ap (λ (k : ℕ). Some k) one ∙ ap later (sym (yes (ltb n len) (Some n) None (lt-ltb n len low)))
      | inr high ↦
          otherwise (ltb (1 + n) (suc len)) (Some (1 + n)) None (le-ltb (1 + n) (suc len) (omega (arith, high)))
          ∙ ap later (sym (otherwise (ltb n len) (Some n) None (le-ltb n len high)))
    ]

pub position_cons : (p : Break → Bool) (b : Break) (list : List Break) → position p (b ∷ list) ≡ cond (p b) (Some 0) (later (position p list))
position_cons p b list = pos_by (p b) (prefix_len (λ (c : Break). not (p c)) list) (length list)

pub tested_none : (a : ℕ) (list : List Break) → has_break a list ≡ false → tested a list ≡ list
tested_none a [] absent = refl
tested_none a (b ∷ list) absent =
    ap (λ (c : Break). c ∷ tested a list) (otherwise (is_at a b) (lowered b) b (or_left (is_at a b) (has_break a list) absent))
    ∙ ap (λ (xs : List Break). b ∷ xs) (tested_none a list (or_right (is_at a b) (has_break a list) absent))

pub stop_none : (a : ℕ) (list : List Break) → has_break a list ≡ false → stop_at a list ≡ None
stop_none a [] absent = refl
stop_none a (b ∷ list) absent =
    position_cons (stops a) b list
    ∙ ap (λ (v : Bool). cond (v && leb b.count 1) (Some 0) (later (stop_at a list))) (or_left (is_at a b) (has_break a list) absent)
    ∙ ap later (stop_none a list (or_right (is_at a b) (has_break a list) absent))

no_place_by : (v : Bool) (place : Option ℕ) (rest : Bool) → cond v (Some 0) (later place) ≡ None → (place ≡ None → rest ≡ false) → (v || rest) ≡ false
no_place_by true place rest is gives = absurd (cc)
no_place_by false None rest is gives = gives refl
no_place_by false (Some k) rest is gives = absurd (cc)

pub no_place : (p : Break → Bool) (list : List Break) → position p list ≡ None → list_any p list ≡ false
no_place p [] is = refl
no_place p (b ∷ list) is = no_place_by (p b) (position p list) (list_any p list) (sym (position_cons p b list) ∙ is) (no_place p list)

-- what a test makes of a list that has the break at a place
pub record Met (a : ℕ) (list : List Break) (k : ℕ) (d : Break) : Type 0 where
  pub after : tested a list ≡ set list k (lowered (get_or list k d))
  pub stop : stop_at a list ≡ cond (leb (get_or list k d).count 1) (Some k) None
  pub within : k < length list

met_here : (a : ℕ) (b : Break) (list : List Break) (d : Break) → Above b.address list → is_at a b ≡ true → Met a (b ∷ list) 0 d
met_here a b list d high is =
    let at : b.address ≡ a = eqb-true b.address a is in
    let none = none_at a list (higher_still a b.address list (omega (arith, at)) high) in
    record {
      after = ap (λ (c : Break). c ∷ tested a list) (yes (is_at a b) (lowered b) b is) ∙ ap (λ (xs : List Break). lowered b ∷ xs) (tested_none a list none);
      stop =
          position_cons (stops a) b list
          ∙ ap (λ (v : Bool). cond (v && leb b.count 1) (Some 0) (later (stop_at a list))) is
          ∙ ap (λ (o : Option ℕ). cond (leb b.count 1) (Some 0) (later o)) (stop_none a list none);
      within = omega arith;
    }

later_cond : (v : Bool) (j : ℕ) → later (cond v (Some j) None) ≡ cond v (Some (suc j)) None
later_cond true j = refl
later_cond false j = refl

met_later : (a : ℕ) (b : Break) (list : List Break) (j : ℕ) (d : Break) → Met a list j d → is_at a b ≡ false → Met a (b ∷ list) (suc j) d
met_later a b list j d met is = record {
  after = ap (λ (c : Break). c ∷ tested a list) (otherwise (is_at a b) (lowered b) b is) ∙ ap (λ (xs : List Break). b ∷ xs) met.after;
  stop =
      position_cons (stops a) b list
      ∙ ap (λ (v : Bool). cond (v && leb b.count 1) (Some 0) (later (stop_at a list))) is
      ∙ ap later met.stop
      ∙ later_cond (leb (get_or list j d).count 1) j;
  within = omega (arith, met.within);
}

some_same : (j k : ℕ) → Some j ≡ Some k → j ≡ k
some_same j k same = ap (λ (o : Option ℕ). unwrap_or o 0) same

met_by : (v : Bool) (o : Option ℕ) (a : ℕ) (b : Break) (list : List Break) (k : ℕ) (d : Break) → is_at a b ≡ v → Above b.address list
    → cond v (Some 0) (later o) ≡ Some k → ((j : ℕ) → o ≡ Some j → Met a list j d) → Met a (b ∷ list) k d
met_by true o a b list k d is high at gives = subst (λ (n : ℕ). Met a (b ∷ list) n d) (some_same 0 k at) (met_here a b list d high is)
met_by false None a b list k d is high at gives = absurd (cc)
met_by false (Some j) a b list k d is high at gives =
    subst (λ (n : ℕ). Met a (b ∷ list) n d) (some_same (suc j) k at) (met_later a b list j d (gives j refl) is)

pub met_at : (a : ℕ) (list : List Break) (k : ℕ) (d : Break) → Rising list → position (is_at a) list ≡ Some k → Met a list k d
met_at a [] k d rising is = absurd (cc)
met_at a (b ∷ list) k d rising is =
    met_by (is_at a b) (position (is_at a) list) a b list k d refl rising.0 (sym (position_cons (is_at a) b list) ∙ is) (λ j at. met_at a list j d rising.1 at)

-- a test leaves the addresses and the actions
pub tested_actions : (a : ℕ) (list : List Break) (k : ℕ) (d : Break) → (get_or (tested a list) k d).actions ≡ (get_or list k d).actions
tested_actions a [] k d = refl
tested_actions a (b ∷ list) zero d = kept_actions (is_at a b) b
tested_actions a (b ∷ list) (suc k) d = tested_actions a list k d

pub tested_has : (a x : ℕ) (list : List Break) → has_break x (tested a list) ≡ has_break x list
tested_has a x [] = refl
tested_has a x (b ∷ list) =
    ap (λ (n : ℕ). eqb n x || has_break x (tested a list)) (kept_address (is_at a b) b) ∙ ap (λ (v : Bool). is_at x b || v) (tested_has a x list)

pub tested_length : (a : ℕ) (list : List Break) → length (tested a list) ≡ length list
tested_length a [] = refl
tested_length a (b ∷ list) = ap suc (tested_length a list)

tested_above : (n a : ℕ) (list : List Break) → Above n list → Above n (tested a list)
tested_above n a [] all = tt
tested_above n a (b ∷ list) all =
    (subst (λ (k : ℕ). n < k) (sym (kept_address (is_at a b) b)) all.0, tested_above n a list all.1)

pub tested_rising : (a : ℕ) (list : List Break) → Rising list → Rising (tested a list)
tested_rising a [] rising = tt
tested_rising a (b ∷ list) rising =
    (subst (λ (n : ℕ). Above n (tested a list)) (sym (kept_address (is_at a b) b)) (tested_above b.address a list rising.0), tested_rising a list rising.1)

pub tested_marks : (a : ℕ) (marks : List Bool) (list : List Break) → AreMarks marks list → AreMarks marks (tested a list)
tested_marks a marks list are = record { all = are.all; exact = λ x low. are.exact x low ∙ sym (tested_has a x list) }

-- what such a test answers
stop_below : (v : Bool) (k count : ℕ) → v ≡ ltb 1 count → v ≡ true → cond (leb count 1) (Some k) None ≡ None
stop_below v k count is above = grind (arith, nat_tests)

stop_here : (v : Bool) (k count : ℕ) → v ≡ ltb 1 count → v ≡ false → cond (leb count 1) (Some k) None ≡ Some k
stop_here v k count is above = grind (arith, nat_tests)

pub no_stop : (a : ℕ) (list : List Break) (k : ℕ) (d : Break) (v : Bool) → Met a list k d → v ≡ ltb 1 (get_or list k d).count → v ≡ true → None ≡ stop_at a list
no_stop a list k d v met is above = sym (met.stop ∙ stop_below v k (get_or list k d).count is above)

pub one_stop : (a : ℕ) (list : List Break) (k : ℕ) (d : Break) (v : Bool) → Met a list k d → v ≡ ltb 1 (get_or list k d).count → v ≡ false → Some k ≡ stop_at a list
one_stop a list k d v met is above = sym (met.stop ∙ stop_here v k (get_or list k d).count is above)

-- the actions of the one that stopped
actions_there : (list : List Break) (k : ℕ) (d : Break) (before : List ℕ) → k < length list → (get_or list k d).actions ≡ unwrap_or (option_map (λ (b : Break). b.actions) (slice_get list k)) before
actions_there [] k d before within = absurd (omega arith)
actions_there (b ∷ list) zero d before within = refl
actions_there (b ∷ list) (suc k) d before within = actions_there list k d before (omega (arith, within))

pub stopped_are : (a : ℕ) (list : List Break) (k : ℕ) (d : Break) (before : List ℕ) → k < length list → (get_or (tested a list) k d).actions ≡ stopped_actions (Some k) list before
stopped_are a list k d before within = tested_actions a list k d ∙ actions_there list k d before within

pub marks_none : (marks : List Bool) → length marks ≡ 32768 → NoMarks marks → AreMarks marks []
marks_none marks long none = record { all = long; exact = λ x within. none x }
