-- Whatever is done to a sound list leaves one.
use Rattle.std.proofs.Common.{◌≡◌, ℕ, zero, suc, option_map, ◌-◌, ◌<◌, ◌≤◌, ◌^◌, ◌||◌, not, leb, eqb, Bool, List, [], ◌∷◌, filter, remove, slice_get, get_or, is_some, Some, None, true, false, refl, sym, ap, subst, ◌∙◌, arith}
use Rattle.std.specs.List.{AllByRecursion, IsDistinct}
use Rattle.std.proofs.lemmas.Bool.{cond_both, leb-true, leb-false}
use Rattle.std.proofs.lemmas.Bool.Decides.{nat_tests}
use Rattle.unit_trait.specs.declared.kind.Kind.{Kind}
use Rattle.unit_trait.specs.declared.kind.UnitName.{UnitName}
use Rattle.unit_trait.specs.Kinds.{units_of, same_unit}
use Rattle.event_queue.specs.EventList.{Event, event, waits, placed, activated, is_of_kind, cancelled, due, served, dues, lowered, Rising, waiting, Sound, IsApart}

-- ---- what holds of each element
pub all-weaker : {A : Type 0} (P Q : A → Type 0) → ((x : A) → P x → Q x) → (xs : List A) → AllByRecursion P xs → AllByRecursion Q xs
all-weaker P Q gives [] all = tt
all-weaker P Q gives (x ∷ xs) all = (gives x all.0, all-weaker P Q gives xs all.1)

pub all-placed : (P : Event → Type 0) (u : UnitName) (t : ℕ) (es : List Event) → P (event u t) → AllByRecursion P es → AllByRecursion P (placed u t es)
all-placed P u t [] here all = (here, tt)
all-placed P u t (e ∷ es) here all =
    cond_both (leb e.remaining t) _ _ (λ (xs : List Event). AllByRecursion P xs) (λ _. (all.0, all-placed P u t es here all.1)) (λ _. (here, all))

all-filter : (P : Event → Type 0) (p : Event → Bool) (es : List Event) → AllByRecursion P es → AllByRecursion P (filter p es)
all-filter P p [] all = tt
all-filter P p (e ∷ es) all =
    cond_both (p e) _ _ (λ (xs : List Event). AllByRecursion P xs) (λ _. (all.0, all-filter P p es all.1)) (λ _. all-filter P p es all.1)

all-lowered : (P Q : Event → Type 0) (n : ℕ) → ((e : Event) → P e → Q (event e.unit (e.remaining - n))) → (es : List Event) → AllByRecursion P es → AllByRecursion Q (lowered n es)
all-lowered P Q n gives [] all = tt
all-lowered P Q n gives (e ∷ es) all = (gives e all.0, all-lowered P Q n gives es all.1)

-- ---- the times do not fall
rising-placed : (u : UnitName) (t : ℕ) (es : List Event) → Rising es → Rising (placed u t es)
rising-placed u t [] rising = (tt, tt)
rising-placed u t (e ∷ es) rising =
    cond_both (leb e.remaining t) _ _ Rising
    (λ early. (all-placed (λ (x : Event). e.remaining ≤ x.remaining) u t es (leb-true e.remaining t early) rising.0, rising-placed u t es rising.1))
    (λ late.
    let below : t < e.remaining = leb-false e.remaining t late in
    ((omega arith, all-weaker (λ (x : Event). e.remaining ≤ x.remaining) (λ (x : Event). t ≤ x.remaining) (λ x le. omega arith) es rising.0), rising))

rising-filter : (p : Event → Bool) (es : List Event) → Rising es → Rising (filter p es)
rising-filter p [] rising = tt
rising-filter p (e ∷ es) rising =
    cond_both (p e) _ _ Rising (λ _. (all-filter (λ (x : Event). e.remaining ≤ x.remaining) p es rising.0, rising-filter p es rising.1))
    (λ _. rising-filter p es rising.1)

rising-lowered : (n : ℕ) (es : List Event) → Rising es → Rising (lowered n es)
rising-lowered n [] rising = tt
rising-lowered n (e ∷ es) rising = (
  all-lowered (λ (x : Event). e.remaining ≤ x.remaining) (λ (x : Event). e.remaining - n ≤ x.remaining) n (λ x le. omega arith) es rising.0,
  rising-lowered n es rising.1,
)

-- ---- no unit is there twice
pub same-unit-flips : (a b : UnitName) → same_unit a b ≡ same_unit b a
same-unit-flips a b = grind (arith, nat_tests)

units-placed : (P : UnitName → Type 0) (u : UnitName) (t : ℕ) (es : List Event) → P u → AllByRecursion P (waiting es) → AllByRecursion P (waiting (placed u t es))
units-placed P u t [] here all = (here, tt)
units-placed P u t (e ∷ es) here all =
    cond_both (leb e.remaining t) _ _ (λ (xs : List Event). AllByRecursion P (waiting xs)) (λ _. (all.0, units-placed P u t es here all.1)) (λ _. (here, all))

units-filter : (P : UnitName → Type 0) (p : Event → Bool) (es : List Event) → AllByRecursion P (waiting es) → AllByRecursion P (waiting (filter p es))
units-filter P p [] all = tt
units-filter P p (e ∷ es) all =
    cond_both (p e) _ _ (λ (xs : List Event). AllByRecursion P (waiting xs)) (λ _. (all.0, units-filter P p es all.1)) (λ _. units-filter P p es all.1)

neither : (x y : Bool) → (x || y) ≡ false → (x ≡ false) × (y ≡ false)
neither true y none = absurd (cc)
neither false y none = (refl, none)

-- a unit that does not wait is none of those that do
pub none-waits : (u : UnitName) (es : List Event) → waits u es ≡ false → IsApart u (waiting es)
none-waits u [] none = tt
none-waits u (e ∷ es) none =
    let parts = neither (same_unit e.unit u) (waits u es) none in
    (same-unit-flips u e.unit ∙ parts.0, none-waits u es parts.1)

distinct-placed : (u : UnitName) (t : ℕ) (es : List Event) → IsApart u (waiting es) → IsDistinct same_unit (waiting es) → IsDistinct same_unit (waiting (placed u t es))
unfolding IsDistinct
distinct-placed u t [] apart distinct = (tt, distinct)
distinct-placed u t (e ∷ es) apart distinct =
    cond_both (leb e.remaining t) _ _ (λ (xs : List Event). IsDistinct same_unit (waiting xs))
    (λ _. (units-placed (λ (x : UnitName). same_unit e.unit x ≡ false) u t es (same-unit-flips e.unit u ∙ apart.0) distinct.0, distinct-placed u t es apart.1 distinct.1))
    (λ _. (apart, distinct))

distinct-filter : (p : Event → Bool) (es : List Event) → IsDistinct same_unit (waiting es) → IsDistinct same_unit (waiting (filter p es))
unfolding IsDistinct
distinct-filter p [] distinct = distinct
distinct-filter p (e ∷ es) distinct =
    cond_both (p e) _ _ (λ (xs : List Event). IsDistinct same_unit (waiting xs))
    (λ _. (units-filter (λ (x : UnitName). same_unit e.unit x ≡ false) p es distinct.0, distinct-filter p es distinct.1))
    (λ _. distinct-filter p es distinct.1)

pub waiting-lowered : (n : ℕ) (es : List Event) → waiting (lowered n es) ≡ waiting es
waiting-lowered n [] = refl
waiting-lowered n (e ∷ es) = ap (λ (us : List UnitName). e.unit ∷ us) (waiting-lowered n es)

-- ---- sound lists
pub sound-none : Sound []
unfolding IsDistinct
sound-none = record { rising = tt; distinct = tt; units = tt; times = tt }

pub sound-placed : (u : UnitName) (t : ℕ) (es : List Event) → u.unit < units_of u.kind → t < 2 ^ 32 → waits u es ≡ false → Sound es → Sound (placed u t es)
sound-placed u t es low short none sound =
    record {
      rising = rising-placed u t es sound.rising;
      distinct = distinct-placed u t es (none-waits u es none) sound.distinct;
      units = all-placed (λ (e : Event). e.unit.unit < units_of e.unit.kind) u t es low sound.units;
      times = all-placed (λ (e : Event). e.remaining < 2 ^ 32) u t es short sound.times;
    }

pub sound-activated : (u : UnitName) (t : ℕ) (es : List Event) → u.unit < units_of u.kind → t < 2 ^ 32 → Sound es → Sound (activated u t es)
sound-activated u t es low short sound = cond_both (waits u es) _ _ Sound (λ _. sound) (λ none. sound-placed u t es low short none sound)

sound-filter : (p : Event → Bool) (es : List Event) → Sound es → Sound (filter p es)
sound-filter p es sound =
    record {
      rising = rising-filter p es sound.rising;
      distinct = distinct-filter p es sound.distinct;
      units = all-filter (λ (e : Event). e.unit.unit < units_of e.unit.kind) p es sound.units;
      times = all-filter (λ (e : Event). e.remaining < 2 ^ 32) p es sound.times;
    }

pub sound-cancelled : (kind : Kind) (es : List Event) → Sound es → Sound (cancelled kind es)
sound-cancelled kind es sound = sound-filter (λ (e : Event). not (is_of_kind kind e.unit)) es sound

sound-rest : (e : Event) (es : List Event) → Sound (e ∷ es) → Sound es
unfolding IsDistinct
sound-rest e es sound = record { rising = sound.rising.1; distinct = sound.distinct.1; units = sound.units.1; times = sound.times.1 }

pub sound-served : (es : List Event) → Sound es → Sound (served es)
sound-served [] sound = sound
sound-served (e ∷ es) sound = cond_both (eqb e.remaining 0) _ _ Sound (λ _. sound-rest e es sound) (λ _. sound)

pub sound-lowered : (n : ℕ) (es : List Event) → Sound es → Sound (lowered n es)
sound-lowered n es sound =
    record {
      rising = rising-lowered n es sound.rising;
      distinct = rw (waiting-lowered n es) sound.distinct;
      units = all-lowered (λ (e : Event). e.unit.unit < units_of e.unit.kind) (λ (e : Event). e.unit.unit < units_of e.unit.kind) n (λ e low. low) es sound.units;
      times = all-lowered (λ (e : Event). e.remaining < 2 ^ 32) (λ (e : Event). e.remaining < 2 ^ 32) n (λ e short. omega arith) es sound.times;
    }

-- ---- what the times say
-- an event that is behind one that is not due is not due
due-later : (time : ℕ) (es : List Event) → 1 ≤ time → AllByRecursion (λ (x : Event). time ≤ x.remaining) es → due es ≡ None
due-later time [] some all = refl
due-later time (e ∷ es) some all = grind (arith, nat_tests)

due-filter : (p : Event → Bool) (es : List Event) → Rising es → due es ≡ None → due (filter p es) ≡ None
due-filter p [] rising none = refl
due-filter p (e ∷ es) rising none =
    let some : 1 ≤ e.remaining = grind (arith, nat_tests) in
    cond_both (p e) _ _ (λ (xs : List Event). due xs ≡ None) (λ _. none)
    (λ _. due-later e.remaining (filter p es) some (all-filter (λ (x : Event). e.remaining ≤ x.remaining) p es rising.0))

pub due-cancelled : (kind : Kind) (es : List Event) → Sound es → due es ≡ None → due (cancelled kind es) ≡ None
due-cancelled kind es sound none = due-filter (λ (e : Event). not (is_of_kind kind e.unit)) es sound.rising none

-- ---- the unit that is served
apart-dues : (u : UnitName) (es : List Event) → IsApart u (waiting es) → IsApart u (dues es)
apart-dues u [] apart = tt
apart-dues u (e ∷ es) apart = cond_both (eqb e.remaining 0) _ _ (IsApart u) (λ _. (apart.0, apart-dues u es apart.1)) (λ _. tt)

-- ---- the first event is taken out
pub sound-removed : (es : List Event) → Sound es → Sound (remove es 0)
sound-removed [] sound = sound
sound-removed (e ∷ es) sound = sound-rest e es sound

pub apart-removed : (es : List Event) (e : Event) → Sound es → is_some (due es) ≡ true → e ≡ get_or es 0 e → IsApart e.unit (dues (remove es 0))
unfolding IsDistinct
apart-removed [] e sound is first = absurd (cc)
apart-removed (x ∷ es) e sound is first = rw first (apart-dues x.unit es sound.distinct.0)

pub apart-waits : (u : UnitName) (es : List Event) → IsApart u (waiting es) → waits u es ≡ false
apart-waits u [] apart = refl
apart-waits u (e ∷ es) apart =
    let other : same_unit e.unit u ≡ false = same-unit-flips e.unit u ∙ apart.0 in
    ap (λ (b : Bool). b || waits u es) other ∙ apart-waits u es apart.1

-- the first event's unit does not wait among the others
pub first-alone : (n : ℕ) (es : List Event) (e : Event) → Sound es → slice_get es 0 ≡ Some e → waits e.unit (lowered n (remove es 0)) ≡ false
unfolding IsDistinct
first-alone n [] e sound is = absurd (cc)
first-alone n (x ∷ es) e sound is =
    let same : x ≡ e = grind arith in
    let apart : IsApart x.unit (waiting es) = sound.distinct.0 in
    ap (λ (y : Event). waits y.unit (lowered n es)) (sym same)
    ∙ apart-waits x.unit (lowered n es) (subst (λ (us : List UnitName). IsApart x.unit us) (sym (waiting-lowered n es)) apart)

-- that of each event does not wait behind it
pub first-apart : (e : Event) (es : List Event) → Sound (e ∷ es) → waits e.unit es ≡ false
unfolding IsDistinct
first-apart e es sound = apart-waits e.unit es sound.distinct.0

pub two-apart : (e f : Event) (es : List Event) → Sound (e ∷ f ∷ es) → (same_unit f.unit e.unit ≡ false) × ((waits e.unit es ≡ false) × (waits f.unit es ≡ false))
unfolding IsDistinct
two-apart e f es sound =
    (same-unit-flips f.unit e.unit ∙ sound.distinct.0.0, (apart-waits e.unit es sound.distinct.0.1, apart-waits f.unit es sound.distinct.1.0))

pub waits-lowered : (u : UnitName) (n : ℕ) (es : List Event) → waits u (lowered n es) ≡ waits u es
waits-lowered u n [] = refl
waits-lowered u n (e ∷ es) = ap (λ (b : Bool). same_unit e.unit u || b) (waits-lowered u n es)

pub waits-placed : (u v : UnitName) (t : ℕ) (es : List Event) → same_unit v u ≡ false → waits u es ≡ false → waits u (placed v t es) ≡ false
waits-placed u v t [] other none = ap (λ (b : Bool). b || false) other
waits-placed u v t (e ∷ es) other none =
    let parts = neither (same_unit e.unit u) (waits u es) none in
    cond_both (leb e.remaining t) _ _ (λ (xs : List Event). waits u xs ≡ false)
    (λ _. ap (λ (b : Bool). b || waits u (placed v t es)) parts.0 ∙ waits-placed u v t es other parts.1)
    (λ _. ap (λ (b : Bool). b || waits u (e ∷ es)) other ∙ none)

-- the units of the first two events are two, and neither waits among the others
pub twins-alone : (es : List Event) (e f : Event) → Sound es → slice_get es 0 ≡ Some e → slice_get es 1 ≡ Some f
    → (same_unit e.unit f.unit ≡ false) × ((waits e.unit (remove (remove es 0) 0) ≡ false) × (waits f.unit (remove (remove es 0) 0) ≡ false))
twins-alone [] e f sound first second = absurd (cc)
twins-alone (x ∷ []) e f sound first second = absurd (cc)
twins-alone (x ∷ y ∷ es) e f sound first second =
    let one : x ≡ e = grind arith in
    let two : y ≡ f = grind arith in
    let apart = two-apart x y es sound in
    let here : same_unit x.unit y.unit ≡ false = same-unit-flips x.unit y.unit ∙ apart.0 in
    subst (λ (v : Event). (same_unit e.unit v.unit ≡ false) × ((waits e.unit es ≡ false) × (waits v.unit es ≡ false))) two
    (subst (λ (u : Event). (same_unit u.unit y.unit ≡ false) × ((waits u.unit es ≡ false) × (waits y.unit es ≡ false))) one (here, apart.1))

-- ---- an event is taken out by its place
all-removed : {A : Type 0} (P : A → Type 0) (k : ℕ) (xs : List A) → AllByRecursion P xs → AllByRecursion P (remove xs k)
all-removed P zero [] all = tt
all-removed P (suc k) [] all = tt
all-removed P zero (x ∷ xs) all = all.1
all-removed P (suc k) (x ∷ xs) all = (all.0, all-removed P k xs all.1)

rising-removed : (k : ℕ) (es : List Event) → Rising es → Rising (remove es k)
rising-removed zero [] rising = tt
rising-removed (suc k) [] rising = tt
rising-removed zero (e ∷ es) rising = rising.1
rising-removed (suc k) (e ∷ es) rising = (all-removed (λ (x : Event). e.remaining ≤ x.remaining) k es rising.0, rising-removed k es rising.1)

waiting-removed : (k : ℕ) (es : List Event) → waiting (remove es k) ≡ remove (waiting es) k
waiting-removed zero [] = refl
waiting-removed (suc k) [] = refl
waiting-removed zero (e ∷ es) = refl
waiting-removed (suc k) (e ∷ es) = ap (λ (us : List UnitName). e.unit ∷ us) (waiting-removed k es)

distinct-removed : (k : ℕ) (us : List UnitName) → IsDistinct same_unit us → IsDistinct same_unit (remove us k)
unfolding IsDistinct
distinct-removed zero [] distinct = tt
distinct-removed (suc k) [] distinct = tt
distinct-removed zero (u ∷ us) distinct = distinct.1
distinct-removed (suc k) (u ∷ us) distinct = (all-removed (λ (x : UnitName). same_unit u x ≡ false) k us distinct.0, distinct-removed k us distinct.1)

pub sound-without : (k : ℕ) (es : List Event) → Sound es → Sound (remove es k)
sound-without k es sound =
    record {
      rising = rising-removed k es sound.rising;
      distinct = subst (λ (us : List UnitName). IsDistinct same_unit us) (sym (waiting-removed k es)) (distinct-removed k (waiting es) sound.distinct);
      units = all-removed (λ (e : Event). e.unit.unit < units_of e.unit.kind) k es sound.units;
      times = all-removed (λ (e : Event). e.remaining < 2 ^ 32) k es sound.times;
    }

pub unit-low : (k : ℕ) (es : List Event) (u : UnitName) → AllByRecursion (λ (e : Event). e.unit.unit < units_of e.unit.kind) es
    → option_map (λ e. e.unit) (slice_get es k) ≡ Some u → u.unit < units_of u.kind
unit-low k [] u all is = absurd (cc)
unit-low zero (e ∷ es) u all is = let same : e.unit ≡ u = cc in subst (λ (v : UnitName). v.unit < units_of v.kind) same all.0
unit-low (suc k) (e ∷ es) u all is = unit-low k es u all.1 is

-- the unit of the first event is none of those of the others that are due
pub apart-first : (es : List Event) (u : UnitName) → Sound es → option_map (λ e. e.unit) (slice_get es 0) ≡ Some u → IsApart u (dues (remove es 0))
unfolding IsDistinct
apart-first [] u sound is = absurd (cc)
apart-first (e ∷ es) u sound is =
    let same : e.unit ≡ u = cc in subst (λ (v : UnitName). IsApart v (dues es)) same (apart-dues e.unit es sound.distinct.0)
