-- What is done to the remaining times is done to the times at which the events are due.
use Rattle.std.proofs.Common.{◌≡◌, ℕ, ◌+◌, ◌-◌, ◌<◌, ◌≤◌, leb, ltb, not, ◌||◌, inl, inr, if◌then◌else◌, cond, Bool, List, [], ◌∷◌, ◌++◌, filter, None, true, false, refl, ap, arith}
use Rattle.std.specs.Prelude.{AllPairs}
use Rattle.std.specs.List.{AllByRecursion, IsDistinct, list_any}
use Rattle.std.proofs.lemmas.Bool.{cases_lt, le-leb, lt-leb, le-ltb}
use Rattle.std.proofs.lemmas.Bool.Decides.{nat_tests}
use Rattle.std.proofs.lemmas.List.Elements.{All-from_recursion}
use Rattle.std.proofs.lemmas.List.Kept.{AllPairs-cons}
use Rattle.unit_trait.specs.declared.kind.Kind.{Kind}
use Rattle.unit_trait.specs.declared.kind.UnitName.{UnitName}
use Rattle.unit_trait.specs.Kinds.{same_unit}
use Rattle.event_queue.specs.EventList.{Event, waits, placed, activated, is_of_kind, cancelled, due, served, ticked, Rising, waiting, Sound, IsApart}
use Rattle.event_queue.specs.DueTimes.{scheduled, IsSchedule, activated_at, cancelled_of, due_at, served_at}

-- ---- the times do not fall, and no unit is there twice
later-scheduled : (now time : ℕ) (es : List Event) → AllByRecursion (λ (x : Event). time ≤ x.remaining) es
    → AllByRecursion (λ (x : ℕ × UnitName). now + time ≤ x.0) (scheduled now es)
later-scheduled now time [] later = tt
later-scheduled now time (e ∷ es) later = (omega arith, later-scheduled now time es later.1)

times-scheduled : (now : ℕ) (es : List Event) → Rising es → AllPairs (λ (x y : ℕ × UnitName). x.0 ≤ y.0) (scheduled now es)
times-scheduled now [] rising = λ i j d before within. absurd (omega arith)
times-scheduled now (e ∷ es) rising =
    AllPairs-cons (λ (x y : ℕ × UnitName). x.0 ≤ y.0) (now + e.remaining, e.unit) (scheduled now es)
    (All-from_recursion (λ (x : ℕ × UnitName). now + e.remaining ≤ x.0) (scheduled now es) (later-scheduled now e.remaining es rising.0))
    (times-scheduled now es rising.1)

apart-scheduled : (now : ℕ) (u : UnitName) (es : List Event) → IsApart u (waiting es)
    → AllByRecursion (λ (x : ℕ × UnitName). same_unit u x.1 ≡ false) (scheduled now es)
apart-scheduled now u [] apart = tt
apart-scheduled now u (e ∷ es) apart = (apart.0, apart-scheduled now u es apart.1)

units-scheduled : (now : ℕ) (es : List Event) → IsDistinct same_unit (waiting es) → AllPairs (λ (x y : ℕ × UnitName). same_unit x.1 y.1 ≡ false) (scheduled now es)
unfolding IsDistinct
units-scheduled now [] distinct = λ i j d before within. absurd (omega arith)
units-scheduled now (e ∷ es) distinct =
    AllPairs-cons (λ (x y : ℕ × UnitName). same_unit x.1 y.1 ≡ false) (now + e.remaining, e.unit) (scheduled now es)
    (All-from_recursion (λ (x : ℕ × UnitName). same_unit e.unit x.1 ≡ false) (scheduled now es) (apart-scheduled now e.unit es distinct.0))
    (units-scheduled now es distinct.1)

pub schedule : (now : ℕ) (es : List Event) → Sound es → IsSchedule (scheduled now es)
schedule now es sound = record { times = times-scheduled now es sound.rising; units = units-scheduled now es sound.distinct }

-- ---- to activate
waits-scheduled : (now : ℕ) (u : UnitName) (es : List Event) → list_any (λ (x : ℕ × UnitName). same_unit x.1 u) (scheduled now es) ≡ waits u es
waits-scheduled now u [] = refl
waits-scheduled now u (e ∷ es) = ap (λ (b : Bool). same_unit e.unit u || b) (waits-scheduled now u es)

-- events that are all later than a time
none-early : (now time : ℕ) (es : List Event) → AllByRecursion (λ (x : Event). time < x.remaining) es
    → filter (λ (x : ℕ × UnitName). leb x.0 (now + time)) (scheduled now es) ≡ []
none-early now time [] late = refl
none-early now time (e ∷ es) late = grind (arith, nat_tests, none-early now time es late.1)

all-late : (now time : ℕ) (es : List Event) → AllByRecursion (λ (x : Event). time < x.remaining) es
    → filter (λ (x : ℕ × UnitName). ltb (now + time) x.0) (scheduled now es) ≡ scheduled now es
all-late now time [] late = refl
all-late now time (e ∷ es) late = grind (arith, nat_tests, all-late now time es late.1)

later-still : (time next : ℕ) (es : List Event) → time < next → AllByRecursion (λ (x : Event). next ≤ x.remaining) es → AllByRecursion (λ (x : Event). time < x.remaining) es
later-still time next [] less later = tt
later-still time next (e ∷ es) less later = (omega arith, later-still time next es less later.1)

placed-scheduled : (now time : ℕ) (u : UnitName) (es : List Event) → Rising es → scheduled now (placed u time es)
    ≡ filter (λ (x : ℕ × UnitName). leb x.0 (now + time)) (scheduled now es) ++ (now + time, u) ∷ filter (λ (x : ℕ × UnitName). ltb (now + time) x.0) (scheduled now es)
placed-scheduled now time u [] rising = refl
placed-scheduled now time u (e ∷ es) rising =
    elim (cases_lt time e.remaining) [
      | inl late ↦
          let all : AllByRecursion (λ (x : Event). time < x.remaining) (e ∷ es) = (late, later-still time e.remaining es late rising.0) in
          rw (none-early now time (e ∷ es) all, all-late now time (e ∷ es) all, lt-leb e.remaining time late) refl
      | inr early ↦
          rw (le-leb e.remaining time early, le-leb (now + e.remaining) (now + time) (omega arith), le-ltb (now + time) (now + e.remaining) (omega arith))
          (ap (λ (xs : List (ℕ × UnitName)). (now + e.remaining, e.unit) ∷ xs) (placed-scheduled now time u es rising.1))
    ]

chosen : (now : ℕ) (b : Bool) (xs ys : List Event) (zs : List (ℕ × UnitName)) → scheduled now ys ≡ zs → scheduled now (if b then xs else ys) ≡ (if b then scheduled now xs else zs)
chosen now true xs ys zs same = refl
chosen now false xs ys zs same = same

pub activated-scheduled : (now time : ℕ) (u : UnitName) (es : List Event) → Sound es
    → scheduled now (activated u time es) ≡ activated_at (now + time) u (scheduled now es)
activated-scheduled now time u es sound = rw (waits-scheduled now u es) (chosen now (waits u es) es (placed u time es) _ (placed-scheduled now time u es sound.rising))

-- ---- to cancel
kept : (now : ℕ) (b : Bool) (e : Event) (xs : List Event) (zs : List (ℕ × UnitName)) → scheduled now xs ≡ zs
    → scheduled now (cond b (e ∷ xs) xs) ≡ cond b ((now + e.remaining, e.unit) ∷ zs) zs
kept now true e xs zs same = ap (λ (ys : List (ℕ × UnitName)). (now + e.remaining, e.unit) ∷ ys) same
kept now false e xs zs same = same

pub cancelled-scheduled : (now : ℕ) (kind : Kind) (es : List Event) → scheduled now (cancelled kind es) ≡ cancelled_of kind (scheduled now es)
cancelled-scheduled now kind [] = refl
cancelled-scheduled now kind (e ∷ es) = kept now (not (is_of_kind kind e.unit)) e (cancelled kind es) _ (cancelled-scheduled now kind es)

-- ---- to serve
pub due-scheduled : (now : ℕ) (es : List Event) → due es ≡ due_at now (scheduled now es)
due-scheduled now [] = refl
due-scheduled now (e ∷ es) = grind (arith, nat_tests)

pub served-scheduled : (now : ℕ) (es : List Event) → scheduled now (served es) ≡ served_at now (scheduled now es)
served-scheduled now [] = refl
served-scheduled now (e ∷ es) = grind (arith, nat_tests)

-- ---- to tick
ticked-later : (now : ℕ) (es : List Event) → AllByRecursion (λ (x : Event). 0 < x.remaining) es → scheduled (now + 1) (ticked es) ≡ scheduled now es
ticked-later now [] later = refl
ticked-later now (e ∷ es) later =
    let same : now + 1 + (e.remaining - 1) ≡ now + e.remaining = omega arith in
    rw same (ap (λ (xs : List (ℕ × UnitName)). (now + e.remaining, e.unit) ∷ xs) (ticked-later now es later.1))

pub ticked-scheduled : (now : ℕ) (es : List Event) → Sound es → due es ≡ None → scheduled (now + 1) (ticked es) ≡ scheduled now es
ticked-scheduled now [] sound none = refl
ticked-scheduled now (e ∷ es) sound none =
    let some : 0 < e.remaining = grind (arith, nat_tests) in
    ticked-later now (e ∷ es) (some, later-still 0 e.remaining es some sound.rising.0)
