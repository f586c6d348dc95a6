-- Looks that pass at once.
use Rattle.std.proofs.Common.{◌≡◌, ◌⊎◌, inl, inr, subst, ℕ, zero, suc, ◌+◌, ◌-◌, ◌%◌, ◌<◌, ◌≤◌, ◌==◌, ◌||◌, nat_le, leb, eqb, Bool, true, false, List, [], ◌∷◌, length, remove, slice_get, slice_set, ◌^◌, IfSome, Option, Some, None, option_map, if◌then◌else◌, refl, sym, ap, ◌∙◌, arith}
use Rattle.std.proofs.Math.Nat.{mod-eq_of_lt, mod-lt, mod_self, suc-mod}
use Rattle.std.proofs.lemmas.Bool.{cases_lt, cond_both, eqb-true}
use Rattle.std.proofs.lemmas.Bool.Decides.{nat_tests}
use Rattle.std.specs.List.{AllByRecursion}
use Rattle.unit_trait.specs.declared.kind.UnitName.{UnitName}
use Rattle.unit_trait.specs.Kinds.{units_of, same_unit}
use Rattle.event_queue.specs.EventList.{Event, event, waits, placed, activated, due, dues, served, lowered, ticked, IsClear, Rising, Sound}
use Rattle.event_queue.specs.Idle.{AreOthersLater, AreTwins, AreLaterThanTwo, AreLooks, asked_again, looked, idled, rest_behind}
use Rattle.event_queue.proofs.Ticks.{lowered-none, lowered-more}
use Rattle.event_queue.proofs.Dues.{dues-placed, dues-activated, dues-some, dues-none}
use Rattle.event_queue.proofs.SoundLists.{all-placed, first-apart, two-apart, same-unit-flips, sound-placed, sound-activated, sound-served, sound-lowered, sound-removed, waits-lowered, waits-placed}

-- how many instructions remain to an event that has so many left, and is asked for again each so many, behind a count
pub rest_of : ℕ → ℕ → ℕ → ℕ
rest_of left period zero = left
rest_of left period (suc n) = (if rest_of left period n == 0 then period else rest_of left period n) - 1

abbrev AreAtLeast : ℕ → List Event → Type 0
AreAtLeast n es = AllByRecursion (λ (e : Event). n ≤ e.remaining) es

fewer : (n m : ℕ) (es : List Event) → n ≤ m → AreAtLeast m es → AreAtLeast n es
fewer n m [] less all = tt
fewer n m (e ∷ es) less all = let least = all.0 in (omega (arith, less, least), fewer n m es less all.1)

lowered-least : (n k : ℕ) (es : List Event) → AreAtLeast (n + k) es → AreAtLeast k (lowered n es)
lowered-least n k [] all = tt
lowered-least n k (e ∷ es) all = let least = all.0 in (omega (arith, least), lowered-least n k es all.1)

-- a tick lowers an event and those among which it stands, where each has one left
ticked-placed : (u : UnitName) (d : ℕ) (es : List Event) → AreAtLeast 1 es → ticked (placed u (d + 1) es) ≡ placed u d (ticked es)
ticked-placed u d [] all = let same : d + 1 - 1 ≡ d = omega arith in ap (λ (n : ℕ). event u n ∷ []) same
ticked-placed u d (e ∷ es) all = let least = all.0 in grind (arith, nat_tests, ticked-placed u d es all.1)

-- an event that is due stands in front of those that are not
placed-due : (u : UnitName) (es : List Event) → AreAtLeast 1 es → placed u 0 es ≡ event u 0 ∷ es
placed-due u [] all = refl
placed-due u (e ∷ es) all = let least = all.0 in grind (arith, nat_tests)

none-due : (xs : List Event) → AreAtLeast 1 xs → dues xs ≡ []
none-due [] all = refl
none-due (e ∷ xs) all = let least = all.0 in grind (arith, nat_tests)

looked-none : (period : ℕ) (es : List Event) → dues es ≡ [] → looked period es ≡ es
looked-none period es none = ap (λ (us : List UnitName). asked_again period us es) none

least-placed : (u : UnitName) (d : ℕ) (es : List Event) → 1 ≤ d → AreAtLeast 1 es → AreAtLeast 1 (placed u d es)
least-placed u d es some all = all-placed (λ (e : Event). 1 ≤ e.remaining) u d es some all

-- How some events stand in front of others, each with so many instructions left, and how they stand among them, each with
-- so many; what each instruction does to them.
record Runs (period : ℕ) (front among : ℕ → List Event → List Event) (Alone : List Event → Type 0) : Type 0 where
  lowers : (n left : ℕ) (xs : List Event) → lowered n (front left xs) ≡ front (left - n) (lowered n xs)
  rests : (left : ℕ) (xs : List Event) → 1 ≤ left → dues (front left xs) ≡ []
  stands : (xs : List Event) → AreAtLeast 1 xs → front 0 xs ≡ among 0 xs
  steps : (r : ℕ) (xs : List Event) → AreAtLeast 1 xs → Alone xs → ticked (looked period (among r xs)) ≡ among ((if r == 0 then period else r) - 1) (ticked xs)
  stays : (n : ℕ) (xs : List Event) → Alone xs → Alone (lowered n xs)

-- those events, with so many left, and the others, behind so many instructions: where they have passed once they stand
-- behind those that are due no later
idle_from : (front among : ℕ → List Event → List Event) → ℕ → ℕ → ℕ → List Event → List Event
idle_from front among left period n others =
    if nat_le n left then lowered n (front left others) else among (rest_of left period n) (lowered n others)

rest-early : (left period n : ℕ) → n ≤ left → rest_of left period n ≡ left - n
unfolding rest_of
rest-early left period zero early = omega arith
rest-early left period (suc n) early =
    let before : rest_of left period n ≡ left - n = rest-early left period n (omega (arith, early)) in
    let some : (left - n == 0) ≡ false = grind (arith, nat_tests, early) in
    ap (λ (r : ℕ). (if r == 0 then period else r) - 1) before
    ∙ ap (λ (b : Bool). (if b then period else left - n) - 1) some ∙ omega (arith, early)

ticked-some : (u : UnitName) (d : ℕ) (xs : List Event) → 1 ≤ d → AreAtLeast 1 xs → ticked (placed u d xs) ≡ placed u (d - 1) (ticked xs)
ticked-some u d xs some all =
    let more : d ≡ d - 1 + 1 = omega (arith, some) in
    ap (λ (n : ℕ). ticked (placed u n xs)) more ∙ ticked-placed u (d - 1) xs all

-- an event that is not due
some-left : (period r : ℕ) → (if suc r == 0 then period else suc r) ≡ suc r
some-left period r = grind (arith, nat_tests)

-- ---- one event

placed-rests : (u : UnitName) (d : ℕ) (xs : List Event) → 1 ≤ d → AreAtLeast 1 xs → dues (placed u d xs) ≡ []
placed-rests u d xs some all = dues-placed u d xs some ∙ none-due xs all

one-asked : (u : UnitName) (period : ℕ) (xs : List Event) → AreAtLeast 1 xs → waits u xs ≡ false → looked period (event u 0 ∷ xs) ≡ placed u period xs
one-asked u period xs all alone =
    ap (λ (us : List UnitName). asked_again period us (activated u period xs)) (none-due xs all)
    ∙ ap (λ (b : Bool). if b then xs else placed u period xs) alone

one-steps : (u : UnitName) (period r : ℕ) (xs : List Event) → 1 ≤ period → AreAtLeast 1 xs → waits u xs ≡ false
    → ticked (looked period (placed u r xs)) ≡ placed u ((if r == 0 then period else r) - 1) (ticked xs)
one-steps u period zero xs some all alone =
    ap (λ (es : List Event). ticked (looked period es)) (placed-due u xs all) ∙ ap ticked (one-asked u period xs all alone) ∙ ticked-some u period xs some all
one-steps u period (suc r) xs some all alone =
    let later : 1 ≤ suc r = omega arith in
    ap ticked (looked-none period (placed u (suc r) xs) (placed-rests u (suc r) xs later all)) ∙ ticked-some u (suc r) xs later all
    ∙ ap (λ (k : ℕ). placed u (k - 1) (ticked xs)) (sym (some-left period r))

one-rests : (u : UnitName) (left : ℕ) (xs : List Event) → 1 ≤ left → dues (event u left ∷ xs) ≡ []
one-rests u left xs some = grind (arith, nat_tests)

one-runs : (u : UnitName) (period : ℕ) → 1 ≤ period → Runs period (λ left xs. event u left ∷ xs) (placed u) (λ xs. waits u xs ≡ false)
one-runs u period some = record {
  lowers = λ n left xs. refl;
  rests = λ left xs more. one-rests u left xs more;
  stands = λ xs all. sym (placed-due u xs all);
  steps = λ r xs all alone. one-steps u period r xs some all alone;
  stays = λ n xs alone. waits-lowered u n xs ∙ alone;
}

-- ---- two events of one time

abbrev two_front : UnitName → UnitName → ℕ → List Event → List Event
two_front u v left xs = event u left ∷ event v left ∷ xs

abbrev two_among : UnitName → UnitName → ℕ → List Event → List Event
two_among u v r xs = placed v r (placed u r xs)

abbrev AreApart : UnitName → UnitName → List Event → Type 0
AreApart u v xs = (waits u xs ≡ false) × (waits v xs ≡ false)

two-stands : (u v : UnitName) (xs : List Event) → AreAtLeast 1 xs → two_front u v 0 xs ≡ two_among u v 0 xs
two-stands u v xs all =
    sym (ap (λ (es : List Event). placed v 0 es) (placed-due u xs all) ∙ ap (λ (es : List Event). event u 0 ∷ es) (placed-due v xs all))

-- one that is due stands in front where another is placed
placed-behind : (u v : UnitName) (period : ℕ) (xs : List Event) → placed u period (event v 0 ∷ xs) ≡ event v 0 ∷ placed u period xs
placed-behind u v period xs = grind (arith, nat_tests)

first-asked : (u v : UnitName) (period : ℕ) (xs : List Event) → same_unit v u ≡ false → waits u xs ≡ false → activated u period (event v 0 ∷ xs) ≡ event v 0 ∷ placed u period xs
first-asked u v period xs other alone =
    ap (λ (b : Bool). if b || waits u xs then event v 0 ∷ xs else placed u period (event v 0 ∷ xs)) other
    ∙ ap (λ (b : Bool). if b then event v 0 ∷ xs else placed u period (event v 0 ∷ xs)) alone
    ∙ placed-behind u v period xs

two-asked : (u v : UnitName) (period : ℕ) (xs : List Event) → AreAtLeast 1 xs → same_unit u v ≡ false → same_unit v u ≡ false → AreApart u v xs
    → looked period (two_front u v 0 xs) ≡ two_among u v period xs
two-asked u v period xs all other another apart =
    ap (λ (us : List UnitName). asked_again period us (activated v period (served (activated u period (event v 0 ∷ xs))))) (none-due xs all)
    ∙ ap (λ (es : List Event). activated v period (served es)) (first-asked u v period xs another apart.0)
    ∙ ap (λ (b : Bool). if b then placed u period xs else two_among u v period xs) (waits-placed v u period xs other apart.1)

two-ticked : (u v : UnitName) (d : ℕ) (xs : List Event) → 1 ≤ d → AreAtLeast 1 xs → ticked (two_among u v d xs) ≡ two_among u v (d - 1) (ticked xs)
two-ticked u v d xs some all =
    ticked-some v d (placed u d xs) some (least-placed u d xs some all) ∙ ap (λ (es : List Event). placed v (d - 1) es) (ticked-some u d xs some all)

two-steps : (u v : UnitName) (period r : ℕ) (xs : List Event) → 1 ≤ period → AreAtLeast 1 xs → same_unit u v ≡ false → same_unit v u ≡ false → AreApart u v xs
    → ticked (looked period (two_among u v r xs)) ≡ two_among u v ((if r == 0 then period else r) - 1) (ticked xs)
two-steps u v period zero xs some all other another apart =
    ap (λ (es : List Event). ticked (looked period es)) (sym (two-stands u v xs all))
    ∙ ap ticked (two-asked u v period xs all other another apart) ∙ two-ticked u v period xs some all
two-steps u v period (suc r) xs some all other another apart =
    let later : 1 ≤ suc r = omega arith in
    ap ticked (looked-none period (two_among u v (suc r) xs) (placed-rests v (suc r) (placed u (suc r) xs) later (least-placed u (suc r) xs later all)))
    ∙ two-ticked u v (suc r) xs later all
    ∙ ap (λ (k : ℕ). two_among u v (k - 1) (ticked xs)) (sym (some-left period r))

two-rests : (u v : UnitName) (left : ℕ) (xs : List Event) → 1 ≤ left → dues (two_front u v left xs) ≡ []
two-rests u v left xs some = grind (arith, nat_tests)

two-runs : (u v : UnitName) (period : ℕ) → 1 ≤ period → same_unit u v ≡ false → same_unit v u ≡ false → Runs period (two_front u v) (two_among u v) (AreApart u v)
two-runs u v period some other another = record {
  lowers = λ n left xs. refl;
  rests = λ left xs more. two-rests u v left xs more;
  stands = λ xs all. two-stands u v xs all;
  steps = λ r xs all apart. two-steps u v period r xs some all other another apart;
  stays = λ n xs apart. (waits-lowered u n xs ∙ apart.0, waits-lowered v n xs ∙ apart.1);
}

-- ---- what looks come to

at-start : (period : ℕ) (front among : ℕ → List Event → List Event) (Alone : List Event → Type 0) → Runs period front among Alone → (left n : ℕ) (others : List Event) → n < left
    → ticked (looked period (lowered n (front left others))) ≡ lowered (n + 1) (front left others)
at-start period front among Alone runs left n others before =
    let some : 1 ≤ left - n = omega (arith, before) in
    let none : dues (lowered n (front left others)) ≡ [] = ap (λ (es : List Event). dues es) (runs.lowers n left others) ∙ runs.rests (left - n) (lowered n others) some in
    ap ticked (looked-none period (lowered n (front left others)) none) ∙ sym (lowered-more n (front left others))

from-early : (front among : ℕ → List Event → List Event) (left period n : ℕ) (others : List Event) → n ≤ left → idle_from front among left period n others ≡ lowered n (front left others)
unfolding idle_from
from-early front among left period n others early =
    let is : nat_le n left ≡ true = grind (arith, nat_tests, early) in
    ap (λ (b : Bool). if b then lowered n (front left others) else among (rest_of left period n) (lowered n others)) is

from-late : (front among : ℕ → List Event → List Event) (left period n : ℕ) (others : List Event) → left < n → idle_from front among left period n others ≡ among (rest_of left period n) (lowered n others)
unfolding idle_from
from-late front among left period n others late =
    let is : nat_le n left ≡ false = grind (arith, nat_tests, late) in
    ap (λ (b : Bool). if b then lowered n (front left others) else among (rest_of left period n) (lowered n others)) is

-- at the moment at which the events are due they stand in front, where no other is
from-due : (period : ℕ) (front among : ℕ → List Event → List Event) (Alone : List Event → Type 0) → Runs period front among Alone → (left : ℕ) (others : List Event) → AreAtLeast (left + 1) others
    → lowered left (front left others) ≡ among (rest_of left period left) (lowered left others)
from-due period front among Alone runs left others all =
    let now : left - left ≡ 0 = omega arith in
    let rest : rest_of left period left ≡ 0 = rest-early left period left (omega arith) ∙ now in
    runs.lowers left left others
    ∙ ap (λ (n : ℕ). front n (lowered left others)) now
    ∙ runs.stands (lowered left others) (lowered-least left 1 others all)
    ∙ ap (λ (n : ℕ). among n (lowered left others)) (sym rest)

rest-next : (left period n : ℕ) → rest_of left period (suc n) ≡ (if rest_of left period n == 0 then period else rest_of left period n) - 1
unfolding rest_of
rest-next left period n = refl

behind-step : (period : ℕ) (front among : ℕ → List Event → List Event) (Alone : List Event → Type 0) → Runs period front among Alone → (left n : ℕ) (others : List Event) → AreAtLeast (n + 1) others → Alone others
    → ticked (looked period (among (rest_of left period n) (lowered n others))) ≡ among (rest_of left period (suc n)) (lowered (suc n) others)
behind-step period front among Alone runs left n others all alone =
    let more : n + 1 ≡ suc n = omega arith in
    runs.steps (rest_of left period n) (lowered n others) (lowered-least n 1 others all) (runs.stays n others alone)
    ∙ ap (λ (r : ℕ). among r (ticked (lowered n others))) (sym (rest-next left period n))
    ∙ ap (λ (es : List Event). among (rest_of left period (suc n)) es) (sym (lowered-more n others) ∙ ap (λ (k : ℕ). lowered k others) more)

idle-step : (period : ℕ) (front among : ℕ → List Event → List Event) (Alone : List Event → Type 0) → Runs period front among Alone → (left n : ℕ) (others : List Event) → AreAtLeast (n + 1) others → Alone others
    → ticked (looked period (idle_from front among left period n others)) ≡ idle_from front among left period (suc n) others
idle-step period front among Alone runs left n others all alone = by (cases_lt left (suc n))
  where
    by : (left < suc n) ⊎ (suc n ≤ left) → ticked (looked period (idle_from front among left period n others)) ≡ idle_from front among left period (suc n) others
    by (inr early) =
        let more : n + 1 ≡ suc n = omega arith in
        ap (λ (es : List Event). ticked (looked period es)) (from-early front among left period n others (omega (arith, early)))
        ∙ at-start period front among Alone runs left n others (omega (arith, early))
        ∙ ap (λ (k : ℕ). lowered k (front left others)) more
        ∙ sym (from-early front among left period (suc n) others early)
    by (inl late) =
        ap (λ (es : List Event). ticked (looked period es)) (behind (cases_lt left n))
        ∙ behind-step period front among Alone runs left n others all alone
        ∙ sym (from-late front among left period (suc n) others late)
      where
        behind : (left < n) ⊎ (n ≤ left) → idle_from front among left period n others ≡ among (rest_of left period n) (lowered n others)
        behind (inr early) =
            let is : left ≡ n = omega (arith, early, late) in
            subst (λ (k : ℕ). AreAtLeast (k + 1) others → idle_from front among left period k others ≡ among (rest_of left period k) (lowered k others)) is
            (λ least. from-early front among left period left others (omega arith) ∙ from-due period front among Alone runs left others least) all
        behind (inl later) = from-late front among left period n others later

idle-none : (front among : ℕ → List Event → List Event) (left period : ℕ) (others : List Event) → idle_from front among left period 0 others ≡ front left others
idle-none front among left period others = from-early front among left period 0 others (omega arith) ∙ lowered-none (front left others)

-- what so many looks come to
idled-from : (period : ℕ) (front among : ℕ → List Event → List Event) (Alone : List Event → Type 0) → Runs period front among Alone → (left n : ℕ) (others : List Event) → AreAtLeast n others → Alone others
    → idled period n (front left others) ≡ idle_from front among left period n others
unfolding idled
idled-from period front among Alone runs left zero others all alone = sym (idle-none front among left period others)
idled-from period front among Alone runs left (suc n) others all alone =
    let more : n + 1 ≡ suc n = omega arith in
    ap (λ (es : List Event). ticked (looked period es)) (idled-from period front among Alone runs left n others (fewer n (suc n) others (omega arith) all) alone)
    ∙ idle-step period front among Alone runs left n others (fewer (n + 1) (suc n) others (omega arith) all) alone

-- what remains, at once
rest-more : (period r : ℕ) → r < period → ((if (if r == 0 then 0 else period - r) == 0 then period else (if r == 0 then 0 else period - r)) - 1)
    ≡ (if suc r % period == 0 then 0 else period - suc r % period)
rest-more period r low = by (cases_lt (suc r) period)
  where
    left : (if (if r == 0 then 0 else period - r) == 0 then period else (if r == 0 then 0 else period - r)) - 1 ≡ period - suc r
    left = grind (arith, nat_tests, low)

    by : (suc r < period) ⊎ (period ≤ suc r) → ((if (if r == 0 then 0 else period - r) == 0 then period else (if r == 0 then 0 else period - r)) - 1)
        ≡ (if suc r % period == 0 then 0 else period - suc r % period)
    by (inl below) =
        let is : suc r % period ≡ suc r = mod-eq_of_lt below in
        let some : (suc r == 0) ≡ false = grind (arith, nat_tests) in
        left ∙ ap (λ (b : Bool). if b then 0 else period - suc r) (sym some) ∙ ap (λ (n : ℕ). if n == 0 then 0 else period - n) (sym is)
    by (inr whole) =
        let same : suc r ≡ period = omega (arith, whole, low) in
        let is : suc r % period ≡ 0 = ap (λ (n : ℕ). n % period) same ∙ mod_self period in
        let none : period - suc r ≡ 0 = omega (arith, whole) in
        left ∙ none ∙ ap (λ (n : ℕ). if n == 0 then 0 else period - n) (sym is)

pub rest-is : (left period d : ℕ) → 1 ≤ period → rest_of left period (left + d) ≡ (if d % period == 0 then 0 else period - d % period)
rest-is left period zero some =
    let none : 0 % period ≡ 0 = mod-eq_of_lt some in
    rest-early left period (left + 0) (omega arith) ∙ omega arith ∙ ap (λ (n : ℕ). if n == 0 then 0 else period - n) (sym none)
rest-is left period (suc d) some =
    let more : left + suc d ≡ suc (left + d) = omega arith in
    let r = d % period in
    let low : r < period = mod-lt d some in
    ap (λ (n : ℕ). rest_of left period n) more ∙ rest-next left period (left + d)
    ∙ ap (λ (n : ℕ). (if n == 0 then period else n) - 1) (rest-is left period d some)
    ∙ rest-more period r low
    ∙ ap (λ (n : ℕ). if n == 0 then 0 else period - n) (sym (suc-mod d period))

pub rest-late : (left period count : ℕ) → 1 ≤ period → left < count → rest_of left period count ≡ rest_behind left period count
rest-late left period count some late =
    let is : left + (count - left) ≡ count = omega (arith, late) in
    ap (λ (n : ℕ). rest_of left period n) (sym is) ∙ rest-is left period (count - left) some

idled-early : (period : ℕ) (front among : ℕ → List Event → List Event) (Alone : List Event → Type 0) → Runs period front among Alone → (left n : ℕ) (others : List Event) → AreAtLeast n others → Alone others → n ≤ left
    → idled period n (front left others) ≡ lowered n (front left others)
idled-early period front among Alone runs left n others all alone early =
    idled-from period front among Alone runs left n others all alone ∙ from-early front among left period n others early

idled-late : (period : ℕ) (front among : ℕ → List Event → List Event) (Alone : List Event → Type 0) → Runs period front among Alone → (left n : ℕ) (others : List Event) → 1 ≤ period → AreAtLeast n others → Alone others → left < n
    → idled period n (front left others) ≡ among (rest_behind left period n) (lowered n others)
idled-late period front among Alone runs left n others some all alone late =
    idled-from period front among Alone runs left n others all alone ∙ from-late front among left period n others late
    ∙ ap (λ (r : ℕ). among r (lowered n others)) (rest-late left period n some late)

pub idled-nothing : (period n : ℕ) → idled period n [] ≡ []
unfolding idled
idled-nothing period zero = refl
idled-nothing period (suc n) = ap (λ (es : List Event). ticked (looked period es)) (idled-nothing period n)

-- the same over a list, of whose first event so much is left
pub first-early : (period n : ℕ) (e : Event) (es : List Event) → 1 ≤ period → Sound es → AreOthersLater n es → slice_get es 0 ≡ Some e → n ≤ e.remaining
    → idled period n es ≡ lowered n es
first-early period n e [] some sound later is early = absurd (cc)
first-early period n e (x ∷ es) some sound later is early =
    let same : x ≡ e = grind arith in
    idled-early period (λ left xs. event x.unit left ∷ xs) (placed x.unit) (λ xs. waits x.unit xs ≡ false) (one-runs x.unit period some) x.remaining n es later (first-apart x es sound)
    (omega (arith, early, ap (λ (y : Event). y.remaining) same))

pub first-late : (period n : ℕ) (e : Event) (es : List Event) → 1 ≤ period → Sound es → AreOthersLater n es → slice_get es 0 ≡ Some e → e.remaining < n
    → idled period n es ≡ placed e.unit (rest_behind e.remaining period n) (lowered n (remove es 0))
first-late period n e [] some sound later is late = absurd (cc)
first-late period n e (x ∷ es) some sound later is late =
    let same : x ≡ e = grind arith in
    idled-late period (λ left xs. event x.unit left ∷ xs) (placed x.unit) (λ xs. waits x.unit xs ≡ false) (one-runs x.unit period some) x.remaining n es some later (first-apart x es sound)
    (omega (arith, late, ap (λ (y : Event). y.remaining) same))
    ∙ ap (λ (y : Event). placed y.unit (rest_behind y.remaining period n) (lowered n es)) same

pub first-none : (period n : ℕ) (es : List Event) → slice_get es 0 ≡ None → idled period n es ≡ es
first-none period n [] is = idled-nothing period n
first-none period n (x ∷ es) is = absurd (cc)

-- the same of the first two events, which are due at one time
two-runs-of : (x y : Event) (es : List Event) (period : ℕ) → 1 ≤ period → Sound (x ∷ y ∷ es) → Runs period (two_front x.unit y.unit) (two_among x.unit y.unit) (AreApart x.unit y.unit)
two-runs-of x y es period some sound =
    let apart = two-apart x y es sound in
    two-runs x.unit y.unit period some (same-unit-flips x.unit y.unit ∙ apart.0) apart.0

pub twins-early : (period n : ℕ) (e : Event) (es : List Event) → 1 ≤ period → Sound es → AreTwins es → AreLaterThanTwo n es → slice_get es 0 ≡ Some e → n ≤ e.remaining
    → idled period n es ≡ lowered n es
twins-early period n e [] some sound twins later is early = absurd twins
twins-early period n e (x ∷ []) some sound twins later is early = absurd twins
twins-early period n e (x ∷ y ∷ es) some sound twins later is early =
    let same : x ≡ e = grind arith in
    let pair : y ∷ es ≡ event y.unit x.remaining ∷ es = ap (λ (r : ℕ). event y.unit r ∷ es) twins in
    ap (λ (ys : List Event). idled period n (x ∷ ys)) pair
    ∙ idled-early period (two_front x.unit y.unit) (two_among x.unit y.unit) (AreApart x.unit y.unit) (two-runs-of x y es period some sound) x.remaining n es later (two-apart x y es sound).1
    (omega (arith, early, ap (λ (z : Event). z.remaining) same))
    ∙ ap (λ (ys : List Event). lowered n (x ∷ ys)) (sym pair)

pub twins-late : (period n : ℕ) (e f : Event) (es : List Event) → 1 ≤ period → Sound es → AreTwins es → AreLaterThanTwo n es → slice_get es 0 ≡ Some e → slice_get es 1 ≡ Some f
    → e.remaining < n → idled period n es ≡ placed f.unit (rest_behind e.remaining period n) (placed e.unit (rest_behind e.remaining period n) (lowered n (remove (remove es 0) 0)))
twins-late period n e f [] some sound twins later is second late = absurd twins
twins-late period n e f (x ∷ []) some sound twins later is second late = absurd twins
twins-late period n e f (x ∷ y ∷ es) some sound twins later is second late =
    let same : x ≡ e = grind arith in
    let other : y ≡ f = grind arith in
    let pair : y ∷ es ≡ event y.unit x.remaining ∷ es = ap (λ (r : ℕ). event y.unit r ∷ es) twins in
    ap (λ (ys : List Event). idled period n (x ∷ ys)) pair
    ∙ idled-late period (two_front x.unit y.unit) (two_among x.unit y.unit) (AreApart x.unit y.unit) (two-runs-of x y es period some sound) x.remaining n es some later (two-apart x y es sound).1
    (omega (arith, late, ap (λ (z : Event). z.remaining) same))
    ∙ ap (λ (z : Event). placed y.unit (rest_behind z.remaining period n) (placed z.unit (rest_behind z.remaining period n) (lowered n es))) same
    ∙ ap (λ (z : Event). placed z.unit (rest_behind e.remaining period n) (placed e.unit (rest_behind e.remaining period n) (lowered n es))) other

pub no-twins : (es : List Event) → slice_get es 0 ≡ None → ¬ AreTwins es
no-twins [] is twins = twins
no-twins (x ∷ es) is twins = absurd (cc)

pub no-twin : (es : List Event) → slice_get es 1 ≡ None → ¬ AreTwins es
no-twin [] is twins = twins
no-twin (x ∷ []) is twins = twins
no-twin (x ∷ y ∷ es) is twins = absurd (cc)

-- the event that is due first is asked for again: those that are due then are the others
pub again-due : (period : ℕ) (u : UnitName) (es : List Event) → 1 ≤ period → due es ≡ Some u → looked period (activated u period (served es)) ≡ looked period es
again-due period u es some first =
    let at = activated u period (served es) in
    ap (λ (us : List UnitName). asked_again period us at) (dues-activated u period (served es) some)
    ∙ sym (ap (λ (us : List UnitName). asked_again period us es) (dues-some u es first))

pub fewer-due : (period : ℕ) (u : UnitName) (es : List Event) → 1 ≤ period → due es ≡ Some u → length (dues (activated u period (served es))) ≤ length (dues es) - 1
fewer-due period u es some first =
    let rest : length (dues (activated u period (served es))) ≡ length (dues (served es)) = ap (λ (us : List UnitName). length us) (dues-activated u period (served es) some) in
    let all : length (dues es) ≡ suc (length (dues (served es))) = ap (λ (us : List UnitName). length us) (dues-some u es first) in
    omega (arith, rest, all)

served-none : (es : List Event) → due es ≡ None → served es ≡ es
served-none [] none = refl
served-none (e ∷ es) none = grind (arith, nat_tests)

pub again-none : (period : ℕ) (es : List Event) → due es ≡ None → looked period (served es) ≡ looked period es
again-none period es none = ap (λ (xs : List Event). looked period xs) (served-none es none)

pub none-fewer : (es : List Event) → due es ≡ None → length (dues (served es)) ≤ length (dues es) - 1
none-fewer es none =
    let is : length (dues (served es)) ≡ 0 = ap (λ (xs : List Event). length (dues xs)) (served-none es none) ∙ ap (λ (us : List UnitName). length us) (dues-none es none) in
    omega (arith, is)

pub dues-few : (es : List Event) → length (dues es) ≤ length es
dues-few [] = omega arith
dues-few (e ∷ es) = cond_both (eqb e.remaining 0) _ _ (λ (us : List UnitName). length us ≤ length (e ∷ es)) (λ _. let few = dues-few es in omega (arith, few)) (λ _. omega arith)

no-unit : (us : List UnitName) → length us ≤ 0 → us ≡ []
no-unit [] none = refl
no-unit (u ∷ us) none = absurd (omega (arith, none))

pub looked-last : (period : ℕ) (es : List Event) → length (dues es) ≤ 0 → looked period es ≡ es
looked-last period es none = looked-none period es (no-unit (dues es) none)

pub later-none : (count : ℕ) (es : List Event) → slice_get es 1 ≡ None → AreOthersLater count es
later-none count [] none = tt
later-none count (x ∷ []) none = tt
later-none count (x ∷ y ∷ es) none = absurd (cc)

pub later-some : (e : Event) (es : List Event) → Sound es → slice_get es 1 ≡ Some e → AreOthersLater e.remaining es
later-some e [] sound is = absurd (cc)
later-some e (x ∷ []) sound is = absurd (cc)
later-some e (x ∷ y ∷ es) sound is =
    let same : y ≡ e = grind arith in
    subst (λ (z : Event). AreOthersLater z.remaining (x ∷ y ∷ es)) same (omega arith, sound.rising.1.0)

pub third-none : (count : ℕ) (es : List Event) → slice_get es 2 ≡ None → AreLaterThanTwo count es
third-none count [] none = tt
third-none count (x ∷ []) none = tt
third-none count (x ∷ y ∷ []) none = tt
third-none count (x ∷ y ∷ z ∷ es) none = absurd (cc)

pub third-some : (e : Event) (es : List Event) → Sound es → slice_get es 2 ≡ Some e → AreLaterThanTwo e.remaining es
third-some e [] sound is = absurd (cc)
third-some e (x ∷ []) sound is = absurd (cc)
third-some e (x ∷ y ∷ []) sound is = absurd (cc)
third-some e (x ∷ y ∷ z ∷ es) sound is =
    let same : z ≡ e = grind arith in
    subst (λ (w : Event). AreLaterThanTwo w.remaining (x ∷ y ∷ z ∷ es)) same (omega arith, sound.rising.1.1.0)

pub are-twins : (e f : Event) (es : List Event) → slice_get es 0 ≡ Some e → slice_get es 1 ≡ Some f → e.remaining ≡ f.remaining → AreTwins es
are-twins e f [] first second same = absurd (cc)
are-twins e f (x ∷ []) first second same = absurd (cc)
are-twins e f (x ∷ y ∷ es) first second same =
    let one : x ≡ e = grind arith in
    let two : y ≡ f = grind arith in
    ap (λ (z : Event). z.remaining) two ∙ sym same ∙ sym (ap (λ (z : Event). z.remaining) one)

-- ---- two events that are due, and then stand in front of the others

in-front : (u : UnitName) (period : ℕ) (xs : List Event) → IfSome (slice_get xs 0) (λ g. period < g.remaining) → placed u period xs ≡ event u period ∷ xs
in-front u period [] later = refl
in-front u period (g ∷ xs) later = grind (arith, nat_tests, later)

behind-first : (u v : UnitName) (period : ℕ) (xs : List Event) → placed v period (event u period ∷ xs) ≡ event u period ∷ placed v period xs
behind-first u v period xs = grind (arith, nat_tests)

some-later : (period : ℕ) (xs : List Event) → IfSome (slice_get xs 0) (λ g. period < g.remaining) → IfSome (slice_get xs 0) (λ g. 0 < g.remaining)
some-later period [] later = tt
some-later period (g ∷ xs) later = omega (arith, later)

others-later : (xs : List Event) → Rising xs → IfSome (slice_get xs 0) (λ g. 0 < g.remaining) → AreAtLeast 1 xs
others-later [] rising later = tt
others-later (g ∷ xs) rising later =
    let least : 1 ≤ g.remaining = omega (arith, later) in (least, fewer 1 g.remaining xs least rising.0)

-- the first two events are asked for again, where they alone are due
alone-asked : (period : ℕ) (e f : Event) (es : List Event) → Sound es → slice_get es 0 ≡ Some e → slice_get es 1 ≡ Some f → e.remaining ≡ 0 → f.remaining ≡ 0
    → IfSome (slice_get es 2) (λ g. 0 < g.remaining) → looked period es ≡ placed f.unit period (placed e.unit period (remove (remove es 0) 0))
alone-asked period e f [] sound first second none nothing later = absurd (cc)
alone-asked period e f (x ∷ []) sound first second none nothing later = absurd (cc)
alone-asked period e f (x ∷ y ∷ es) sound first second none nothing later =
    let same : x ≡ e = grind arith in
    let other : y ≡ f = grind arith in
    let apart = two-apart x y es sound in
    ap (λ (r : ℕ). looked period (event x.unit r ∷ y ∷ es)) (ap (λ (z : Event). z.remaining) same ∙ none)
    ∙ ap (λ (r : ℕ). looked period (event x.unit 0 ∷ event y.unit r ∷ es)) (ap (λ (z : Event). z.remaining) other ∙ nothing)
    ∙ two-asked x.unit y.unit period es (others-later es sound.rising.1.1 later) (same-unit-flips x.unit y.unit ∙ apart.0) apart.0 apart.1
    ∙ ap (λ (z : Event). placed y.unit period (placed z.unit period es)) same
    ∙ ap (λ (z : Event). placed z.unit period (placed e.unit period es)) other

pub both-asked : (period : ℕ) (e f : Event) (es : List Event) → Sound es → slice_get es 0 ≡ Some e → slice_get es 1 ≡ Some f → e.remaining ≡ 0 → f.remaining ≡ 0
    → IfSome (slice_get es 2) (λ g. period < g.remaining) → looked period es ≡ placed f.unit period (placed e.unit period (remove (remove es 0) 0))
both-asked period e f [] sound first second none nothing later = absurd (cc)
both-asked period e f (x ∷ []) sound first second none nothing later = absurd (cc)
both-asked period e f (x ∷ y ∷ es) sound first second none nothing later = alone-asked period e f (x ∷ y ∷ es) sound first second none nothing (some-later period es later)

pub one-asked-behind : (period : ℕ) (e f g : Event) (es : List Event) → Sound es → slice_get es 0 ≡ Some e → slice_get es 1 ≡ Some f → slice_get es 2 ≡ Some g → e.remaining ≡ 0 → f.remaining ≡ 0
    → 0 < g.remaining → looked period es ≡ placed f.unit period (placed e.unit period (remove (remove es 0) 0))
one-asked-behind period e f g es sound first second third none nothing later =
    alone-asked period e f es sound first second none nothing (subst (λ (o : Option Event). IfSome o (λ z. 0 < z.remaining)) (sym third) later)

-- an event that is due no later stands in front
placed-later : (u : UnitName) (period : ℕ) (g : Event) (xs : List Event) → g.remaining ≤ period → placed u period (g ∷ xs) ≡ g ∷ placed u period xs
placed-later u period g xs early = grind (arith, nat_tests, early)

pub both-set : (period : ℕ) (e f : Event) (es : List Event) → slice_get es 0 ≡ Some e → slice_get es 1 ≡ Some f → IfSome (slice_get es 2) (λ g. period < g.remaining)
    → slice_set (slice_set es 0 (event e.unit period)) 1 (event f.unit period) ≡ placed f.unit period (placed e.unit period (remove (remove es 0) 0))
both-set period e f [] first second later = absurd (cc)
both-set period e f (x ∷ []) first second later = absurd (cc)
both-set period e f (x ∷ y ∷ es) first second later =
    sym
    (ap (λ (xs : List Event). placed f.unit period xs) (in-front e.unit period es later) ∙ behind-first e.unit f.unit period es
    ∙ ap (λ (xs : List Event). event e.unit period ∷ xs) (in-front f.unit period es later))

pub set-behind-one : (period : ℕ) (e f g : Event) (es : List Event) → slice_get es 0 ≡ Some e → slice_get es 1 ≡ Some f → slice_get es 2 ≡ Some g → g.remaining ≤ period
    → IfSome (slice_get es 3) (λ z. period < z.remaining)
    → slice_set (slice_set (slice_set es 0 g) 1 (event e.unit period)) 2 (event f.unit period) ≡ placed f.unit period (placed e.unit period (remove (remove es 0) 0))
set-behind-one period e f g [] first second third early later = absurd (cc)
set-behind-one period e f g (x ∷ []) first second third early later = absurd (cc)
set-behind-one period e f g (x ∷ y ∷ []) first second third early later = absurd (cc)
set-behind-one period e f g (x ∷ y ∷ z ∷ es) first second third early later =
    let same : z ≡ g = grind arith in
    let low : z.remaining ≤ period = subst (λ (w : Event). w.remaining ≤ period) (sym same) early in
    ap (λ (w : Event). w ∷ event e.unit period ∷ event f.unit period ∷ es) (sym same)
    ∙ sym
    (ap (λ (xs : List Event). placed f.unit period xs) (placed-later e.unit period z es low ∙ ap (λ (xs : List Event). z ∷ xs) (in-front e.unit period es later))
    ∙ placed-later f.unit period z (event e.unit period ∷ es) low
    ∙ ap (λ (xs : List Event). z ∷ xs) (behind-first e.unit f.unit period es ∙ ap (λ (xs : List Event). event e.unit period ∷ xs) (in-front f.unit period es later)))

pub both-sound : (period : ℕ) (e f : Event) (es : List Event) → period < 2 ^ 32 → Sound es → slice_get es 0 ≡ Some e → slice_get es 1 ≡ Some f
    → Sound (placed f.unit period (placed e.unit period (remove (remove es 0) 0)))
both-sound period e f [] short sound first second = absurd (cc)
both-sound period e f (x ∷ []) short sound first second = absurd (cc)
both-sound period e f (x ∷ y ∷ es) short sound first second =
    let same : x ≡ e = grind arith in
    let other : y ≡ f = grind arith in
    let apart = two-apart x y es sound in
    let rest : Sound es = record { rising = sound.rising.1.1; distinct = (sound-removed (y ∷ es) (sound-removed (x ∷ y ∷ es) sound)).distinct; units = sound.units.1.1; times = sound.times.1.1 } in
    let placed_both : Sound (placed y.unit period (placed x.unit period es)) =
    sound-placed y.unit period (placed x.unit period es) sound.units.1.0 short (waits-placed y.unit x.unit period es (same-unit-flips x.unit y.unit ∙ apart.0) apart.1.1)
    (sound-placed x.unit period es sound.units.0 short apart.1.0 rest) in
    subst (λ (z : Event). Sound (placed z.unit period (placed e.unit period es))) other
    (subst (λ (z : Event). Sound (placed y.unit period (placed z.unit period es))) same placed_both)

pub ruleset again = (again-due, again-none, fewer-due, none-fewer)

pub ruleset lookings = (looked-last, dues-few)

pub ruleset looks = (first-early, first-late, first-none)

pub ruleset twins = (twins-early, twins-late, no-twins, no-twin)

-- ---- where each event that is due is a look

looks-served : (P : UnitName → Type 0) (count : ℕ) (es : List Event) → AreLooks P count es → AreLooks P count (served es)
looks-served P count [] all = tt
looks-served P count (e ∷ es) all = cond_both (eqb e.remaining 0) _ _ (λ (xs : List Event). AreLooks P count xs) (λ _. all.1) (λ _. all)

looks-activated : (P : UnitName → Type 0) (count : ℕ) (u : UnitName) (t : ℕ) (es : List Event) → P u → AreLooks P count es → AreLooks P count (activated u t es)
looks-activated P count u t es here all =
    cond_both (waits u es) _ _ (λ (xs : List Event). AreLooks P count xs) (λ _. all) (λ _. all-placed (λ (e : Event). P e.unit ⊎ (count ≤ e.remaining)) u t es (inl here) all)

looks-again : (P : UnitName → Type 0) (count period : ℕ) (us : List UnitName) (es : List Event) → AllByRecursion P us → AreLooks P count es → AreLooks P count (asked_again period us es)
looks-again P count period [] es here all = all
looks-again P count period (u ∷ us) es here all =
    looks-again P count period us (activated u period (served es)) here.1 (looks-activated P count u period (served es) here.0 (looks-served P count es all))

pub looks-due : (P : UnitName → Type 0) (count : ℕ) (es : List Event) → 1 ≤ count → AreLooks P count es → AllByRecursion P (dues es)
looks-due P count [] some all = tt
looks-due P count (e ∷ es) some all =
    cond_both (eqb e.remaining 0) _ _ (λ (us : List UnitName). AllByRecursion P us) (λ now. (here now all.0, looks-due P count es some all.1)) (λ _. tt)
  where
    here : eqb e.remaining 0 ≡ true → P e.unit ⊎ (count ≤ e.remaining) → P e.unit
    here now (inl is) = is
    here now (inr later) = let zero_left : e.remaining ≡ 0 = eqb-true e.remaining 0 now in absurd (omega (arith, later, zero_left, some))

looks-ticked : (P : UnitName → Type 0) (count : ℕ) (es : List Event) → AreLooks P (suc count) es → AreLooks P count (ticked es)
looks-ticked P count [] all = tt
looks-ticked P count (e ∷ es) all = (here all.0, looks-ticked P count es all.1)
  where
    here : P e.unit ⊎ (suc count ≤ e.remaining) → P e.unit ⊎ (count ≤ e.remaining - 1)
    here (inl is) = inl is
    here (inr later) = inr (omega (arith, later))

looks-left : (P : UnitName → Type 0) (period n left : ℕ) (es : List Event) → AreLooks P (n + left) es → AreLooks P left (idled period n es)
unfolding idled
looks-left P period zero left es all = let is : zero + left ≡ left = omega arith in subst (λ (k : ℕ). AreLooks P k es) is all
looks-left P period (suc n) left es all =
    let more : suc n + left ≡ n + suc left = omega arith in
    let before : AreLooks P (suc left) (idled period n es) = looks-left P period n (suc left) es (subst (λ (k : ℕ). AreLooks P k es) more all) in
    let one : 1 ≤ suc left = omega arith in
    looks-ticked P left (looked period (idled period n es))
    (looks-again P (suc left) period (dues (idled period n es)) (idled period n es) (looks-due P (suc left) (idled period n es) one before) before)

-- behind so many instructions, before another event is due, those that are due are looks
pub looks-behind : (P : UnitName → Type 0) (period n count : ℕ) (es : List Event) → n < count → AreLooks P count es → AllByRecursion P (dues (idled period n es))
looks-behind P period n count es before all =
    let is : count ≡ n + (count - n) = omega (arith, before) in
    let some : 1 ≤ count - n = omega (arith, before) in
    looks-due P (count - n) (idled period n es) some (looks-left P period n (count - n) es (subst (λ (k : ℕ). AreLooks P k es) is all))

all-later : (P : UnitName → Type 0) (count : ℕ) (es : List Event) → AreAtLeast count es → AreLooks P count es
all-later P count [] all = tt
all-later P count (e ∷ es) all = (inr all.0, all-later P count es all.1)

pub one-looks : (P : UnitName → Type 0) (count : ℕ) (u : UnitName) (es : List Event) → option_map (λ e. e.unit) (slice_get es 0) ≡ Some u → P u → AreOthersLater count es → AreLooks P count es
one-looks P count u [] is here later = tt
one-looks P count u (x ∷ es) is here later =
    let same : u ≡ x.unit = grind arith in (inl (subst P same here), all-later P count es later)

pub two-look : (P : UnitName → Type 0) (count : ℕ) (u v : UnitName) (es : List Event) → option_map (λ e. e.unit) (slice_get es 0) ≡ Some u → option_map (λ e. e.unit) (slice_get es 1) ≡ Some v → P u → P v
    → AreLaterThanTwo count es → AreLooks P count es
two-look P count u v [] is second here there later = tt
two-look P count u v (x ∷ []) is second here there later =
    let same : u ≡ x.unit = grind arith in (inl (subst P same here), tt)
two-look P count u v (x ∷ y ∷ es) is second here there later =
    let same : u ≡ x.unit = grind arith in
    let other : v ≡ y.unit = grind arith in (inl (subst P same here), (inl (subst P other there), all-later P count es later))

pub looks-weaker : (P Q : UnitName → Type 0) (count : ℕ) (es : List Event) → ((u : UnitName) → P u → Q u) → AreLooks P count es → AreLooks Q count es
looks-weaker P Q count [] gives all = tt
looks-weaker P Q count (e ∷ es) gives all = (here all.0, looks-weaker P Q count es gives all.1)
  where
    here : P e.unit ⊎ (count ≤ e.remaining) → Q e.unit ⊎ (count ≤ e.remaining)
    here (inl is) = inl (gives e.unit is)
    here (inr later) = inr later

pub looks-fewer : (P : UnitName → Type 0) (n m : ℕ) (es : List Event) → n ≤ m → AreLooks P m es → AreLooks P n es
looks-fewer P n m [] less all = tt
looks-fewer P n m (e ∷ es) less all = (here all.0, looks-fewer P n m es less all.1)
  where
    here : P e.unit ⊎ (m ≤ e.remaining) → P e.unit ⊎ (n ≤ e.remaining)
    here (inl is) = inl is
    here (inr later) = inr (omega (arith, later, less))

pub others-fewer : (n m : ℕ) (es : List Event) → n ≤ m → AreOthersLater m es → AreOthersLater n es
others-fewer n m [] less later = tt
others-fewer n m (e ∷ es) less later = fewer n m es less later

pub two-fewer : (n m : ℕ) (es : List Event) → n ≤ m → AreLaterThanTwo m es → AreLaterThanTwo n es
two-fewer n m [] less later = tt
two-fewer n m (e ∷ []) less later = tt
two-fewer n m (e ∷ f ∷ es) less later = fewer n m es less later

-- ---- before a time at which no event is due
pub clear-least : (count : ℕ) (es : List Event) → AreAtLeast count es → IsClear count es
clear-least count [] all = λ n before. refl
clear-least count (e ∷ es) all = λ n before. let least = all.0 in grind (arith, nat_tests, least, before)

pub clear-behind : (count : ℕ) (es : List Event) → AreOthersLater count es → IsClear count (remove es 0)
clear-behind count [] later = λ n before. refl
clear-behind count (e ∷ es) later = clear-least count es later

pub clear-behind-two : (count : ℕ) (es : List Event) → AreLaterThanTwo count es → IsClear count (remove (remove es 0) 0)
clear-behind-two count [] later = λ n before. refl
clear-behind-two count (e ∷ []) later = λ n before. refl
clear-behind-two count (e ∷ f ∷ es) later = clear-least count es later

-- ---- looks leave the list sound
sound-asked : (period : ℕ) (us : List UnitName) (es : List Event) → period < 2 ^ 32 → AllByRecursion (λ (u : UnitName). u.unit < units_of u.kind) us → Sound es
    → Sound (asked_again period us es)
sound-asked period [] es short low sound = sound
sound-asked period (u ∷ us) es short low sound =
    sound-asked period us (activated u period (served es)) short low.1 (sound-activated u period (served es) low.0 short (sound-served es sound))

low-dues : (es : List Event) → AllByRecursion (λ (e : Event). e.unit.unit < units_of e.unit.kind) es → AllByRecursion (λ (u : UnitName). u.unit < units_of u.kind) (dues es)
low-dues [] low = tt
low-dues (e ∷ es) low =
    cond_both (eqb e.remaining 0) _ _ (λ (us : List UnitName). AllByRecursion (λ (u : UnitName). u.unit < units_of u.kind) us) (λ _. (low.0, low-dues es low.1)) (λ _. tt)

pub sound-looked : (period : ℕ) (es : List Event) → period < 2 ^ 32 → Sound es → Sound (looked period es)
sound-looked period es short sound = sound-asked period (dues es) es short (low-dues es sound.units) sound

-- ---- looks leave the units that wait
pub waits-among : (u v : UnitName) (t : ℕ) (es : List Event) → waits v (placed u t es) ≡ (same_unit u v || waits v es)
waits-among u v t [] = refl
waits-among u v t (e ∷ es) =
    cond_both (leb e.remaining t) _ _ (λ (xs : List Event). waits v xs ≡ (same_unit u v || waits v (e ∷ es)))
    (λ _. ap (λ (b : Bool). same_unit e.unit v || b) (waits-among u v t es) ∙ turned (same_unit e.unit v) (same_unit u v) (waits v es))
    (λ _. refl)
  where
    turned : (x y z : Bool) → (x || (y || z)) ≡ (y || (x || z))
    turned true true z = refl
    turned true false z = refl
    turned false y z = refl

waits-asked : (v : UnitName) (period : ℕ) (us : List UnitName) (es : List Event) → 1 ≤ period → period < 2 ^ 32 → Sound es → dues es ≡ us
    → waits v (asked_again period us es) ≡ waits v es
waits-asked v period [] es some short sound is = refl
waits-asked v period (u ∷ us) [] some short sound is = absurd (cc)
waits-asked v period (u ∷ us) (e ∷ es) some short sound is =
    let first : due (e ∷ es) ≡ Some u = grind (arith, nat_tests) in
    let taken : served (e ∷ es) ≡ es = grind (arith, nat_tests) in
    let unit : e.unit ≡ u = grind (arith, nat_tests) in
    let rest : dues es ≡ us = grind (arith, nat_tests) in
    let apart : waits u es ≡ false = subst (λ (x : UnitName). waits x es ≡ false) unit (first-apart e es sound) in
    let low : u.unit < units_of u.kind = subst (λ (x : UnitName). x.unit < units_of x.kind) unit sound.units.0 in
    let behind : activated u period es ≡ placed u period es = ap (λ (b : Bool). if b then es else placed u period es) apart in
    ap (λ (xs : List Event). waits v (asked_again period us (activated u period xs))) taken
    ∙ waits-asked v period us (activated u period es) some short (sound-activated u period es low short (sound-removed (e ∷ es) sound)) (dues-activated u period es some ∙ rest)
    ∙ ap (λ (xs : List Event). waits v xs) behind ∙ waits-among u v period es
    ∙ ap (λ (x : UnitName). same_unit x v || waits v es) (sym unit)

pub waits-looked : (v : UnitName) (period : ℕ) (es : List Event) → 1 ≤ period → period < 2 ^ 32 → Sound es → waits v (looked period es) ≡ waits v es
waits-looked v period es some short sound = waits-asked v period (dues es) es some short sound refl

sound-idled : (period n : ℕ) (es : List Event) → period < 2 ^ 32 → Sound es → Sound (idled period n es)
unfolding idled
sound-idled period zero es short sound = sound
sound-idled period (suc n) es short sound = sound-lowered 1 (looked period (idled period n es)) (sound-looked period (idled period n es) short (sound-idled period n es short sound))

pub waits-idled : (v : UnitName) (period n : ℕ) (es : List Event) → 1 ≤ period → period < 2 ^ 32 → Sound es → waits v (idled period n es) ≡ waits v es
unfolding idled
waits-idled v period zero es some short sound = refl
waits-idled v period (suc n) es some short sound =
    waits-lowered v 1 (looked period (idled period n es)) ∙ waits-looked v period (idled period n es) some short (sound-idled period n es short sound)
    ∙ waits-idled v period n es some short sound
