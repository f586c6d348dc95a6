-- The units and the events of a saved machine as they are put back.
use Rattle.std.proofs.Common.{◌≡◌, ◌⊎◌, ℕ, zero, suc, ◌+◌, ◌≤◌, ◌<◌, ◌&&◌, ◌||◌, ◌==◌, eqb, not, if◌then◌else◌, append-nil, subst, Bool, true, false, List, [], ◌∷◌, ◌++◌, length, map, take, Option, Some, inl, inr, refl, sym, ap, ◌∙◌, arith}
use Rattle.std.specs.Prelude.{nat_le, nat_lt, slice_get, slice_set, replicate, option_map}
use Rattle.std.specs.List.{AllByRecursion, IsDistinct, list_any}
use Rattle.std.proofs.lemmas.Bool.{and_from, and_parts, or_from, or_parts, not-true, false_from_ne_true, both_ways, leb-true, ltb-true, ltb-false, eq-eqb, eqb-true}
use Rattle.std.proofs.lemmas.List.{length-map, length-append}
use Rattle.unit_trait.specs.declared.kind.Kind.{Kind}
use Rattle.unit_trait.specs.declared.kind.Kind.TheVariants.{Qty}
use Rattle.unit_trait.specs.declared.kind.UnitName.{UnitName}
use Rattle.unit_trait.specs.Kinds.{all_kinds, units_of, code_of, same_unit}
use Rattle.unit_trait.specs.Multiplexer.{line_numbers}
use Rattle.unit_trait.specs.Registers.{Register, registers, register_at}
use Rattle.unit_trait.specs.Row.{InRange}
use Rattle.unit_trait.specs.Calls.{UnitState}
use Rattle.unit_trait.proofs.Codes.{same-code}
use Rattle.unit_list.specs.Bus.{AllFit, kinds_of}
use Rattle.event_queue.specs.EventList.{Event, waiting, Sound}
use Rattle.unit_list.specs.BusOrder.{place_of}
use Rattle.unit_list.proofs.LineRows.{multiplexer-begins}
use Rattle.nova_machine.specs.Core.{IsAmong}
use Rattle.nova_machine.specs.Machine.{has_multiplexer}
use Rattle.saved_session.specs.declared.saved.SavedEvent.{SavedEvent}
use Rattle.saved_session.specs.Parts.{UnitPart, MachinePart}
use Rattle.saved_session.specs.Ranges.{kind_at, standard_kinds, most_kinds, is_unit_count, is_position, register_count, within_limits, holds_value, is_event_of, is_free, is_later}
use Rattle.saved_session.specs.Valid.{Follow, CanHold, IsUnit, IsEvent, IsMachine}
use Rattle.saved_session.specs.Order.{next_number, with_event}
use Rattle.state_transfer.specs.PutBack.{unit_from, lack_multiplexer, first_multiplexer, missing_from, units_from, event_from}
use Rattle.state_transfer.specs.SavedValid.{AreStandard}
use Rattle.state_transfer.proofs.TakingLemmas.{ten-lack, eleven-have, ten-many, eleven-many}

-- ---- the units

AreFrom : List Register → ℕ → List Register → Type 0
AreFrom all i rs = (k : ℕ) → slice_get all (k + i) ≡ slice_get rs k

limits-hold : (r : Register) (v : ℕ) → within_limits v (Some (r.least, r.largest)) ≡ true
    → (r.least ≤ v) × (v ≤ r.largest)
limits-hold r v within =
    let parts = and_parts (nat_le r.least v) (nat_le v r.largest) within in
    (leb-true r.least v parts.0, leb-true v r.largest parts.1)

registers-in : (kind : Kind) (i : ℕ) (rs : List Register) (vs : List ℕ) → AreFrom (registers kind) i rs
    → length vs ≡ length rs → Follow (CanHold kind) next_number i vs → InRange rs vs
unfolding AreFrom holds_value
registers-in kind i [] [] from same hold = tt
registers-in kind i [] (v ∷ vs) from same hold = absurd (omega (arith, same))
registers-in kind i (r ∷ rs) [] from same hold = absurd (omega (arith, same))
registers-in kind i (r ∷ rs) (v ∷ vs) from same hold =
    let here : register_at kind i ≡ Some r = ap (slice_get (registers kind)) (omega arith) ∙ from 0 in
    let within = ap (λ (x : Option Register). within_limits v (option_map (λ (y : Register). (y.least, y.largest)) x))
    (sym here) ∙ hold.0.1 in
    let limits = limits-hold r v within in (
      limits.0,
      limits.1,
      registers-in kind (i + 1) rs vs (λ k. ap (slice_get (registers kind)) (omega arith) ∙ from (suc k))
          (omega (arith, same)) hold.1,
    )

pub units-fit : (i : ℕ) (us : List UnitPart) → Follow IsUnit next_number i us → AllFit (map unit_from us)
unfolding register_count AreFrom
units-fit i [] are = tt
units-fit i (u ∷ us) are = (
  registers-in (kind_at u.position) 0 (registers (kind_at u.position)) u.registers
      (λ k. ap (slice_get (registers (kind_at u.position))) (omega arith)) are.0.all are.0.registers,
  units-fit (i + 1) us are.1,
)

-- so many kinds from a position on
kinds_from : ℕ → ℕ → List Kind
kinds_from i zero = []
kinds_from i (suc n) = kind_at i ∷ kinds_from (i + 1) n

kinds-are : (i n : ℕ) (us : List UnitPart) → length us ≡ n → Follow IsUnit next_number i us
    → kinds_of (map unit_from us) ≡ kinds_from i n
unfolding kinds_from
kinds-are i zero [] size are = refl
kinds-are i zero (u ∷ us) size are = absurd (omega (arith, size))
kinds-are i (suc n) [] size are = absurd (omega (arith, size))
kinds-are i (suc n) (u ∷ us) size are =
    λ j. kind_at (are.0.position j) ∷ kinds-are (i + 1) n us (omega (arith, size)) are.1 j

ten-kinds : kinds_from 0 standard_kinds ≡ take standard_kinds all_kinds
unfolding kinds_from kind_at
ten-kinds = refl

eleven-kinds : kinds_from 0 most_kinds ≡ all_kinds
unfolding kinds_from kind_at
eleven-kinds = refl

pub are-ten : (us : List UnitPart) → length us ≡ standard_kinds → Follow IsUnit next_number 0 us
    → kinds_of (map unit_from us) ≡ take standard_kinds all_kinds
are-ten us all are = kinds-are 0 standard_kinds us all are ∙ ten-kinds

pub are-eleven : (us : List UnitPart) → length us ≡ most_kinds → Follow IsUnit next_number 0 us
    → kinds_of (map unit_from us) ≡ all_kinds
are-eleven us all are = kinds-are 0 most_kinds us all are ∙ eleven-kinds

-- there are ten of them, or eleven
pub ten-or-eleven : (n : ℕ) → is_unit_count n ≡ true → (n ≡ standard_kinds) ⊎ (n ≡ most_kinds)
ten-or-eleven n is = by-test (n == standard_kinds) refl
  where
    by-test : (b : Bool) → (n == standard_kinds) ≡ b → (n ≡ standard_kinds) ⊎ (n ≡ most_kinds)
    by-test true same = inl (eqb-true n standard_kinds same)
    by-test false other = inr (eqb-true n most_kinds (sym (ap (λ (b : Bool). b || (n == most_kinds)) other) ∙ is))

pub count-low : (n : ℕ) → is_unit_count n ≡ true → n ≤ most_kinds
count-low n is = low (ten-or-eleven n is)
  where
    low : (n ≡ standard_kinds) ⊎ (n ≡ most_kinds) → n ≤ most_kinds
    low (inl ten) = omega (arith, ten)
    low (inr eleven) = omega (arith, eleven)

-- whether the multiplexer is among them is told by how many they are
pub has-told : (us : List UnitPart) → is_unit_count (length us) ≡ true → Follow IsUnit next_number 0 us
    → has_multiplexer (map unit_from us) ≡ (length us == most_kinds)
has-told us count are = told (ten-or-eleven (length us) count)
  where
    told : (length us ≡ standard_kinds) ⊎ (length us ≡ most_kinds) → has_multiplexer (map unit_from us) ≡ (length us == most_kinds)
    told (inl ten) = ten-lack (map unit_from us) (are-ten us ten are) ∙ sym (ap (λ (n : ℕ). n == most_kinds) ten)
    told (inr eleven) = eleven-have (map unit_from us) (are-eleven us eleven are) ∙ sym (ap (λ (n : ℕ). n == most_kinds) eleven)

pub lacks-told : (us : List UnitPart) → is_unit_count (length us) ≡ true → Follow IsUnit next_number 0 us
    → not (has_multiplexer (map unit_from us)) ≡ (length us == standard_kinds)
lacks-told us count are = told (ten-or-eleven (length us) count)
  where
    told : (length us ≡ standard_kinds) ⊎ (length us ≡ most_kinds) → not (has_multiplexer (map unit_from us)) ≡ (length us == standard_kinds)
    told (inl ten) = ap not (ten-lack (map unit_from us) (are-ten us ten are)) ∙ sym (ap (λ (n : ℕ). n == standard_kinds) ten)
    told (inr eleven) = ap not (eleven-have (map unit_from us) (are-eleven us eleven are)) ∙ sym (ap (λ (n : ℕ). n == standard_kinds) eleven)

-- .. and so is whether it is missing, on either side
pub missing-tested : (us : List UnitPart) (present : List UnitState) (n : ℕ) (b : Bool) → is_unit_count (length us) ≡ true
    → Follow IsUnit next_number 0 us → n ≡ length us → b ≡ has_multiplexer present
    → ((n == most_kinds) && not b) ≡ lack_multiplexer present (map unit_from us)
missing-tested us present n b count are size has =
    (λ i. (size i == most_kinds) && not (has i)) ∙ ap (λ (x : Bool). x && not (has_multiplexer present)) (sym (has-told us count are))

pub lacking-tested : (us : List UnitPart) (present : List UnitState) (n : ℕ) (b : Bool) → is_unit_count (length us) ≡ true
    → Follow IsUnit next_number 0 us → n ≡ length us → b ≡ has_multiplexer present
    → (b && (n == standard_kinds)) ≡ lack_multiplexer (map unit_from us) present
lacking-tested us present n b count are size has =
    (λ i. has i && (size i == standard_kinds)) ∙ ap (λ (x : Bool). has_multiplexer present && x) (sym (lacks-told us count are))

kinds-both : (us vs : List UnitState) → kinds_of (us ++ vs) ≡ kinds_of us ++ kinds_of vs
kinds-both [] vs = refl
kinds-both (u ∷ us) vs = ap (λ (ks : List Kind). u.kind ∷ ks) (kinds-both us vs)

first-kinds : kinds_of (first_multiplexer ∷ []) ≡ Qty ∷ []
unfolding first_multiplexer
first-kinds = refl

-- ten, and the multiplexer behind them
pub ten-more : (us : List UnitState) → kinds_of us ≡ take standard_kinds all_kinds → kinds_of (us ++ first_multiplexer ∷ []) ≡ all_kinds
ten-more us ten = kinds-both us (first_multiplexer ∷ []) ∙ (λ i. ten i ++ first-kinds i)

nothing-behind : (us : List UnitState) → us ++ [] ≡ us
nothing-behind us = append-nil us

pub units-standard : (m : MachinePart) (present : List UnitState) → IsMachine m → AreStandard (units_from m.units present)
units-standard m present is = by-count (ten-or-eleven (length m.units) is.all)
  where
    us : List UnitState
    us = map unit_from m.units

    by-present : (b : Bool) → kinds_of us ≡ take standard_kinds all_kinds
        → AreStandard (us ++ (if b && not false then first_multiplexer ∷ [] else []))
    by-present true ten = inr (ten-more us ten)
    by-present false ten = inl (ap kinds_of (nothing-behind us) ∙ ten)

    by-all : (b : Bool) → kinds_of us ≡ all_kinds
        → AreStandard (us ++ (if b && not true then first_multiplexer ∷ [] else []))
    by-all true eleven = inr (ap kinds_of (nothing-behind us) ∙ eleven)
    by-all false eleven = inr (ap kinds_of (nothing-behind us) ∙ eleven)

    behind : (b : Bool) → has_multiplexer us ≡ b
        → us ++ (if has_multiplexer present && not b then first_multiplexer ∷ [] else []) ≡ units_from m.units present
    behind b same = ap (λ (x : Bool). us ++ (if has_multiplexer present && not x then first_multiplexer ∷ [] else [])) (sym same)

    by-count : (length m.units ≡ standard_kinds) ⊎ (length m.units ≡ most_kinds) → AreStandard (units_from m.units present)
    by-count (inl ten) =
        let kinds = are-ten m.units ten is.units in
        subst AreStandard (behind false (ten-lack us kinds)) (by-present (has_multiplexer present) kinds)
    by-count (inr eleven) =
        let kinds = are-eleven m.units eleven is.units in
        subst AreStandard (behind true (eleven-have us kinds)) (by-all (has_multiplexer present) kinds)

-- a machine has at least as many units as were saved
pub as-many-units : (us : List UnitPart) (present : List UnitState) → length us ≤ length (units_from us present)
as-many-units us present =
    let both = length-append (map unit_from us) (missing_from (map unit_from us) present) in
    let same = length-map us unit_from in
    omega (arith, both, same)

-- 131 registers, of which the third is 100
pub registers_first : slice_set (replicate 131 0) 2 100 ≡ first_multiplexer.registers
unfolding first_multiplexer line_numbers
registers_first = refl

pub first_fits : InRange (registers Qty) first_multiplexer.registers
unfolding first_multiplexer
first_fits = multiplexer-begins

fit-both : (us vs : List UnitState) → AllFit us → AllFit vs → AllFit (us ++ vs)
fit-both [] vs one two = two
fit-both (u ∷ us) vs one two = (one.0, fit-both us vs one.1 two)

first-fit : AllFit (first_multiplexer ∷ [])
unfolding first_multiplexer
first-fit = (multiplexer-begins, tt)

missing-fit : (b : Bool) → AllFit (if b then first_multiplexer ∷ [] else [])
missing-fit true = first-fit
missing-fit false = tt

pub all-units-fit : (us : List UnitPart) (present : List UnitState) → Follow IsUnit next_number 0 us → AllFit (units_from us present)
all-units-fit us present are =
    fit-both (map unit_from us) (missing_from (map unit_from us) present) (units-fit 0 us are)
    (missing-fit (lack_multiplexer (map unit_from us) present))

-- ---- the events

-- what no event of these is, it is not
Among : SavedEvent → List SavedEvent → Type 0
Among x front = (p : SavedEvent → Bool) → list_any p front ≡ false → p x ≡ false

any-front : (p : SavedEvent → Bool) (xs : List SavedEvent) (y : SavedEvent) → list_any p (xs ++ y ∷ []) ≡ false
    → (list_any p xs ≡ false) × (p y ≡ false)
any-front p [] y none = (refl, (or_parts (p y) false none).0)
any-front p (x ∷ xs) y none =
    let parts = or_parts (p x) (list_any p (xs ++ y ∷ [])) none in
    let more = any-front p xs y parts.1 in
    (or_from (p x) (list_any p xs) parts.0 more.0, more.1)

-- a later event
record ComesBehind (x l : SavedEvent) : Type 0 where
  times : x.remaining ≤ l.remaining
  units : same_unit (event_from x).unit (event_from l).unit ≡ false

position-back : (p : ℕ) → p < most_kinds → place_of (kind_at p) ≡ p
unfolding kind_at
position-back zero low = refl
position-back (suc zero) low = refl
position-back (suc (suc zero)) low = refl
position-back (suc (suc (suc zero))) low = refl
position-back (suc (suc (suc (suc zero)))) low = refl
position-back (suc (suc (suc (suc (suc zero))))) low = refl
position-back (suc (suc (suc (suc (suc (suc zero)))))) low = refl
position-back (suc (suc (suc (suc (suc (suc (suc zero))))))) low = refl
position-back (suc (suc (suc (suc (suc (suc (suc (suc zero)))))))) low = refl
position-back (suc (suc (suc (suc (suc (suc (suc (suc (suc zero))))))))) low = refl
position-back (suc (suc (suc (suc (suc (suc (suc (suc (suc (suc zero)))))))))) low = refl
position-back (suc (suc (suc (suc (suc (suc (suc (suc (suc (suc (suc n))))))))))) low = absurd (omega (arith, low))

among-ten : (p : ℕ) → p < standard_kinds → IsAmong (kind_at p) (take standard_kinds all_kinds)
unfolding kind_at
among-ten zero low = inl refl
among-ten (suc zero) low = inr (inl refl)
among-ten (suc (suc zero)) low = inr (inr (inl refl))
among-ten (suc (suc (suc zero))) low = inr (inr (inr (inl refl)))
among-ten (suc (suc (suc (suc zero)))) low = inr (inr (inr (inr (inl refl))))
among-ten (suc (suc (suc (suc (suc zero))))) low = inr (inr (inr (inr (inr (inl refl)))))
among-ten (suc (suc (suc (suc (suc (suc zero)))))) low = inr (inr (inr (inr (inr (inr (inl refl))))))
among-ten (suc (suc (suc (suc (suc (suc (suc zero))))))) low = inr (inr (inr (inr (inr (inr (inr (inl refl)))))))
among-ten (suc (suc (suc (suc (suc (suc (suc (suc zero)))))))) low = inr (inr (inr (inr (inr (inr (inr (inr (inl refl))))))))
among-ten (suc (suc (suc (suc (suc (suc (suc (suc (suc zero))))))))) low = inr (inr (inr (inr (inr (inr (inr (inr (inr (inl refl)))))))))
among-ten (suc (suc (suc (suc (suc (suc (suc (suc (suc (suc n)))))))))) low = absurd (omega (arith, low))

among-eleven : (p : ℕ) → p < most_kinds → IsAmong (kind_at p) all_kinds
unfolding kind_at
among-eleven zero low = inl refl
among-eleven (suc zero) low = inr (inl refl)
among-eleven (suc (suc zero)) low = inr (inr (inl refl))
among-eleven (suc (suc (suc zero))) low = inr (inr (inr (inl refl)))
among-eleven (suc (suc (suc (suc zero)))) low = inr (inr (inr (inr (inl refl))))
among-eleven (suc (suc (suc (suc (suc zero))))) low = inr (inr (inr (inr (inr (inl refl)))))
among-eleven (suc (suc (suc (suc (suc (suc zero)))))) low = inr (inr (inr (inr (inr (inr (inl refl))))))
among-eleven (suc (suc (suc (suc (suc (suc (suc zero))))))) low = inr (inr (inr (inr (inr (inr (inr (inl refl)))))))
among-eleven (suc (suc (suc (suc (suc (suc (suc (suc zero)))))))) low = inr (inr (inr (inr (inr (inr (inr (inr (inl refl))))))))
among-eleven (suc (suc (suc (suc (suc (suc (suc (suc (suc zero))))))))) low = inr (inr (inr (inr (inr (inr (inr (inr (inr (inl refl)))))))))
among-eleven (suc (suc (suc (suc (suc (suc (suc (suc (suc (suc zero)))))))))) low = inr (inr (inr (inr (inr (inr (inr (inr (inr (inr (inl refl))))))))))
among-eleven (suc (suc (suc (suc (suc (suc (suc (suc (suc (suc (suc n))))))))))) low = absurd (omega (arith, low))

-- the kind at a position is among those of a standard machine
pub among-standard : (us : List UnitState) (p : ℕ) → AreStandard us → p < length us → IsAmong (kind_at p) (kinds_of us)
among-standard us p (inl ten) low =
    let many = ten-many us ten in
    subst (IsAmong (kind_at p)) (sym ten) (among-ten p (omega (arith, low, many)))
among-standard us p (inr eleven) low =
    let many = eleven-many us eleven in
    subst (IsAmong (kind_at p)) (sym eleven) (among-eleven p (omega (arith, low, many)))

pub position-low : (count p : ℕ) → is_position count p ≡ true → p < count
position-low count p is = ltb-true p count is

module _ (count : ℕ) (few : count ≤ most_kinds) where
  below : (p : ℕ) → is_position count p ≡ true → p < most_kinds
  below p is = let low = position-low count p is in omega (arith, low, few)

  other-unit : (x l : SavedEvent) → is_position count x.position ≡ true → is_position count l.position ≡ true
      → is_event_of l.position l.unit x ≡ false → same_unit (event_from x).unit (event_from l).unit ≡ false
  other-unit x l first second other =
      false_from_ne_true (same_unit (event_from x).unit (event_from l).unit)
      (λ same.
      let parts = and_parts (eqb (code_of (kind_at x.position)) (code_of (kind_at l.position)))
      (eqb x.unit l.unit) same in
      let kinds = same-code (kind_at x.position) (kind_at l.position)
      (eqb-true (code_of (kind_at x.position)) (code_of (kind_at l.position)) parts.0) in
      let positions : x.position ≡ l.position =
      sym (position-back x.position (below x.position first)) ∙ ap place_of kinds
      ∙ position-back l.position (below l.position second) in
      both_ways (is_event_of l.position l.unit x) other
      (and_from _ _ (eq-eqb x.position l.position positions) parts.1))

  comes-behind : (front : List SavedEvent) (x l : SavedEvent) → is_position count x.position ≡ true → Among x front
      → IsEvent count front l → ComesBehind x l
  unfolding Among
  comes-behind front x l low among is =
      let wait = and_parts (nat_lt l.unit (units_of (kind_at l.position))) (is_free front l.position l.unit) is.unit in
      let free = among (is_event_of l.position l.unit)
      (not-true (list_any (is_event_of l.position l.unit) front) wait.1) in
      let late = among (is_later l.remaining) (not-true (list_any (is_later l.remaining) front) is.last) in
      record { times = ltb-false l.remaining x.remaining late; units = other-unit x l low is.position free }

  all-behind : (front : List SavedEvent) (x : SavedEvent) (es : List SavedEvent) → is_position count x.position ≡ true
      → Among x front → Follow (IsEvent count) with_event front es → AllByRecursion (ComesBehind x) es
  unfolding Among
  all-behind front x [] low among are = tt
  all-behind front x (l ∷ es) low among are = (
    comes-behind front x l low among are.0,
    all-behind (front ++ l ∷ []) x es low (λ p none. among p (any-front p front l none).0) are.1,
  )

times-behind : (x : SavedEvent) (es : List SavedEvent) → AllByRecursion (ComesBehind x) es
    → AllByRecursion (λ (later : Event). x.remaining ≤ later.remaining) (map event_from es)
times-behind x [] all = tt
times-behind x (l ∷ es) all = (all.0.times, times-behind x es all.1)

units-behind : (x : SavedEvent) (es : List SavedEvent) → AllByRecursion (ComesBehind x) es
    → AllByRecursion (λ (u : UnitName). same_unit (event_from x).unit u ≡ false) (waiting (map event_from es))
units-behind x [] all = tt
units-behind x (l ∷ es) all = (all.0.units, units-behind x es all.1)

pub events-sound : (count : ℕ) (front es : List SavedEvent) → count ≤ most_kinds
    → Follow (IsEvent count) with_event front es → Sound (map event_from es)
unfolding IsDistinct Among
events-sound count front [] few are = record { rising = tt; distinct = tt; units = tt; times = tt }
events-sound count front (e ∷ es) few are =
    let more = events-sound count (front ++ e ∷ []) es few are.1 in
    let behind = all-behind count few (front ++ e ∷ []) e es are.0.position (λ p none. (any-front p front e none).1) are.1 in
    let wait = and_parts (nat_lt e.unit (units_of (kind_at e.position))) (is_free front e.position e.unit) are.0.unit in
    record {
      rising = (times-behind e es behind, more.rising);
      distinct = (units-behind e es behind, more.distinct);
      units = (ltb-true e.unit (units_of (kind_at e.position)) wait.0, more.units);
      times = (are.0.remaining, more.times);
    }
