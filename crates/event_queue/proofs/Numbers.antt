-- Each unit has a number below 81 of its own, so that a list in which no unit is twice has at most 81 events.
use Rattle.std.proofs.Common.{◌≡◌, ℕ, ◌+◌, ◌<◌, ◌≤◌, eqb, nat_lt, List, [], ◌∷◌, map, length, true, false, sym, ap, ◌∙◌, inl, inr, if◌then◌else◌, arith}
use Rattle.std.specs.List.{AllByRecursion, IsDistinct, list_any}
use Rattle.std.proofs.lemmas.Bool.{and_from, eq-eqb, ne_eqb, eqb-true, both_ways, or_cases}
use Rattle.std.proofs.lemmas.Bool.Decides.{nat_tests}
use Rattle.std.proofs.lemmas.List.{length-map}
use Rattle.std.proofs.lemmas.Map.Steps.{length-le_from_distinct_below}
use Rattle.unit_trait.specs.declared.kind.Kind.{Kind}
use Rattle.unit_trait.specs.declared.kind.Kind.TheVariants.{Dsk, Mta, Lpt, Ptr, Ptp, Clk, Tti, Tto, Tti1, Tto1, Qty}
use Rattle.unit_trait.specs.declared.kind.UnitName.{UnitName}
use Rattle.unit_trait.specs.Kinds.{units_of, code_of, same_unit}
use Rattle.unit_trait.proofs.EveryKind.{every-kind}
use Rattle.event_queue.specs.EventList.{Event, waits, waiting, Sound, IsApart}
use Rattle.event_queue.specs.Active.{first_of, number}
use Rattle.event_queue.proofs.SoundLists.{none-waits}

-- the kind of the unit with a number
kind_of : ℕ → Kind
kind_of n =
    if nat_lt n 1 then Dsk else if nat_lt n 9 then Mta else if nat_lt n 10 then Lpt else if nat_lt n 11 then Ptr else if nat_lt n 12 then Ptp
    else if nat_lt n 13 then Clk else if nat_lt n 14 then Tti else if nat_lt n 15 then Tto else if nat_lt n 16 then Tti1 else if nat_lt n 17 then Tto1 else Qty

kind-number : (kind : Kind) (n : ℕ) → n < units_of kind → kind_of (first_of kind + n) ≡ kind
unfolding kind_of
kind-number kind =
    every-kind (λ (k : Kind). (n : ℕ) → n < units_of k → kind_of (first_of k + n) ≡ k)
    ((λ n low. grind (arith, nat_tests)), (λ n low. grind (arith, nat_tests)), (λ n low. grind (arith, nat_tests)), (λ n low. grind (arith, nat_tests)), (λ n low. grind (arith, nat_tests)), (λ n low. grind (arith, nat_tests)), (λ n low. grind (arith, nat_tests)), (λ n low. grind (arith, nat_tests)), (λ n low. grind (arith, nat_tests)), (λ n low. grind (arith, nat_tests)), (λ n low. grind (arith, nat_tests))) kind

number-low : (kind : Kind) (n : ℕ) → n < units_of kind → first_of kind + n < 81
number-low kind =
    every-kind (λ (k : Kind). (n : ℕ) → n < units_of k → first_of k + n < 81)
    ((λ n low. omega (arith, low)), (λ n low. omega (arith, low)), (λ n low. omega (arith, low)), (λ n low. omega (arith, low)), (λ n low. omega (arith, low)), (λ n low. omega (arith, low)), (λ n low. omega (arith, low)), (λ n low. omega (arith, low)), (λ n low. omega (arith, low)), (λ n low. omega (arith, low)), (λ n low. omega (arith, low))) kind

pub number-below : (u : UnitName) → u.unit < units_of u.kind → number u < 81
number-below u low = number-low u.kind u.unit low

-- units with one number are one
number-tells : (a b : UnitName) → a.unit < units_of a.kind → b.unit < units_of b.kind → number a ≡ number b → same_unit a b ≡ true
number-tells a b low_a low_b same =
    let kinds : a.kind ≡ b.kind = sym (kind-number a.kind a.unit low_a) ∙ ap kind_of same ∙ kind-number b.kind b.unit low_b in
    let firsts : first_of a.kind ≡ first_of b.kind = ap first_of kinds in
    let units : a.unit ≡ b.unit = omega arith in
    and_from _ _ (eq-eqb (code_of a.kind) (code_of b.kind) (ap code_of kinds)) (eq-eqb a.unit b.unit units)

pub numbers-differ : (a b : UnitName) → a.unit < units_of a.kind → b.unit < units_of b.kind → same_unit a b ≡ false → eqb (number a) (number b) ≡ false
numbers-differ a b low_a low_b other =
    ne_eqb (number a) (number b) (λ same. both_ways (same_unit a b) other (number-tells a b low_a low_b same))

-- a unit of its kind
abbrev IsLow : UnitName → Type 0
IsLow u = u.unit < units_of u.kind

low-waiting : (es : List Event) → AllByRecursion (λ (e : Event). e.unit.unit < units_of e.unit.kind) es → AllByRecursion IsLow (waiting es)
low-waiting [] low = tt
low-waiting (e ∷ es) low = (low.0, low-waiting es low.1)

apart-numbers : (u : UnitName) (us : List UnitName) → IsLow u → AllByRecursion IsLow us → IsApart u us → AllByRecursion (λ (n : ℕ). eqb (number u) n ≡ false) (map number us)
apart-numbers u [] low all apart = tt
apart-numbers u (v ∷ us) low all apart = (numbers-differ u v low all.0 apart.0, apart-numbers u us low all.1 apart.1)

distinct-numbers : (us : List UnitName) → AllByRecursion IsLow us → IsDistinct same_unit us → IsDistinct eqb (map number us)
unfolding IsDistinct
distinct-numbers [] low distinct = tt
distinct-numbers (u ∷ us) low distinct = (apart-numbers u us low.0 low.1 distinct.0, distinct-numbers us low.1 distinct.1)

low-numbers : (us : List UnitName) → AllByRecursion IsLow us → (q : ℕ) → list_any (eqb q) (map number us) ≡ true → q < 81
low-numbers [] low q there = absurd (cc)
low-numbers (u ∷ us) low q there =
    elim (or_cases (eqb q (number u)) (list_any (eqb q) (map number us)) there) [
      | inl here ↦ rw (eqb-true q (number u) here) (number-below u low.0)
      | inr later ↦ low-numbers us low.1 q later
    ]

-- where a unit doesn't wait, there is room for it
pub room : (u : UnitName) (es : List Event) → u.unit < units_of u.kind → waits u es ≡ false → Sound es → length es < 81
unfolding IsDistinct
room u es low none sound =
    let units = low-waiting es sound.units in
    let all = length-le_from_distinct_below (map number (u ∷ waiting es)) 81
    (distinct-numbers (u ∷ waiting es) (low, units) (none-waits u es none, sound.distinct)) (low-numbers (u ∷ waiting es) (low, units)) in
    omega (arith, length-map (waiting es) number, length-map es (λ (e : Event). e.unit), all)

-- a list has no more events than there are units
pub few : (es : List Event) → Sound es → length es ≤ 81
few es sound =
    let all = length-le_from_distinct_below (map number (waiting es)) 81 (distinct-numbers (waiting es) (low-waiting es sound.units) sound.distinct)
    (low-numbers (waiting es) (low-waiting es sound.units)) in
    omega (arith, length-map (waiting es) number, length-map es (λ (e : Event). e.unit), all)
