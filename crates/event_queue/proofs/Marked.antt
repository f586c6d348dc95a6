-- The bit of each unit tells whether the unit waits.
use Rattle.std.proofs.Common.{◌≡◌, ℕ, zero, suc, ◌-◌, ◌*◌, ◌%◌, ◌/◌, ◌^◌, ◌<◌, ◌≤◌, ◌≢◌, ◌||◌, ◌&&◌, not, eqb, bit_and, bit_or, Bool, true, false, List, [], ◌∷◌, remove, option_map, slice_get, Some, refl, sym, ap, subst, ◌∙◌, arith}
use Rattle.std.specs.Int.{w128, bit_at}
use Rattle.std.specs.List.{IsDistinct}
use Rattle.std.proofs.lemmas.Bool.{eqb-true, eq-eqb, both_ways, and_parts}
use Rattle.std.proofs.lemmas.Nat.Bits.{bit_at-zero, shr_and_one, bit_at_set_same, bit_at_set_other, bit_at_clear_same, bit_at_clear_other}
use Rattle.unit_trait.specs.declared.kind.Kind.{Kind}
use Rattle.unit_trait.specs.declared.kind.UnitName.{UnitName}
use Rattle.unit_trait.specs.Kinds.{units_of, code_of, same_unit}
use Rattle.unit_trait.proofs.Codes.{same-code}
use Rattle.event_queue.specs.EventList.{Event, waits, placed, lowered, waiting, Sound, IsApart}
use Rattle.event_queue.specs.Idle.{looked, idled}
use Rattle.event_queue.specs.Active.{number, is_active, Marks}
use Rattle.event_queue.proofs.Looks.{waits-among, waits-looked, waits-idled}
use Rattle.event_queue.proofs.Numbers.{number-below, numbers-differ}
use Rattle.event_queue.proofs.SoundLists.{apart-waits, waits-lowered}

abbrev unit_named : Kind → ℕ → UnitName
unit_named kind n = record { kind = kind; unit = n }

-- names of one unit are one
same-is : (u v : UnitName) → same_unit u v ≡ true → u ≡ v
same-is u v same =
    let parts = and_parts (eqb (code_of u.kind) (code_of v.kind)) (eqb u.unit v.unit) same in
    let kinds : u.kind ≡ v.kind = same-code u.kind v.kind (eqb-true (code_of u.kind) (code_of v.kind) parts.0) in
    let units : u.unit ≡ v.unit = eqb-true u.unit v.unit parts.1 in
    ap (λ (k : Kind). unit_named k u.unit) kinds ∙ ap (λ (n : ℕ). unit_named v.kind n) units

same-number : (u v : UnitName) → same_unit u v ≡ true → number u ≡ number v
same-number u v same = ap number (same-is u v same)

other-number : (u v : UnitName) → u.unit < units_of u.kind → v.unit < units_of v.kind → same_unit u v ≡ false → number v ≢ number u
other-number u v low_u low_v other = λ same. both_ways (eqb (number u) (number v)) (numbers-differ u v low_u low_v other) (eq-eqb (number u) (number v) (sym same))

pub none-active : (u : UnitName) → is_active 0 u ≡ false
unfolding is_active
none-active u = ap (λ (n : ℕ). eqb n 1) (bit_at-zero (number u))

pub bit-tells : (bits : ℕ) (u : UnitName) → eqb (bit_and (bits / 2 ^ number u) 1) 1 ≡ is_active bits u
unfolding is_active
bit-tells bits u = ap (λ (n : ℕ). eqb n 1) (shr_and_one bits (number u))

pub bit-set : (bits : ℕ) (u v : UnitName) → u.unit < units_of u.kind → v.unit < units_of v.kind
    → is_active (bit_or bits (1 * 2 ^ number u % 2 ^ 128)) v ≡ (same_unit u v || is_active bits v)
unfolding is_active
bit-set bits u v low_u low_v = by (same_unit u v) refl
  where
    within : number u < 128
    within = let low = number-below u low_u in omega (arith, low)

    by : (b : Bool) → same_unit u v ≡ b → eqb (bit_at (bit_or bits (1 * 2 ^ number u % 2 ^ 128)) (number v)) 1 ≡ (b || eqb (bit_at bits (number v)) 1)
    by true same =
        ap (λ (n : ℕ). eqb (bit_at (bit_or bits (1 * 2 ^ number u % 2 ^ 128)) n) 1) (sym (same-number u v same))
        ∙ ap (λ (n : ℕ). eqb n 1) (bit_at_set_same w128 bits (number u) within)
    by false other = ap (λ (n : ℕ). eqb n 1) (bit_at_set_other w128 bits (number u) within (number v) (other-number u v low_u low_v other))

pub bit-cleared : (bits : ℕ) (u v : UnitName) → u.unit < units_of u.kind → v.unit < units_of v.kind
    → is_active (bit_and bits (2 ^ 128 - 1 - 1 * 2 ^ number u % 2 ^ 128)) v ≡ (not (same_unit u v) && is_active bits v)
unfolding is_active
bit-cleared bits u v low_u low_v = by (same_unit u v) refl
  where
    within : number u < 128
    within = let low = number-below u low_u in omega (arith, low)

    below : number v < 128
    below = let low = number-below v low_v in omega (arith, low)

    by : (b : Bool) → same_unit u v ≡ b → eqb (bit_at (bit_and bits (2 ^ 128 - 1 - 1 * 2 ^ number u % 2 ^ 128)) (number v)) 1 ≡ (not b && eqb (bit_at bits (number v)) 1)
    by true same =
        ap (λ (n : ℕ). eqb (bit_at (bit_and bits (2 ^ 128 - 1 - 1 * 2 ^ number u % 2 ^ 128)) n) 1) (sym (same-number u v same))
        ∙ ap (λ (n : ℕ). eqb n 1) (bit_at_clear_same w128 bits (number u) within)
    by false other =
        ap (λ (n : ℕ). eqb n 1) (bit_at_clear_other w128 bits (number u) within (number v) below (other-number u v low_u low_v other))

-- ---- what is done to the list
pub marks-put : (bits more : ℕ) (u : UnitName) (t : ℕ) (es : List Event) → Marks bits es
    → ((v : UnitName) → v.unit < units_of v.kind → is_active more v ≡ (same_unit u v || is_active bits v)) → Marks more (placed u t es)
marks-put bits more u t es marks set = λ v low.
    set v low ∙ ap (λ (b : Bool). same_unit u v || b) (marks v low) ∙ sym (waits-among u v t es)

apart-at : (u v : UnitName) (k : ℕ) (es : List Event) → IsApart v (waiting es) → option_map (λ e. e.unit) (slice_get es k) ≡ Some u → same_unit v u ≡ false
apart-at u v k [] apart is = absurd (cc)
apart-at u v zero (e ∷ es) apart is = let same : e.unit ≡ u = cc in subst (λ (w : UnitName). same_unit v w ≡ false) same apart.0
apart-at u v (suc k) (e ∷ es) apart is = apart-at u v k es apart.1 is

waits-without : (v u : UnitName) (k : ℕ) (es : List Event) → IsDistinct same_unit (waiting es) → option_map (λ e. e.unit) (slice_get es k) ≡ Some u
    → waits v (remove es k) ≡ (not (same_unit u v) && waits v es)
unfolding IsDistinct
waits-without v u k [] distinct is = absurd (cc)
waits-without v u zero (e ∷ es) distinct is =
    let same : e.unit ≡ u = cc in
    subst (λ (w : UnitName). waits v es ≡ (not (same_unit w v) && (same_unit e.unit v || waits v es))) same (first (same_unit e.unit v) refl)
  where
    first : (b : Bool) → same_unit e.unit v ≡ b → waits v es ≡ (not (same_unit e.unit v) && (same_unit e.unit v || waits v es))
    first true one =
        let gone : waits v es ≡ false = subst (λ (w : UnitName). waits w es ≡ false) (same-is e.unit v one) (apart-waits e.unit es distinct.0) in
        rw one gone
    first false other = rw other refl
waits-without v u (suc k) (e ∷ es) distinct is =
    ap (λ (b : Bool). same_unit e.unit v || b) (waits-without v u k es distinct.1 is)
    ∙ behind (same_unit e.unit v) (same_unit u v) (waits v es) (λ one. subst (λ (w : UnitName). same_unit e.unit w ≡ false) (same-is u v one) (apart-at u e.unit k es distinct.0 is))
  where
    behind : (x y z : Bool) → (y ≡ true → x ≡ false) → (x || (not y && z)) ≡ (not y && (x || z))
    behind true true z apart = absurd (both_ways true (apart refl) refl)
    behind false true z apart = refl
    behind true false z apart = refl
    behind false false z apart = refl

pub marks-out : (bits fewer : ℕ) (u : UnitName) (k : ℕ) (es : List Event) → Sound es → option_map (λ e. e.unit) (slice_get es k) ≡ Some u → Marks bits es
    → ((v : UnitName) → v.unit < units_of v.kind → is_active fewer v ≡ (not (same_unit u v) && is_active bits v)) → Marks fewer (remove es k)
marks-out bits fewer u k es sound is marks unset = λ v low.
    unset v low ∙ ap (λ (b : Bool). not (same_unit u v) && b) (marks v low) ∙ sym (waits-without v u k es sound.distinct is)

pub marks-lowered : (bits n : ℕ) (es : List Event) → Marks bits es → Marks bits (lowered n es)
marks-lowered bits n es marks = λ v low. marks v low ∙ sym (waits-lowered v n es)

pub marks-looked : (bits period : ℕ) (es : List Event) → 1 ≤ period → period < 2 ^ 32 → Sound es → Marks bits es → Marks bits (looked period es)
marks-looked bits period es some short sound marks = λ v low. marks v low ∙ sym (waits-looked v period es some short sound)

pub marks-idled : (bits period n : ℕ) (es : List Event) → 1 ≤ period → period < 2 ^ 32 → Sound es → Marks bits es → Marks bits (idled period n es)
marks-idled bits period n es some short sound marks = λ v low. marks v low ∙ sym (waits-idled v period n es some short sound)

pub marks-either : (answer : Bool) (bits period : ℕ) (es new : List Event) → (answer ≡ true → new ≡ looked period es) → (answer ≡ false → new ≡ es)
    → Marks bits es → Marks bits (looked period es) → Marks bits new
marks-either true bits period es new asked same before behind = subst (λ (xs : List Event). Marks bits xs) (sym (asked refl)) behind
marks-either false bits period es new asked same before behind = subst (λ (xs : List Event). Marks bits xs) (sym (same refl)) before
