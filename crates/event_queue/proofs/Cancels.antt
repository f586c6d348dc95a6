-- The events of a kind are taken out one by one.
use Rattle.std.proofs.Common.{◌≡◌, ℕ, zero, suc, ◌+◌, ◌<◌, ◌≤◌, ◌++◌, not, cond, Bool, true, false, List, [], ◌∷◌, length, take, drop, remove, option_map, slice_get, Some, refl, sym, ap, ◌∙◌, append-nil, length-drop, arith}
use Rattle.unit_trait.specs.declared.kind.Kind.{Kind}
use Rattle.unit_trait.specs.declared.kind.UnitName.{UnitName}
use Rattle.event_queue.specs.EventList.{Event, is_of_kind, cancelled}

-- those in front of an event are left, and it is gone
pub front-taken : (kind : Kind) (u : UnitName) (k : ℕ) (es : List Event) → option_map (λ e. e.unit) (slice_get es k) ≡ Some u → is_of_kind kind u ≡ true
    → take k (remove es k) ≡ take k es ++ cancelled kind (take 1 (drop k es))
front-taken kind u k [] is of_kind = absurd (cc)
front-taken kind u zero (e ∷ es) is of_kind =
    let same : e.unit ≡ u = cc in
    let gone : not (is_of_kind kind e.unit) ≡ false = ap (λ (v : UnitName). not (is_of_kind kind v)) same ∙ ap not of_kind in
    sym (ap (λ (b : Bool). cond b (e ∷ []) []) gone)
front-taken kind u (suc k) (e ∷ es) is of_kind = ap (λ (xs : List Event). e ∷ xs) (front-taken kind u k es is of_kind)

pub behind-taken : (k : ℕ) (es : List Event) → drop k (remove es k) ≡ drop (suc k) es
behind-taken zero [] = refl
behind-taken (suc k) [] = refl
behind-taken zero (e ∷ es) = refl
behind-taken (suc k) (e ∷ es) = behind-taken k es

-- or it is left
pub front-left : (kind : Kind) (u : UnitName) (k : ℕ) (es : List Event) → option_map (λ e. e.unit) (slice_get es k) ≡ Some u → is_of_kind kind u ≡ false
    → take (suc k) es ≡ take k es ++ cancelled kind (take 1 (drop k es))
front-left kind u k [] is other = absurd (cc)
front-left kind u zero (e ∷ es) is other =
    let same : e.unit ≡ u = cc in
    let left : not (is_of_kind kind e.unit) ≡ true = ap (λ (v : UnitName). not (is_of_kind kind v)) same ∙ ap not other in
    sym (ap (λ (b : Bool). cond b (e ∷ []) []) left)
front-left kind u (suc k) (e ∷ es) is other = ap (λ (xs : List Event). e ∷ xs) (front-left kind u k es is other)

-- those in front of an event and it
pub cancelled-more : (kind : Kind) (k : ℕ) (es : List Event) → cancelled kind (take k es) ++ cancelled kind (take 1 (drop k es)) ≡ cancelled kind (take (suc k) es)
cancelled-more kind zero [] = refl
cancelled-more kind (suc k) [] = refl
cancelled-more kind zero (e ∷ es) = refl
cancelled-more kind (suc k) (e ∷ es) = by (not (is_of_kind kind e.unit)) (cancelled-more kind k es)
  where
    by : (b : Bool) → cancelled kind (take k es) ++ cancelled kind (take 1 (drop k es)) ≡ cancelled kind (take (suc k) es)
        → cond b (e ∷ cancelled kind (take k es)) (cancelled kind (take k es)) ++ cancelled kind (take 1 (drop k es))
        ≡ cond b (e ∷ cancelled kind (take (suc k) es)) (cancelled kind (take (suc k) es))
    by true rest = ap (λ (xs : List Event). e ∷ xs) rest
    by false rest = rest

whole : (k : ℕ) (es : List Event) → take k es ++ drop k es ≡ es
whole zero es = refl
whole (suc k) [] = refl
whole (suc k) (e ∷ es) = ap (λ (xs : List Event). e ∷ xs) (whole k es)

all-taken : (n : ℕ) (es : List Event) → length es ≤ n → (take n es ≡ es) × (drop n es ≡ [])
all-taken zero [] past = (refl, refl)
all-taken (suc n) [] past = (refl, refl)
all-taken zero (e ∷ es) past = absurd (omega (arith, past))
all-taken (suc n) (e ∷ es) past =
    let rest = all-taken n es (omega (arith, past)) in (ap (λ (xs : List Event). e ∷ xs) rest.0, rest.1)

pub all-cancelled : (kind : Kind) (at n : ℕ) (es left : List Event) → length es ≤ n → take at left ≡ cancelled kind (take n es) → drop at left ≡ drop n es
    → left ≡ cancelled kind es
all-cancelled kind at n es left past front behind =
    let all = all-taken n es past in
    sym (whole at left) ∙ ap (λ (xs : List Event). xs ++ drop at left) (front ∙ ap (cancelled kind) all.0)
    ∙ ap (λ (xs : List Event). cancelled kind es ++ xs) (behind ∙ all.1) ∙ append-nil (cancelled kind es)

-- what is behind the next event
drop-next : (k : ℕ) (es : List Event) → drop (suc k) es ≡ drop 1 (drop k es)
drop-next zero [] = refl
drop-next (suc k) [] = refl
drop-next zero (e ∷ es) = refl
drop-next (suc k) (e ∷ es) = drop-next k es

pub one-behind : (at k : ℕ) (left es : List Event) → drop at left ≡ drop k es → drop (at + 1) left ≡ drop (k + 1) es
one-behind at k left es same =
    let here : at + 1 ≡ suc at = omega arith in
    let there : suc k ≡ k + 1 = omega arith in
    ap (λ (n : ℕ). drop n left) here ∙ drop-next at left ∙ ap (λ (xs : List Event). drop 1 xs) same ∙ sym (drop-next k es) ∙ ap (λ (n : ℕ). drop n es) there

pub some-left : (at k : ℕ) (left es : List Event) → drop at left ≡ drop k es → k < length es → at < length left
some-left at k left es same before =
    omega (arith, length-drop at left, length-drop k es, ap (λ (xs : List Event). length xs) same)
