-- The times of queued bytes.
use Rattle.std.proofs.Common.{◌≡◌, ℕ, ◌+◌, ◌-◌, ◌^◌, ◌<◌, ◌≤◌, min, max, leb, List, [], ◌∷◌, ◌++◌, length, get_or, refl, sym, ap, ◌∙◌, drop, append_assoc, arith}
use Rattle.std.specs.List.{AllByRecursion}
use Rattle.std.proofs.lemmas.Bool.{cond_both}
use Rattle.std.proofs.lemmas.List.{drop_more}
use Rattle.expect_actions.specs.Sends.{Send, last_behind, last_queued, timed, InTime}
use Rattle.expect_actions.specs.Sends.{SendsStayInTime, LeftStaysInTime}

-- times that are one up to the largest give the same
pub same_timed : (s t delay : ℕ) (text : List ℕ) → min s (2 ^ 62) ≡ min t (2 ^ 62) → timed s delay text ≡ timed t delay text
same_timed s t delay [] same = refl
same_timed s t delay (b ∷ text) same =
    let next : min (s + delay) (2 ^ 62) ≡ min (t + delay) (2 ^ 62) = omega arith in
    ap (λ (time : ℕ). (time, b) ∷ timed (s + delay) delay text) same
    ∙ ap (λ (rest : List Send). (min t (2 ^ 62), b) ∷ rest) (same_timed (s + delay) (t + delay) delay text next)

pub length-timed : (t delay : ℕ) (text : List ℕ) → length (timed t delay text) ≡ length text
length-timed t delay [] = refl
length-timed t delay (b ∷ text) = omega (arith, length-timed (t + delay) delay text)

-- the last entry
last-there : (t : ℕ) (x : Send) (xs : List Send) (d : Send) → last_behind t (x ∷ xs) ≡ (get_or (x ∷ xs) (length xs) d).0
last-there t x [] d = refl
last-there t x (y ∷ ys) d = last-there x.0 y ys d

pub last_is : (xs : List Send) (n : ℕ) (x : Send) → 0 < length xs → n ≡ length xs - 1 → x ≡ get_or xs n x → last_queued xs ≡ x.0
last_is [] n x some place is = absurd (omega arith)
last_is (y ∷ ys) n x some place is =
    let here : n ≡ length ys = omega arith in
    last-there 0 y ys x ∙ ap (λ (k : ℕ). (get_or (y ∷ ys) k x).0) (sym here) ∙ ap (λ (s : Send). s.0) (sym is)

pub last_none : (xs : List Send) → length xs ≡ 0 → last_queued xs ≡ 0
last_none [] none = refl
last_none (y ∷ ys) none = absurd (omega arith)

-- ---- in time
low-last : (low t : ℕ) (xs : List Send) → low ≤ t → AllByRecursion (λ (s : Send). low ≤ s.0) xs → low ≤ last_behind t xs
low-last low t [] less all = less
low-last low t (x ∷ xs) less all = low-last low x.0 xs all.0 all.1

last-within : (t : ℕ) (xs : List Send) → t ≤ 2 ^ 62 → InTime xs → last_behind t xs ≤ 2 ^ 62
last-within t [] within time = within
last-within t (x ∷ xs) within time = last-within x.0 xs time.0 time.2

later-timed : (low t delay : ℕ) (text : List ℕ) → low ≤ t → low ≤ 2 ^ 62 → AllByRecursion (λ (s : Send). low ≤ s.0) (timed t delay text)
later-timed low t delay [] less within = tt
later-timed low t delay (b ∷ text) less within = (omega arith, later-timed low (t + delay) delay text (omega arith) within)

in-timed : (t delay : ℕ) (text : List ℕ) → InTime (timed t delay text)
in-timed t delay [] = tt
in-timed t delay (b ∷ text) =
    (omega arith, later-timed (min t (2 ^ 62)) (t + delay) delay text (omega arith) (omega arith), in-timed (t + delay) delay text)

all-both : (low : ℕ) (xs ys : List Send) → AllByRecursion (λ (s : Send). low ≤ s.0) xs → AllByRecursion (λ (s : Send). low ≤ s.0) ys
    → AllByRecursion (λ (s : Send). low ≤ s.0) (xs ++ ys)
all-both low [] ys all others = others
all-both low (x ∷ xs) ys all others = (all.0, all-both low xs ys all.1 others)

all-lower : (low high : ℕ) (xs : List Send) → low ≤ high → AllByRecursion (λ (s : Send). high ≤ s.0) xs → AllByRecursion (λ (s : Send). low ≤ s.0) xs
all-lower low high [] less all = tt
all-lower low high (x ∷ xs) less all = (omega (arith, all.0), all-lower low high xs less all.1)

in-both : (t : ℕ) (xs ys : List Send) → InTime xs → AllByRecursion (λ (s : Send). last_behind t xs ≤ s.0) ys → InTime ys → InTime (xs ++ ys)
in-both t [] ys time later others = others
in-both t (x ∷ xs) ys time later others =
    let low = low-last x.0 x.0 xs (omega arith) time.1 in
    (time.0, all-both x.0 xs ys time.1 (all-lower x.0 (last_behind x.0 xs) ys low later), in-both x.0 xs ys time.2 later others)

pub sends_stay : SendsStayInTime
sends_stay now after delay text sends time =
    let last = last_queued sends in
    let start = max now last + after in
    in-both 0 sends (timed start delay text) time
    (later-timed last start delay text (omega arith) (last-within 0 sends (omega arith) time))
    (in-timed start delay text)

pub left_stays : LeftStaysInTime
left_stays now [] time = tt
left_stays now (x ∷ xs) time = cond_both (leb x.0 now) _ _ (λ (ys : List Send). InTime ys) (λ _. time.2) (λ _. time)

-- ---- queued one by one
pub queue_more : (text : List ℕ) (i delay time next : ℕ) (old new : List Send) → i < length text → time ≤ 2 ^ 62 → next ≡ min (time + delay) (2 ^ 62)
    → new ≡ old ++ (time, get_or text i 0) ∷ [] → new ++ timed next delay (drop (i + 1) text) ≡ old ++ timed time delay (drop i text)
queue_more text i delay time next old new there within is pushed =
    let rest = drop (i + 1) text in
    let b = get_or text i 0 in
    let later : timed next delay rest ≡ timed (time + delay) delay rest = same_timed next (time + delay) delay rest (omega arith) in
    let first : timed time delay (drop i text) ≡ (min time (2 ^ 62), b) ∷ timed (time + delay) delay rest = ap (timed time delay) (drop_more text i 0 there) in
    let low : min time (2 ^ 62) ≡ time = omega arith in
    let all : timed time delay (drop i text) ≡ (time, b) ∷ timed next delay rest =
    first ∙ ap (λ (t : ℕ). (t, b) ∷ timed (time + delay) delay rest) low ∙ ap (λ (xs : List Send). (time, b) ∷ xs) (sym later) in
    ap (λ (xs : List Send). xs ++ timed next delay rest) pushed
    ∙ append_assoc old ((time, b) ∷ []) (timed next delay rest)
    ∙ ap (λ (xs : List Send). old ++ xs) (sym all)
