-- What is done to the differences is done to the remaining times.
use Rattle.std.proofs.Common.{◌≡◌, ℕ, zero, suc, ◌+◌, ◌-◌, ◌<◌, ◌≤◌, ◌^◌, ◌⊎◌, inl, inr, ◌++◌, Bool, List, [], ◌∷◌, length, take, drop, insert, remove, slice_get, slice_set, slice_index_or, IfSome, Some, None, option_map, true, false, refl, sym, ap, subst, ◌∙◌, arith}
use Rattle.std.specs.List.{AllByRecursion}
use Rattle.std.proofs.lemmas.Bool.{cases_lt, le-leb, lt-leb}
use Rattle.unit_trait.specs.declared.kind.UnitName.{UnitName}
use Rattle.event_queue.specs.declared.delta.Delta.{Delta}
use Rattle.event_queue.specs.EventList.{Event, event, placed, due, lowered, IsClear, Sound}
use Rattle.event_queue.specs.Idle.{looked}
use Rattle.event_queue.specs.Deltas.{events_behind, events_of, delta, nearer, further, entered}
use Rattle.event_queue.proofs.Looks.{both-set, both-asked, set-behind-one, one-asked-behind}

abbrev pub AreShort : List Event → Type 0
AreShort es = AllByRecursion (λ (e : Event). e.remaining < 2 ^ 32) es

pub behind-length : (p : ℕ) (ds : List Delta) → length (events_behind p ds) ≡ length ds
behind-length p [] = refl
behind-length p (d ∷ ds) = ap suc (behind-length (p + d.after) ds)

-- ---- the first entry comes nearer, or further away
pub behind-further : (p n : ℕ) (ds : List Delta) → events_behind p (further n ds) ≡ events_behind (p + n) ds
behind-further p n [] = refl
behind-further p n (d ∷ ds) =
    let same : p + (d.after + n) ≡ p + n + d.after = omega arith in ap (λ (t : ℕ). event d.unit t ∷ events_behind t ds) same

pub behind-nearer : (p n : ℕ) (ds : List Delta) → IfSome (slice_get ds 0) (λ d. n ≤ d.after) → events_behind (p + n) (nearer n ds) ≡ events_behind p ds
behind-nearer p n [] least = refl
behind-nearer p n (d ∷ ds) least =
    let same : p + n + (d.after - n) ≡ p + d.after = omega (arith, least) in ap (λ (t : ℕ). event d.unit t ∷ events_behind t ds) same

behind-lowered : (n p : ℕ) (ds : List Delta) → n ≤ p → events_behind (p - n) ds ≡ lowered n (events_behind p ds)
behind-lowered n p [] early = refl
behind-lowered n p (d ∷ ds) early =
    let same : p - n + d.after ≡ p + d.after - n = omega (arith, early) in
    ap (λ (t : ℕ). event d.unit t ∷ events_behind t ds) same
    ∙ ap (λ (es : List Event). event d.unit (p + d.after - n) ∷ es) (behind-lowered n (p + d.after) ds (omega (arith, early)))

pub first-nearer : (n : ℕ) (ds : List Delta) → IfSome (slice_get ds 0) (λ d. n ≤ d.after) → events_of (nearer n ds) ≡ lowered n (events_of ds)
first-nearer n [] least = refl
first-nearer n (d ∷ ds) least =
    let same : 0 + (d.after - n) ≡ 0 + d.after - n = omega arith in
    ap (λ (t : ℕ). event d.unit t ∷ events_behind t ds) same
    ∙ ap (λ (es : List Event). event d.unit (0 + d.after - n) ∷ es) (behind-lowered n (0 + d.after) ds (omega (arith, least)))

-- where no event is due within so many instructions, the first difference is as many at least
pub clear-first : (count : ℕ) (ds : List Delta) → IsClear count (events_of ds) → IfSome (slice_get ds 0) (λ d. count ≤ d.after)
clear-first count [] clear = tt
clear-first count (d ∷ ds) clear = by (cases_lt d.after count)
  where
    by : (d.after < count) ⊎ (count ≤ d.after) → count ≤ d.after
    by (inr far) = far
    by (inl near) =
        let none : due (lowered d.after (events_of (d ∷ ds))) ≡ None = clear d.after near in
        let now : 0 + d.after - d.after ≡ 0 = omega arith in
        let some : due (event d.unit 0 ∷ lowered d.after (events_behind (0 + d.after) ds)) ≡ None =
        subst (λ (t : ℕ). due (event d.unit t ∷ lowered d.after (events_behind (0 + d.after) ds)) ≡ None) now none in
        absurd (cc)

-- ---- an entry is put in
pub behind-entered : (u : UnitName) (p left : ℕ) (ds : List Delta) → events_behind p (entered u left ds) ≡ placed u (p + left) (events_behind p ds)
behind-entered u p left [] = refl
behind-entered u p left (d ∷ ds) =
    elim (cases_lt left d.after) [
      | inl late ↦
          rw (lt-leb d.after left late, lt-leb (p + d.after) (p + left) (omega (arith, late)))
          (ap (λ (es : List Event). event u (p + left) ∷ es) (behind-nearer p left (d ∷ ds) (omega (arith, late))))
      | inr early ↦
          let same : p + d.after + (left - d.after) ≡ p + left = omega (arith, early) in
          rw (le-leb d.after left early, le-leb (p + d.after) (p + left) (omega (arith, early)))
          (ap (λ (es : List Event). event d.unit (p + d.after) ∷ es)
          (behind-entered u (p + d.after) (left - d.after) ds ∙ ap (λ (t : ℕ). placed u t (events_behind (p + d.after) ds)) same))
    ]

-- ---- an entry is taken out
pub behind-taken : (k p : ℕ) (ds : List Delta) (d : Delta) → slice_get ds k ≡ Some d
    → events_behind p (take k (remove ds k) ++ further d.after (drop k (remove ds k))) ≡ remove (events_behind p ds) k
behind-taken k p [] d is = absurd (cc)
behind-taken zero p (x ∷ ds) d is =
    let same : x ≡ d = grind arith in
    behind-further p d.after ds ∙ ap (λ (y : Delta). events_behind (p + y.after) ds) (sym same)
behind-taken (suc k) p (x ∷ ds) d is = ap (λ (es : List Event). event x.unit (p + x.after) ∷ es) (behind-taken k (p + x.after) ds d is)

-- the next one's difference and that of the one that is taken are the time between the next one and the one in front
pub next-short : (k p : ℕ) (ds : List Delta) (d : Delta) → slice_get ds k ≡ Some d → AreShort (events_behind p ds)
    → IfSome (slice_get (remove ds k) k) (λ e. e.after + d.after < 2 ^ 32)
next-short k p [] d is short = absurd (cc)
next-short zero p (x ∷ []) d is short = tt
next-short zero p (x ∷ y ∷ ds) d is short =
    let same : x ≡ d = grind arith in
    let next = short.1.0 in
    subst (λ (z : Delta). y.after + z.after < 2 ^ 32) same (omega (arith, next))
next-short (suc k) p (x ∷ ds) d is short = next-short k (p + x.after) ds d is short.1

pub units-stay : (k p : ℕ) (ds : List Delta) → option_map (λ e. e.unit) (slice_get (events_behind p ds) k) ≡ option_map (λ d. d.unit) (slice_get ds k)
units-stay k p [] = refl
units-stay zero p (d ∷ ds) = refl
units-stay (suc k) p (d ∷ ds) = units-stay k (p + d.after) ds

-- ---- the differences in front of an entry add up
pub passed : ℕ → ℕ → List Delta → ℕ
passed p zero ds = p
passed p (suc k) [] = p
passed p (suc k) (d ∷ ds) = passed (p + d.after) k ds

pub passed-none : (p : ℕ) (ds : List Delta) → passed p 0 ds ≡ p
unfolding passed
passed-none p ds = refl

pub passed-more : (p k : ℕ) (ds : List Delta) (d : Delta) → slice_get ds k ≡ Some d → passed p (suc k) ds ≡ passed p k ds + d.after
unfolding passed
passed-more p k [] d is = absurd (cc)
passed-more p zero (x ∷ ds) d is = let same : x ≡ d = grind arith in ap (λ (y : Delta). p + y.after) same
passed-more p (suc k) (x ∷ ds) d is = passed-more (p + x.after) k ds d is

pub behind-get : (p k : ℕ) (ds : List Delta) (d : Delta) → slice_get ds k ≡ Some d → slice_get (events_behind p ds) k ≡ Some (event d.unit (passed p k ds + d.after))
unfolding passed
behind-get p k [] d is = absurd (cc)
behind-get p zero (x ∷ ds) d is = let same : x ≡ d = grind arith in ap (λ (y : Delta). Some (event y.unit (p + y.after))) same
behind-get p (suc k) (x ∷ ds) d is = behind-get (p + x.after) k ds d is

pub passed-short : (p k : ℕ) (ds : List Delta) (d : Delta) → slice_get ds k ≡ Some d → AreShort (events_behind p ds) → passed p k ds + d.after < 2 ^ 32
unfolding passed
passed-short p k [] d is short = absurd (cc)
passed-short p zero (x ∷ ds) d is short = let same : x ≡ d = grind arith in subst (λ (y : Delta). p + y.after < 2 ^ 32) same short.0
passed-short p (suc k) (x ∷ ds) d is short = passed-short (p + x.after) k ds d is short.1

pub none-behind : (k : ℕ) (es : List Event) → length es ≤ k → slice_get es k ≡ None
none-behind k [] past = refl
none-behind zero (e ∷ es) past = absurd (omega (arith, past))
none-behind (suc k) (e ∷ es) past = none-behind k es (omega (arith, past))

-- ---- what the code writes
pub set-nearer : (k n : ℕ) (ds : List Delta) (none : Delta) → k < length ds
    → slice_set ds k (delta (slice_index_or ds k none).unit ((slice_index_or ds k none).after - n)) ≡ take k ds ++ nearer n (drop k ds)
set-nearer k n [] none within = absurd (omega (arith, within))
set-nearer zero n (d ∷ ds) none within = refl
set-nearer (suc k) n (d ∷ ds) none within = ap (λ (xs : List Delta). d ∷ xs) (set-nearer k n ds none (omega (arith, within)))

pub set-further : (k n : ℕ) (ds : List Delta) (none : Delta) → k < length ds
    → slice_set ds k (delta (slice_index_or ds k none).unit ((slice_index_or ds k none).after + n)) ≡ take k ds ++ further n (drop k ds)
set-further k n [] none within = absurd (omega (arith, within))
set-further zero n (d ∷ ds) none within = refl
set-further (suc k) n (d ∷ ds) none within = ap (λ (xs : List Delta). d ∷ xs) (set-further k n ds none (omega (arith, within)))

pub there : (k : ℕ) (ds : List Delta) (none : Delta) → k < length ds → slice_get ds k ≡ Some (slice_index_or ds k none)
there k [] none within = absurd (omega (arith, within))
there zero (d ∷ ds) none within = refl
there (suc k) (d ∷ ds) none within = there k ds none (omega (arith, within))

pub near-length : (n : ℕ) (ds : List Delta) → length (nearer n ds) ≡ length ds
near-length n [] = refl
near-length n (d ∷ ds) = refl

pub far-length : (n : ℕ) (ds : List Delta) → length (further n ds) ≡ length ds
far-length n [] = refl
far-length n (d ∷ ds) = refl

-- an entry that comes nearer, behind those in front of it
pub split-length : (k n : ℕ) (ds : List Delta) → length (take k ds ++ nearer n (drop k ds)) ≡ length ds
split-length zero n [] = refl
split-length (suc k) n [] = refl
split-length zero n (d ∷ ds) = near-length n (d ∷ ds)
split-length (suc k) n (d ∷ ds) = ap suc (split-length k n ds)

pub insert-split : (k n : ℕ) (ds : List Delta) (d : Delta) → k ≤ length ds
    → insert (take k ds ++ nearer n (drop k ds)) k d ≡ take k ds ++ d ∷ nearer n (drop k ds)
insert-split zero n [] d within = refl
insert-split (suc k) n [] d within = absurd (omega (arith, within))
insert-split zero n (x ∷ ds) d within = refl
insert-split (suc k) n (x ∷ ds) d within = ap (λ (xs : List Delta). x ∷ xs) (insert-split k n ds d (omega (arith, within)))

-- ---- two entries that are due are asked for again in their places
pub later-behind : (p n : ℕ) (ds : List Delta) → IfSome (slice_get ds 0) (λ d. n < d.after) → IfSome (slice_get (events_behind p ds) 0) (λ e. p + n < e.remaining)
later-behind p n [] later = tt
later-behind p n (d ∷ ds) later = omega (arith, later)

least-then : (n : ℕ) (ds : List Delta) → IfSome (slice_get ds 0) (λ d. n < d.after) → IfSome (slice_get ds 0) (λ d. n ≤ d.after)
least-then n [] later = tt
least-then n (d ∷ ds) later = omega (arith, later)

both-due : (period : ℕ) (u v : UnitName) (ds : List Delta) → Sound (events_of (delta u 0 ∷ delta v 0 ∷ ds)) → IfSome (slice_get ds 0) (λ d. period < d.after)
    → events_of (delta u period ∷ delta v 0 ∷ nearer period ds) ≡ looked period (events_of (delta u 0 ∷ delta v 0 ∷ ds))
both-due period u v ds sound later =
    let es = events_of (delta u 0 ∷ delta v 0 ∷ ds) in
    let none : 0 + period ≡ period = omega arith in
    let behind =
    subst (λ (n : ℕ). IfSome (slice_get (events_behind 0 ds) 0) (λ g. n < g.remaining)) none (later-behind 0 period ds later) in
    let same : 0 + period + 0 ≡ 0 + period = omega arith in
    ap (λ (n : ℕ). event u (0 + period) ∷ event v n ∷ events_behind n (nearer period ds)) same
    ∙ ap (λ (xs : List Event). event u (0 + period) ∷ event v (0 + period) ∷ xs) (behind-nearer 0 period ds (least-then period ds later))
    ∙ ap (λ (n : ℕ). event u n ∷ event v n ∷ events_behind 0 ds) none
    ∙ both-set period (event u 0) (event v 0) es refl refl behind
    ∙ sym (both-asked period (event u 0) (event v 0) es sound refl refl refl refl behind)

both-due-at : (period m n : ℕ) (u v : UnitName) (ds : List Delta) → m ≡ 0 → n ≡ 0 → Sound (events_of (delta u m ∷ delta v n ∷ ds)) → IfSome (slice_get ds 0) (λ d. period < d.after)
    → events_of (delta u period ∷ delta v n ∷ nearer period ds) ≡ looked period (events_of (delta u m ∷ delta v n ∷ ds))
both-due-at period m n u v ds now too sound later =
    subst (λ (k : ℕ). Sound (events_of (delta u k ∷ delta v n ∷ ds)) → events_of (delta u period ∷ delta v n ∷ nearer period ds) ≡ looked period (events_of (delta u k ∷ delta v n ∷ ds))) (sym now)
    (subst (λ (k : ℕ). Sound (events_of (delta u 0 ∷ delta v k ∷ ds)) → events_of (delta u period ∷ delta v k ∷ nearer period ds) ≡ looked period (events_of (delta u 0 ∷ delta v k ∷ ds))) (sym too)
    (λ is. both-due period u v ds is later)) sound

pub set-both : (period : ℕ) (x y : Delta) (ds : List Delta) → slice_get ds 0 ≡ Some x → slice_get ds 1 ≡ Some y → x.after ≡ 0 → y.after ≡ 0 → IfSome (slice_get ds 2) (λ d. period < d.after)
    → Sound (events_of ds)
    → events_of (take 2 (slice_set ds 0 (delta x.unit period)) ++ nearer period (drop 2 (slice_set ds 0 (delta x.unit period)))) ≡ looked period (events_of ds)
set-both period x y [] first second now too later sound = absurd (cc)
set-both period x y (a ∷ []) first second now too later sound = absurd (cc)
set-both period x y (a ∷ b ∷ ds) first second now too later sound =
    let one : x ≡ a = grind arith in
    let other : y ≡ b = grind arith in
    ap (λ (d : Delta). events_of (delta d.unit period ∷ b ∷ nearer period ds)) one
    ∙ both-due-at period a.after b.after a.unit b.unit ds (ap (λ (d : Delta). d.after) (sym one) ∙ now) (ap (λ (d : Delta). d.after) (sym other) ∙ too) sound later

one-behind : (period : ℕ) (u v : UnitName) (z : Delta) (ds : List Delta) → Sound (events_of (delta u 0 ∷ delta v 0 ∷ z ∷ ds)) → 0 < z.after → z.after ≤ period
    → IfSome (slice_get ds 0) (λ d. period - z.after < d.after)
    → events_of (z ∷ delta u (period - z.after) ∷ delta v 0 ∷ nearer (period - z.after) ds) ≡ looked period (events_of (delta u 0 ∷ delta v 0 ∷ z ∷ ds))
one-behind period u v z ds sound some early later =
    let es = events_of (delta u 0 ∷ delta v 0 ∷ z ∷ ds) in
    let g = event z.unit (0 + z.after) in
    let rest = period - z.after in
    let same : 0 + z.after + (period - z.after) + 0 ≡ 0 + z.after + (period - z.after) = omega arith in
    let whole : 0 + z.after + (period - z.after) ≡ period = omega (arith, early) in
    let first : 0 + z.after ≤ period = omega (arith, early) in
    let waits_still : 0 < 0 + z.after = omega (arith, some) in
    let behind =
    subst (λ (n : ℕ). IfSome (slice_get (events_behind (0 + z.after) ds) 0) (λ w. n < w.remaining)) whole (later-behind (0 + z.after) rest ds later) in
    ap (λ (n : ℕ). g ∷ event u (0 + z.after + rest) ∷ event v n ∷ events_behind n (nearer rest ds)) same
    ∙ ap (λ (xs : List Event). g ∷ event u (0 + z.after + rest) ∷ event v (0 + z.after + rest) ∷ xs) (behind-nearer (0 + z.after) rest ds (least-then rest ds later))
    ∙ ap (λ (n : ℕ). g ∷ event u n ∷ event v n ∷ events_behind (0 + z.after) ds) whole
    ∙ set-behind-one period (event u 0) (event v 0) g es refl refl refl first behind
    ∙ sym (one-asked-behind period (event u 0) (event v 0) g es sound refl refl refl refl refl waits_still)

one-behind-at : (period m n : ℕ) (u v : UnitName) (z : Delta) (ds : List Delta) → m ≡ 0 → n ≡ 0 → Sound (events_of (delta u m ∷ delta v n ∷ z ∷ ds)) → 0 < z.after → z.after ≤ period
    → IfSome (slice_get ds 0) (λ d. period - z.after < d.after)
    → events_of (z ∷ delta u (period - z.after) ∷ delta v n ∷ nearer (period - z.after) ds) ≡ looked period (events_of (delta u m ∷ delta v n ∷ z ∷ ds))
one-behind-at period m n u v z ds now too sound some early later =
    subst (λ (k : ℕ). Sound (events_of (delta u k ∷ delta v n ∷ z ∷ ds))
    → events_of (z ∷ delta u (period - z.after) ∷ delta v n ∷ nearer (period - z.after) ds) ≡ looked period (events_of (delta u k ∷ delta v n ∷ z ∷ ds))) (sym now)
    (subst (λ (k : ℕ). Sound (events_of (delta u 0 ∷ delta v k ∷ z ∷ ds))
    → events_of (z ∷ delta u (period - z.after) ∷ delta v k ∷ nearer (period - z.after) ds) ≡ looked period (events_of (delta u 0 ∷ delta v k ∷ z ∷ ds))) (sym too)
    (λ is. one-behind period u v z ds is some early later)) sound

abbrev pub behind_one : ℕ → Delta → Delta → Delta → List Delta → List Delta
behind_one rest x y z ds = slice_set (slice_set (slice_set ds 0 z) 1 (delta x.unit rest)) 2 y

pub set-behind : (period : ℕ) (x y z : Delta) (ds : List Delta) → slice_get ds 0 ≡ Some x → slice_get ds 1 ≡ Some y → slice_get ds 2 ≡ Some z → x.after ≡ 0 → y.after ≡ 0 → 0 < z.after → z.after ≤ period
    → IfSome (slice_get ds 3) (λ d. period - z.after < d.after) → Sound (events_of ds)
    → events_of (take 3 (behind_one (period - z.after) x y z ds) ++ nearer (period - z.after) (drop 3 (behind_one (period - z.after) x y z ds))) ≡ looked period (events_of ds)
set-behind period x y z [] first second third now too some early later sound = absurd (cc)
set-behind period x y z (a ∷ []) first second third now too some early later sound = absurd (cc)
set-behind period x y z (a ∷ b ∷ []) first second third now too some early later sound = absurd (cc)
set-behind period x y z (a ∷ b ∷ g ∷ ds) first second third now too some early later sound =
    let one : x ≡ a = grind arith in
    let other : y ≡ b = grind arith in
    let next : z ≡ g = grind arith in
    ap (λ (d : Delta). events_of (z ∷ delta d.unit (period - z.after) ∷ y ∷ nearer (period - z.after) ds)) one
    ∙ ap (λ (d : Delta). events_of (z ∷ delta a.unit (period - z.after) ∷ d ∷ nearer (period - z.after) ds)) other
    ∙ one-behind-at period a.after b.after a.unit b.unit z ds (ap (λ (d : Delta). d.after) (sym one) ∙ now) (ap (λ (d : Delta). d.after) (sym other) ∙ too)
    (subst (λ (d : Delta). Sound (events_of (a ∷ b ∷ d ∷ ds))) (sym next) sound) some early later
    ∙ ap (λ (d : Delta). looked period (events_of (a ∷ b ∷ d ∷ ds))) next

-- the list is sound whatever the answer is
pub sound-either : (answer : Bool) (period : ℕ) (old new : List Delta) → (answer ≡ true → events_of new ≡ looked period (events_of old)) → (answer ≡ false → new ≡ old)
    → Sound (events_of old) → Sound (looked period (events_of old)) → Sound (events_of new)
sound-either true period old new asked same before behind = subst Sound (sym (asked refl)) behind
sound-either false period old new asked same before behind = subst (λ (ds : List Delta). Sound (events_of ds)) (sym (same refl)) before
