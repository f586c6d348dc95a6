-- Instructions that pass.
use Rattle.std.proofs.Common.{◌≡◌, ℕ, ◌+◌, ◌-◌, List, [], ◌∷◌, None, refl, ap, ◌∙◌, arith}
use Rattle.event_queue.specs.EventList.{Event, event, due, lowered, ticked, IsClear}

pub lowered-none : (es : List Event) → lowered 0 es ≡ es
lowered-none [] = refl
lowered-none (e ∷ es) =
    let same : e.remaining - 0 ≡ e.remaining = omega arith in
    rw same (ap (λ (xs : List Event). e ∷ xs) (lowered-none es))

pub lowered-more : (n : ℕ) (es : List Event) → lowered (n + 1) es ≡ ticked (lowered n es)
lowered-more n [] = refl
lowered-more n (e ∷ es) =
    let same : e.remaining - (n + 1) ≡ e.remaining - n - 1 = omega arith in
    rw same (ap (λ (xs : List Event). event e.unit (e.remaining - n - 1) ∷ xs) (lowered-more n es))

-- where no event is due, one instruction can pass
pub clear-once : (es : List Event) → due es ≡ None → IsClear 1 es
clear-once es none = λ n before.
    let is : n ≡ 0 = omega (arith, before) in ap (λ (k : ℕ). due (lowered k es)) is ∙ ap due (lowered-none es) ∙ none
