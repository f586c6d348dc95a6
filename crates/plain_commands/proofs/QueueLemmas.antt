-- What is printed of events one behind another.
use Rattle.std.proofs.Common.{◌≡◌, ℕ, ◌+◌, ◌<◌, List, [], ◌∷◌, ◌++◌, length, get_or, take, drop, slice_get, option_map, Option, Some, None, ap, sym, ◌∙◌, refl, add-one, append_assoc}
use Rattle.std.proofs.Math.Seq.{take-suc}
use Rattle.std.proofs.lemmas.List.{take-append-drop, append-nil}
use Rattle.std.proofs.lemmas.Option.{slice_get-get_or}
use Rattle.unit_trait.specs.declared.kind.Kind.TheVariants.{Clk}
use Rattle.unit_trait.specs.declared.kind.UnitName.{UnitName}
use Rattle.event_queue.specs.EventList.{Event, event}
use Rattle.plain_commands.specs.ShowEffects.{event_line, queue_text}

queue-append : (xs ys : List Event) → queue_text (xs ++ ys) ≡ queue_text xs ++ queue_text ys
unfolding queue_text
queue-append [] ys = refl
queue-append (e ∷ xs) ys = ap (λ t. event_line e ++ t) (queue-append xs ys) ∙ sym (append_assoc (event_line e) (queue_text xs) (queue_text ys))

queue-one : (e : Event) → queue_text (e ∷ []) ≡ event_line e
unfolding queue_text
queue-one e = append-nil (event_line e)

pub queue-none : queue_text [] ≡ []
unfolding queue_text
queue-none = refl

-- what stands at a place of the list
abbrev pub entry_at : List Event → ℕ → Option (UnitName × ℕ)
entry_at es k = option_map (λ e. (e.unit, e.remaining)) (slice_get es k)

event-is : (o : Option Event) (e : Event) (x : UnitName × ℕ) → o ≡ Some e → Some x ≡ option_map (λ e. (e.unit, e.remaining)) o → e ≡ event x.0 x.1
event-is o e x some is =
    let y : UnitName × ℕ = (e.unit, e.remaining) in
    let same : Some x ≡ Some y = is ∙ ap (λ (o : Option Event). option_map (λ e. (e.unit, e.remaining)) o) some in
    let here : x ≡ y = cc in
    ap (λ (z : UnitName × ℕ). event z.0 z.1) (sym here)

-- the event at a place
event-at : (es : List Event) (k : ℕ) (x : UnitName × ℕ) → k < length es → Some x ≡ entry_at es k → get_or es k (event x.0 x.1) ≡ event x.0 x.1
event-at es k x low is = let d = event x.0 x.1 in event-is (slice_get es k) (get_or es k d) x (slice_get-get_or es k d low) is

-- one event more
pub queue-more : (es : List Event) (k : ℕ) (x : UnitName × ℕ) → k < length es → Some x ≡ entry_at es k
    → queue_text (take (k + 1) es) ≡ queue_text (take k es) ++ event_line (event x.0 x.1)
queue-more es k x low is =
    let d = event x.0 x.1 in
    ap (λ n. queue_text (take n es)) (add-one k) ∙ ap queue_text (take-suc es k d low) ∙ queue-append (take k es) (get_or es k d ∷ [])
    ∙ ap (λ t. queue_text (take k es) ++ t) (queue-one (get_or es k d)) ∙ ap (λ e. queue_text (take k es) ++ event_line e) (event-at es k x low is)

-- the text of all events, where one of them is at a place
pub queue-rest : (es : List Event) (k : ℕ) (x : UnitName × ℕ) → k < length es → Some x ≡ entry_at es k
    → queue_text es ≡ (queue_text (take k es) ++ event_line (event x.0 x.1)) ++ queue_text (drop (k + 1) es)
queue-rest es k x low is =
    ap queue_text (sym (take-append-drop (k + 1) es)) ∙ queue-append (take (k + 1) es) (drop (k + 1) es)
    ∙ ap (λ t. t ++ queue_text (drop (k + 1) es)) (queue-more es k x low is)

-- an event stands at each place
pub no-end : (es : List Event) (k : ℕ) → k < length es → None ≡ entry_at es k → ⊥
no-end es k low none =
    let d = event (record { kind = Clk; unit = 0 }) 0 in
    let here = none ∙ ap (λ (o : Option Event). option_map (λ e. (e.unit, e.remaining)) o) (slice_get-get_or es k d low) in
    cc
