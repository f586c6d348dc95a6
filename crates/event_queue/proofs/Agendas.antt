-- The events of a sound list are asked for one by one, each behind those before it.
use Rattle.std.proofs.Common.{◌≡◌, ◌≤◌, ◌||◌, false, cond, List, [], ◌∷◌, ◌++◌, refl, sym, ap, subst, ◌∙◌, append_assoc, append-nil}
use Rattle.std.specs.List.{AllByRecursion, IsDistinct}
use Rattle.std.proofs.lemmas.Bool.{le-leb}
use Rattle.unit_trait.specs.declared.kind.UnitName.{UnitName}
use Rattle.unit_trait.specs.Kinds.{same_unit}
use Rattle.event_queue.specs.EventList.{Event, event, waits, placed, activated, Rising, waiting}
use Rattle.event_queue.specs.Agenda.{asked_in_order, AgendaStandsAgain}

-- what holds of all holds of the one behind some
event-there : (P : Event → Type 0) (front : List Event) (e : Event) (es : List Event) → AllByRecursion P (front ++ e ∷ es) → P e
event-there P [] e es all = all.0
event-there P (x ∷ front) e es all = event-there P front e es all.1

unit-there : (P : UnitName → Type 0) (front : List Event) (e : Event) (es : List Event) → AllByRecursion P (waiting (front ++ e ∷ es)) → P e.unit
unit-there P [] e es all = all.0
unit-there P (x ∷ front) e es all = unit-there P front e es all.1

-- one that is due no earlier than those in front of it is put behind them
put-last : (front : List Event) (e : Event) (es : List Event) → Rising (front ++ e ∷ es) → placed e.unit e.remaining front ≡ front ++ e ∷ []
put-last [] e es rising = refl
put-last (x ∷ front) e es rising =
    let early = event-there (λ (later : Event). x.remaining ≤ later.remaining) front e es rising.0 in
    ap (λ b. cond b (x ∷ placed e.unit e.remaining front) (event e.unit e.remaining ∷ x ∷ front)) (le-leb x.remaining e.remaining early)
    ∙ ap (λ rest. x ∷ rest) (put-last front e es rising.1)

-- its unit does not wait in front of it
not-waiting : (front : List Event) (e : Event) (es : List Event) → IsDistinct same_unit (waiting (front ++ e ∷ es)) → waits e.unit front ≡ false
unfolding IsDistinct
not-waiting [] e es distinct = refl
not-waiting (x ∷ front) e es distinct =
    ap (λ b. b || waits e.unit front) (unit-there (λ u. same_unit x.unit u ≡ false) front e es distinct.0)
    ∙ not-waiting front e es distinct.1

one-more : (front : List Event) (e : Event) (es : List Event) → Rising (front ++ e ∷ es) → IsDistinct same_unit (waiting (front ++ e ∷ es))
    → activated e.unit e.remaining front ≡ front ++ e ∷ []
one-more front e es rising distinct =
    ap (λ b. cond b front (placed e.unit e.remaining front)) (not-waiting front e es distinct) ∙ put-last front e es rising

each-behind : (front es : List Event) → Rising (front ++ es) → IsDistinct same_unit (waiting (front ++ es)) → asked_in_order front es ≡ front ++ es
each-behind front [] rising distinct = sym (append-nil front)
each-behind front (e ∷ es) rising distinct =
    let joined : (front ++ e ∷ []) ++ es ≡ front ++ e ∷ es = append_assoc front (e ∷ []) es in
    let rest =
    each-behind (front ++ e ∷ []) es (subst Rising (sym joined) rising)
    (subst (λ xs. IsDistinct same_unit (waiting xs)) (sym joined) distinct) in
    ap (λ xs. asked_in_order xs es) (one-more front e es rising distinct) ∙ rest ∙ joined

pub agenda-stands : AgendaStandsAgain
agenda-stands events sound = each-behind [] events sound.rising sound.distinct
