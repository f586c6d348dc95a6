-- One unit after another is reset.
use Rattle.std.proofs.Common.{◌≡◌, ℕ, ◌+◌, ◌<◌, zero, suc, List, [], ◌∷◌, ◌++◌, length, map, take, drop, get_or, slice_set, None, add-one, refl, ap, ◌∙◌, arith}
use Rattle.unit_trait.specs.declared.kind.Kind.{Kind}
use Rattle.unit_trait.specs.declared.kind.UnitName.{UnitName}
use Rattle.unit_trait.specs.declared.calls.Queue.{Queue}
use Rattle.unit_trait.specs.declared.calls.Queue.TheVariants.{Keep, Cancel, After}
use Rattle.unit_trait.specs.Kinds.{units_of}
use Rattle.unit_trait.specs.Calls.{UnitState, Reset}
use Rattle.unit_trait.specs.Row.{row, moved, Fits, initial_unit, IsLater, IsAgain}
use Rattle.event_queue.specs.EventList.{Event, Sound, wished, due}
use Rattle.event_queue.proofs.SoundLists.{sound-activated, sound-cancelled}
use Rattle.unit_trait.proofs.EveryKind.{every-kind}
use Rattle.unit_list.specs.Bus.{kinds_of, AllFit}
use Rattle.unit_list.specs.Reset.{first_unit, reset_units, reset_events}
use Rattle.unit_list.specs.Laws.{IsTimely}
use Rattle.unit_list.proofs.Ranges.{moved-fits, wish-timely, initial-fits}
use Rattle.unit_list.proofs.Standing.{fits-set, kinds-set}

-- every kind has a first unit
pub has-first : (kind : Kind) → 0 < units_of kind
has-first kind = every-kind (λ (k : Kind). 0 < units_of k) (omega arith, omega arith, omega arith, omega arith, omega arith, omega arith, omega arith, omega arith, omega arith, omega arith, omega arith) kind

pub again-later : (wish : Queue) → IsAgain wish → IsLater wish
again-later Keep again = tt
again-later Cancel again = tt
again-later (After delay) again = again

pub ruleset resets = (has-first, again-later)

-- ---- behind a reset all is in range, as at first
pub reset-fits : (us : List UnitState) → AllFit us → AllFit (reset_units us)
reset-fits [] all = tt
reset-fits (u ∷ us) all = (moved-fits u Reset all.0 tt, reset-fits us all.1)

pub reset-kinds : (us : List UnitState) → kinds_of (reset_units us) ≡ kinds_of us
reset-kinds [] = refl
reset-kinds (u ∷ us) = ap (λ kinds. u.kind ∷ kinds) (reset-kinds us)

pub begun-fits : (kinds : List Kind) → AllFit (map initial_unit kinds)
begun-fits [] = tt
begun-fits (kind ∷ kinds) = (initial-fits kind, begun-fits kinds)

-- a wish in time, for one of the units of its kind, leaves a sound list of events
pub sound-wished : (u : UnitName) (wish : Queue) (es : List Event) → u.unit < units_of u.kind → IsTimely wish → Sound es → Sound (wished u wish es)
sound-wished u Keep es low timely sound = sound
sound-wished u Cancel es low timely sound = sound-cancelled u.kind es sound
sound-wished u (After delay) es low timely sound = sound-activated u delay es low timely.1 sound

pub sound-resets : (us : List UnitState) (es : List Event) → AllFit us → Sound es → Sound (reset_events us es)
sound-resets [] es all sound = sound
sound-resets (u ∷ us) es all sound =
    let first = first_unit u.kind in
    let wish = (row u Reset).queue in
    sound-resets us (wished first wish es) all.1 (sound-wished first wish es (has-first u.kind) (wish-timely u Reset all.0) sound)

-- ---- one of them behind another
-- the first units are reset, and what is left to do for the others comes to a reset of all
pub record ResetSoFar {A : Type 0} (f : A → UnitState) (before now : List A) (i : ℕ) (queue_before queue : List Event) : Type 0 where
  pub units : map f (take i now) ++ reset_units (map f (drop i now)) ≡ reset_units (map f before)
  pub events : reset_events (map f (drop i now)) queue ≡ reset_events (map f before) queue_before
  pub later : due queue_before ≡ None → due queue ≡ None
  pub fits : AllFit (map f before) → AllFit (map f now)
  pub kinds : kinds_of (map f now) ≡ kinds_of (map f before)

units-step : {A : Type 0} (f : A → UnitState) (xs : List A) (i : ℕ) (x y : A) → i < length xs → x ≡ get_or xs i x → f y ≡ moved (f x) Reset
    → map f (take (suc i) (slice_set xs i y)) ++ reset_units (map f (drop (suc i) (slice_set xs i y))) ≡ map f (take i xs) ++ reset_units (map f (drop i xs))
units-step f [] i x y within at becomes = absurd (omega arith)
units-step f (a ∷ xs) zero x y within at becomes = ap (λ u. u ∷ reset_units (map f xs)) (becomes ∙ ap (λ z. moved (f z) Reset) at)
units-step f (a ∷ xs) (suc i) x y within at becomes = ap (λ us. f a ∷ us) (units-step f xs i x y (omega arith) at becomes)

events-step : {A : Type 0} (f : A → UnitState) (xs : List A) (i : ℕ) (x y : A) (events next : List Event) → i < length xs → x ≡ get_or xs i x
    → next ≡ wished (first_unit (f x).kind) (row (f x) Reset).queue events
    → reset_events (map f (drop (suc i) (slice_set xs i y))) next ≡ reset_events (map f (drop i xs)) events
events-step f [] i x y events next within at wish = absurd (omega arith)
events-step f (a ∷ xs) zero x y events next within at wish =
    ap (λ es. reset_events (map f xs) es) (wish ∙ ap (λ z. wished (first_unit (f z).kind) (row (f z) Reset).queue events) at)
events-step f (a ∷ xs) (suc i) x y events next within at wish = events-step f xs i x y events next (omega arith) at wish

pub reset-more : {A : Type 0} (f : A → UnitState) (before now : List A) (i : ℕ) (x y : A) (events_before events next : List Event)
    → ResetSoFar f before now i events_before events → i < length now → x ≡ get_or now i x
    → f y ≡ moved (f x) Reset → next ≡ wished (first_unit (f x).kind) (row (f x) Reset).queue events → (due events ≡ None → due next ≡ None) → Fits (f y)
    → ResetSoFar f before (slice_set now i y) (i + 1) events_before next
reset-more f before now i x y events_before events next so_far within at becomes wish later fits = rw add-one (record {
  units = units-step f now i x y within at becomes ∙ so_far.units;
  events = events-step f now i x y events next within at wish ∙ so_far.events;
  later = λ none. later (so_far.later none);
  fits = λ all. fits-set f now i y (so_far.fits all) fits;
  kinds = kinds-set f now i x y at (ap (λ u. u.kind) becomes) ∙ so_far.kinds;
})
