-- Looks of units in front of whose instructions nothing else is due: each asks for the unit's event again, and does
-- nothing more.
use Rattle.std.specs.Prelude.{◌≡◌, ◌⊎◌, ◌==◌, ◌≤◌, ◌-◌, ◌%◌, ℕ, zero, suc, List, [], ◌∷◌, if◌then◌else◌}
use Rattle.std.specs.List.{AllByRecursion}
use Rattle.unit_trait.specs.declared.kind.UnitName.{UnitName}
use Rattle.event_queue.specs.EventList.{Event, activated, served, dues, ticked}

-- these units are asked for again after so many instructions, one behind another: the first event is taken before each
abbrev pub asked_again : ℕ → List UnitName → List Event → List Event
asked_again period [] events = events
asked_again period (unit ∷ units) events = asked_again period units (activated unit period (served events))

-- the units whose events are due are asked for again after so many instructions
abbrev pub looked : ℕ → List Event → List Event
looked period events = asked_again period (dues events) events

-- so many instructions have passed, each behind such looks, where some were due
unfoldable pub idled : ℕ → ℕ → List Event → List Event
idled period zero events = events
idled period (suc count) events = ticked (looked period (idled period count events))

-- each event that is due in front of so many instructions is of a unit that looks so
abbrev pub AreLooks : (UnitName → Type 0) → ℕ → List Event → Type 0
AreLooks Looks count events = AllByRecursion (λ (e : Event). Looks e.unit ⊎ (count ≤ e.remaining)) events

-- behind the first event none is due in front of so many instructions
abbrev pub AreOthersLater : ℕ → List Event → Type 0
AreOthersLater count [] = Unit {0}
AreOthersLater count (e ∷ events) = AllByRecursion (λ (other : Event). count ≤ other.remaining) events

-- the first two events are due at one time
abbrev pub AreTwins : List Event → Type 0
AreTwins [] = ⊥
AreTwins (e ∷ []) = ⊥
AreTwins (e ∷ f ∷ events) = f.remaining ≡ e.remaining

-- behind the first two events none is due in front of so many instructions
abbrev pub AreLaterThanTwo : ℕ → List Event → Type 0
AreLaterThanTwo count [] = Unit {0}
AreLaterThanTwo count (e ∷ []) = Unit {0}
AreLaterThanTwo count (e ∷ f ∷ events) = AllByRecursion (λ (other : Event). count ≤ other.remaining) events

-- what remains to an event that had so many left, and has passed and was asked for again each so many, up to that count
abbrev pub rest_behind : ℕ → ℕ → ℕ → ℕ
rest_behind left period count = if (count - left) % period == 0 then 0 else period - (count - left) % period
