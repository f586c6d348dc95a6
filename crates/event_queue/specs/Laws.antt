-- What holds of the list of events, in a reader's words.
use Rattle.std.specs.Prelude.{◌≡◌, ℕ, ◌+◌, ◌<◌, ◌^◌, List, [], None}
use Rattle.unit_trait.specs.declared.kind.Kind.{Kind}
use Rattle.unit_trait.specs.declared.kind.UnitName.{UnitName}
use Rattle.unit_trait.specs.Kinds.{units_of}
use Rattle.event_queue.specs.EventList.{Event, Sound, activated, cancelled, due, served, ticked}
use Rattle.event_queue.specs.DueTimes.{scheduled, IsSchedule, activated_at, cancelled_of, due_at, served_at}

-- what is done to the remaining times is done to the times at which the events are due, and a tick leaves these
pub record RemainingTimesAreDueTimes : Type 0 where
  pub sound : (now : ℕ) (events : List Event) → Sound events → IsSchedule (scheduled now events)
  pub activate : (now delay : ℕ) (unit : UnitName) (events : List Event) → Sound events
      → scheduled now (activated unit delay events) ≡ activated_at (now + delay) unit (scheduled now events)
  pub cancel : (now : ℕ) (kind : Kind) (events : List Event)
      → scheduled now (cancelled kind events) ≡ cancelled_of kind (scheduled now events)
  pub clear : (now : ℕ) → scheduled now [] ≡ []
  pub next : (now : ℕ) (events : List Event) → due events ≡ due_at now (scheduled now events)
  pub serve : (now : ℕ) (events : List Event) → scheduled now (served events) ≡ served_at now (scheduled now events)
  pub tick : (now : ℕ) (events : List Event) → Sound events → due events ≡ None
      → scheduled (now + 1) (ticked events) ≡ scheduled now events

-- whatever is done to a sound list leaves one
pub record ListsStaySound : Type 0 where
  pub none : Sound []
  pub activate : (unit : UnitName) (delay : ℕ) (events : List Event) → unit.unit < units_of unit.kind → delay < 2 ^ 32
      → Sound events → Sound (activated unit delay events)
  pub cancel : (kind : Kind) (events : List Event) → Sound events → Sound (cancelled kind events)
  pub serve : (events : List Event) → Sound events → Sound (served events)
  pub tick : (events : List Event) → Sound events → Sound (ticked events)
