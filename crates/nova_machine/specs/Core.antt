-- What holds of every machine at every moment.
use Rattle.std.specs.Prelude.{◌≡◌, ◌⊎◌, ℕ, ◌≤◌, List, [], ◌∷◌}
use Rattle.std.specs.List.{AllByRecursion}
use Rattle.unit_trait.specs.declared.kind.Kind.{Kind}
use Rattle.unit_trait.specs.declared.kind.UnitName.{UnitName}
use Rattle.event_queue.specs.EventList.{Event, Sound}
use Rattle.event_queue.specs.DueTimes.{scheduled}
use Rattle.unit_list.specs.Bus.{AllFit, kinds_of}
use Rattle.nova_machine.specs.Machine.{MachineState}

-- a kind is among these
abbrev pub IsAmong : Kind → List Kind → Type 0
IsAmong kind [] = ⊥
IsAmong kind (k ∷ kinds) = (k ≡ kind) ⊎ IsAmong kind kinds

-- each event is one of a unit of these kinds
abbrev pub AreListed : List Kind → List Event → Type 0
AreListed kinds events = AllByRecursion (λ (e : Event). IsAmong e.unit.kind kinds) events

-- Each register of each unit holds a value from its least to its largest. The events are in the order of their times, one a
-- unit, each of a unit that the machine has, and none is due at a time before the present one.
pub record IsCore (m : MachineState) : Type 0 where
  pub registers : AllFit m.units
  pub sound : Sound m.events
  pub listed : AreListed (kinds_of m.units) m.events
  pub times : AllByRecursion (λ (x : ℕ × UnitName). m.time ≤ x.0) (scheduled m.time m.events)
