-- A reset of all units (How to Use the Nova Computers, "Input-Output Instructions").
use Rattle.std.specs.Prelude.{List, [], ◌∷◌, map}
use Rattle.unit_trait.specs.declared.kind.Kind.{Kind}
use Rattle.unit_trait.specs.declared.kind.UnitName.{UnitName}
use Rattle.unit_trait.specs.Calls.{UnitState, Reset}
use Rattle.unit_trait.specs.Row.{row, moved}
use Rattle.event_queue.specs.EventList.{Event, wished}

-- the first unit of a kind
abbrev pub first_unit : Kind → UnitName
first_unit kind = record { kind = kind; unit = 0 }

-- the units, where each was reset
abbrev pub reset_units : List UnitState → List UnitState
reset_units units = map (λ u. moved u Reset) units

-- the events behind that: the queue gets what each device wishes for its first unit, in bus order
abbrev pub reset_events : List UnitState → List Event → List Event
reset_events [] events = events
reset_events (u ∷ us) events = reset_events us (wished (first_unit u.kind) (row u Reset).queue events)
