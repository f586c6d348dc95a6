-- The events that wait: units, each with the instructions that remain until its event is due (Writing a Simulator for
-- the SIMH System, "Time Base" and "Device Timing").
use Rattle.std.specs.Prelude.{◌≡◌, ℕ, ◌-◌, ◌<◌, ◌≤◌, ◌^◌, ◌==◌, not, nat_le, Bool, false, List, [], ◌∷◌, map, filter, Option, Some, None, if◌then◌else◌}
use Rattle.std.specs.List.{AllByRecursion, IsDistinct, list_any}
use Rattle.unit_trait.specs.declared.kind.Kind.{Kind}
use Rattle.unit_trait.specs.declared.kind.UnitName.{UnitName}
use Rattle.unit_trait.specs.declared.calls.Queue.{Queue}
use Rattle.unit_trait.specs.declared.calls.Queue.TheVariants.{Keep, Cancel, After}
use Rattle.unit_trait.specs.Kinds.{units_of, code_of, same_unit}

-- the event of a unit, and how many instructions remain until it is due
pub record Event : Type 0 where
  pub unit : UnitName
  pub remaining : ℕ

abbrev pub event : UnitName → ℕ → Event
event unit remaining = record { unit = unit; remaining = remaining }

-- whether a unit has an event
abbrev pub waits : UnitName → List Event → Bool
waits unit events = list_any (λ e. same_unit e.unit unit) events

-- a unit's event is put behind all that are due no later
abbrev pub placed : UnitName → ℕ → List Event → List Event
placed unit delay [] = event unit delay ∷ []
placed unit delay (e ∷ events) =
    if nat_le e.remaining delay then e ∷ placed unit delay events else event unit delay ∷ e ∷ events

-- A unit's event is asked for after so many instructions. Nothing changes for one that waits already.
abbrev pub activated : UnitName → ℕ → List Event → List Event
activated unit delay events = if waits unit events then events else placed unit delay events

-- whether a unit is of that kind
abbrev pub is_of_kind : Kind → UnitName → Bool
is_of_kind kind unit = code_of unit.kind == code_of kind

-- no unit of that kind waits any more
abbrev pub cancelled : Kind → List Event → List Event
cancelled kind events = filter (λ e. not (is_of_kind kind e.unit)) events

-- the unit whose event is due first, if one is due
abbrev pub due : List Event → Option UnitName
due [] = None
due (e ∷ events) = if e.remaining == 0 then Some e.unit else None

-- without the event that is due first
abbrev pub served : List Event → List Event
served [] = []
served (e ∷ events) = if e.remaining == 0 then events else e ∷ events

-- the units whose events are due, in their order
abbrev pub dues : List Event → List UnitName
dues [] = []
dues (e ∷ events) = if e.remaining == 0 then e.unit ∷ dues events else []

-- each remaining time lowered by so many instructions, or to 0
abbrev pub lowered : ℕ → List Event → List Event
lowered n events = map (λ e. event e.unit (e.remaining - n)) events

-- one instruction has passed
abbrev pub ticked : List Event → List Event
ticked events = lowered 1 events

-- no event is due within so many instructions
abbrev pub IsClear : ℕ → List Event → Type 0
IsClear count events = (n : ℕ) → n < count → due (lowered n events) ≡ None

-- what a device wishes, for one of its units
abbrev pub wished : UnitName → Queue → List Event → List Event
wished unit Keep events = events
wished unit Cancel events = cancelled unit.kind events
wished unit (After delay) events = activated unit delay events

-- the times do not fall
abbrev pub Rising : List Event → Type 0
Rising [] = Unit {0}
Rising (e ∷ events) = AllByRecursion (λ (later : Event). e.remaining ≤ later.remaining) events × Rising events

-- the units that wait
abbrev pub waiting : List Event → List UnitName
waiting events = map (λ e. e.unit) events

-- the times do not fall, no unit is there twice, each is a unit of its kind, and each time is one that can be asked for
pub record Sound (events : List Event) : Type 0 where
  pub rising : Rising events
  pub distinct : IsDistinct same_unit (waiting events)
  pub units : AllByRecursion (λ (e : Event). e.unit.unit < units_of e.unit.kind) events
  pub times : AllByRecursion (λ (e : Event). e.remaining < 2 ^ 32) events

-- the remaining time of the first event, where one waits
abbrev pub IsFirst : List Event → ℕ → Type 0
IsFirst [] time = Unit {0}
IsFirst (e ∷ events) time = time ≡ e.remaining

-- that unit is none of these
abbrev pub IsApart : UnitName → List UnitName → Type 0
IsApart unit units = AllByRecursion (λ (other : UnitName). same_unit unit other ≡ false) units
