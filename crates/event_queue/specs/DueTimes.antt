-- The events that wait, each with the time at which it is due, in instructions since the session began: what a reader
-- has to believe of the list of remaining times, which specs/Laws.antt ties to it.
use Rattle.std.specs.Prelude.{◌≡◌, ℕ, ◌+◌, ◌≤◌, nat_le, nat_lt, not, false, List, [], ◌∷◌, ◌++◌, map, filter, AllPairs, Option, Some, None, if◌then◌else◌}
use Rattle.std.specs.List.{list_any}
use Rattle.unit_trait.specs.declared.kind.Kind.{Kind}
use Rattle.unit_trait.specs.declared.kind.UnitName.{UnitName}
use Rattle.unit_trait.specs.Kinds.{same_unit}
use Rattle.event_queue.specs.EventList.{Event, is_of_kind}

-- the same events, each with the time at which it is due and its unit
abbrev pub scheduled : ℕ → List Event → List (ℕ × UnitName)
scheduled now events = map (λ e. (now + e.remaining, e.unit)) events

-- the times do not fall, and no unit is there twice
pub record IsSchedule (entries : List (ℕ × UnitName)) : Type 0 where
  pub times : AllPairs (λ (x y : ℕ × UnitName). x.0 ≤ y.0) entries
  pub units : AllPairs (λ (x y : ℕ × UnitName). same_unit x.1 y.1 ≡ false) entries

-- A unit's event is asked for at a time. Nothing changes for a unit that is there, and else it stands behind all entries
-- of at most that time.
abbrev pub activated_at : ℕ → UnitName → List (ℕ × UnitName) → List (ℕ × UnitName)
activated_at time unit entries =
    if list_any (λ x. same_unit x.1 unit) entries then entries
    else filter (λ x. nat_le x.0 time) entries ++ (time, unit) ∷ filter (λ x. nat_lt time x.0) entries

-- no unit of that kind is there
abbrev pub cancelled_of : Kind → List (ℕ × UnitName) → List (ℕ × UnitName)
cancelled_of kind entries = filter (λ x. not (is_of_kind kind x.1)) entries

-- the unit that is due: the first one, where its time has come
abbrev pub due_at : ℕ → List (ℕ × UnitName) → Option UnitName
due_at now [] = None
due_at now (x ∷ entries) = if nat_le x.0 now then Some x.1 else None

-- without the one that is due
abbrev pub served_at : ℕ → List (ℕ × UnitName) → List (ℕ × UnitName)
served_at now [] = []
served_at now (x ∷ entries) = if nat_le x.0 now then entries else x ∷ entries
