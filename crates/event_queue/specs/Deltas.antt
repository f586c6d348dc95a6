-- The events as they are kept: each by the difference of its time to that of the event before it.
use Rattle.std.specs.Prelude.{ℕ, ◌+◌, ◌-◌, List, [], ◌∷◌, nat_le, if◌then◌else◌}
use Rattle.unit_trait.specs.declared.kind.UnitName.{UnitName}
use Rattle.event_queue.specs.declared.delta.Delta.{Delta}
use Rattle.event_queue.specs.EventList.{Event, event}

-- the events of entries that are behind one to which so many instructions remain: each is due after those of all entries
-- up to its own
abbrev pub events_behind : ℕ → List Delta → List Event
events_behind passed [] = []
events_behind passed (d ∷ deltas) = event d.unit (passed + d.after) ∷ events_behind (passed + d.after) deltas

-- the events of all entries: the first is due after its own instructions
abbrev pub events_of : List Delta → List Event
events_of deltas = events_behind 0 deltas

abbrev pub delta : UnitName → ℕ → Delta
delta unit after = record { unit = unit; after = after }

-- the first entry, and so all, so many instructions nearer
abbrev pub nearer : ℕ → List Delta → List Delta
nearer n [] = []
nearer n (d ∷ deltas) = delta d.unit (d.after - n) ∷ deltas

-- the first entry, and so all, so many instructions further away
abbrev pub further : ℕ → List Delta → List Delta
further n [] = []
further n (d ∷ deltas) = delta d.unit (d.after + n) ∷ deltas

-- an entry put behind all that are due no later, and the next one's difference lowered by its own
abbrev pub entered : UnitName → ℕ → List Delta → List Delta
entered unit delay [] = delta unit delay ∷ []
entered unit delay (d ∷ deltas) =
    if nat_le d.after delay then d ∷ entered unit (delay - d.after) deltas else delta unit delay ∷ nearer delay (d ∷ deltas)
