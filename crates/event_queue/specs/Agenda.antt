-- Events that were written down, and are asked for again.
use Rattle.std.specs.Prelude.{◌≡◌, List, [], ◌∷◌}
use Rattle.event_queue.specs.EventList.{Event, activated, Sound}

-- behind these events, others are asked for one by one, in their order
abbrev pub asked_in_order : List Event → List Event → List Event
asked_in_order events [] = events
asked_in_order events (e ∷ others) = asked_in_order (activated e.unit e.remaining events) others

-- Where no event waits, those of a sound list that are asked for in its order stand as they stood, and so do those of one
-- time.
abbrev pub AgendaStandsAgain : Type 0
AgendaStandsAgain = (events : List Event) → Sound events → asked_in_order [] events ≡ events
