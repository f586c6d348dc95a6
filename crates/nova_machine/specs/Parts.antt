-- A part of a run, as a turn or the run itself: what was made in it, each with the state in which it came; the state
-- behind it; and its stop, if it stopped.
use Rattle.std.specs.Prelude.{List, [], ◌++◌, Option, Some, None}
use Rattle.observations.specs.Observations.{Observation}
use Rattle.nova_machine.specs.declared.machine.Stop.{Stop}
use Rattle.nova_machine.specs.declared.machine.Turn.{Turn}
use Rattle.nova_machine.specs.declared.machine.Turn.TheVariants.{Executed, Stopped}
use Rattle.nova_machine.specs.Seen.{Seen}

pub record Part : Type 0 where
  pub made : List (Observation Seen)
  pub after : Seen
  pub stop : Option Stop

-- nothing is made
abbrev pub silent : Option Stop → Seen → Part
silent stop s = record { made = []; after = s; stop = stop }

abbrev pub behind_made : List (Observation Seen) → Part → Part
behind_made made p = record { made = made ++ p.made; after = p.after; stop = p.stop }

-- a part that stopped is the end, and another goes on
abbrev pub followed : List (Observation Seen) → Option Stop → Seen → (Seen → Part) → Part
followed made (Some stop) s goes_on = record { made = made; after = s; stop = Some stop }
followed made None s goes_on = behind_made made (goes_on s)

abbrev pub then_part : Part → (Seen → Part) → Part
then_part p goes_on = followed p.made p.stop p.after goes_on

-- the stop of a turn
abbrev pub stop_of : Turn → Option Stop
stop_of Executed = None
stop_of (Stopped stop) = Some stop
