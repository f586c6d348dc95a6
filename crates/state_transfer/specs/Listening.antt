-- The ports of a saved session are listened on.
use Rattle.std.specs.List.{AllByRecursion}
use Rattle.std.specs.Prelude.{◌≡◌, ◌⊎◌, ℕ, Bool, List, [], None, Result, Ok, Err}
use Rattle.host_lines.specs.declared.lines.ListenFault.{ListenFault}
use Rattle.host_lines.specs.declared.lines.ListenFault.TheVariants as listen
use Rattle.host_lines.specs.State.{LineState, parties}
use Rattle.telnet_lines.specs.Line.{LineOf, unconnected}
use Rattle.terminal_ports.specs.Listening.{ListensEach, given_up}
use Rattle.saved_files.specs.declared.file_faults.RestoreFault.{RestoreFault}
use Rattle.saved_files.specs.declared.file_faults.RestoreFault.TheVariants as fault

-- why a session is not put back, by a listening that came to nothing
abbrev pub port_fault : ListenFault → RestoreFault
port_fault listen.Failed = fault.Port
port_fault listen.OutOfMemory = fault.OutOfMemory

-- what the listenings on the ports of a saved session leave of the outside, by what is answered
abbrev pub IsHeardOn : Bool → List ℕ → Result (Unit {0}) RestoreFault → LineState → LineState → Type 0
IsHeardOn tells ports (Ok u) old new = ListensEach tells ports (Ok u) old new
IsHeardOn tells ports (Err fault.Port) old new = ListensEach tells ports (Err listen.Failed) old new
IsHeardOn tells ports (Err fault.OutOfMemory) old new = ListensEach tells ports (Err listen.OutOfMemory) old new
IsHeardOn tells ports (Err fault.MissingUnit) old new = ⊥
IsHeardOn tells ports (Err (fault.NoFile unit)) old new = ⊥
IsHeardOn tells ports (Err (fault.TooLong unit)) old new = ⊥
IsHeardOn tells ports (Err (fault.Changed unit)) old new = ⊥
IsHeardOn tells ports (Err (fault.Failed f)) old new = ⊥

-- a port is refused, or memory ran out: no file is refused where ports are listened on
abbrev pub IsPortFault : RestoreFault → Type 0
IsPortFault fault.Port = Unit {0}
IsPortFault fault.OutOfMemory = Unit {0}
IsPortFault fault.MissingUnit = ⊥
IsPortFault (fault.NoFile unit) = ⊥
IsPortFault (fault.TooLong unit) = ⊥
IsPortFault (fault.Changed unit) = ⊥
IsPortFault (fault.Failed f) = ⊥

-- What is left of the outside's lines once a session was put back, or was refused. The ports are listened on behind all
-- files: so where there is none, and where a unit is missing or a file was refused, the lines are as they were; and where
-- memory ran out, they are so, or it ran out in the listening. `Port` is the answer where a listening failed.
abbrev pub LeavesLines : Bool → List ℕ → Result (Unit {0}) RestoreFault → LineState → LineState → Type 0
LeavesLines tells ports (Ok u) old new = IsHeardOn tells ports (Ok u) old new × (ports ≡ [] → new ≡ old)
LeavesLines tells ports (Err fault.Port) old new = IsHeardOn tells ports (Err fault.Port) old new
LeavesLines tells ports (Err fault.OutOfMemory) old new = (new ≡ old) ⊎ IsHeardOn tells ports (Err fault.OutOfMemory) old new
LeavesLines tells ports (Err f) old new = new ≡ old

-- these ports were given up, the last one first, and nothing else has changed
pub record GivesUpEach (ports : List ℕ) (old new : LineState) : Type 0 where
  pub told : new.told ≡ old.told
  pub listens : new.listens ≡ given_up ports old.listens
  pub stands : new.stands ≡ old.stands
  pub behind : parties new ≡ parties old
  pub sent : new.sent ≡ old.sent
  pub counted : new.faults ≡ old.faults

-- no line has a port: nobody is connected, and nothing waits
abbrev pub AreClosed : List (LineOf ℕ) → Type 0
AreClosed lines = AllByRecursion (λ (line : LineOf ℕ). line ≡ unconnected None) lines
