-- Ports that are listened on, one behind another. Where one is not to be had, those before it are given up again.
use Rattle.std.specs.Prelude.{◌≡◌, ℕ, zero, suc, Bool, IsTrue, List, [], ◌∷◌, ◌++◌, Result, Ok, Err}
use Rattle.host_lines.specs.declared.lines.ListenFault.{ListenFault}
use Rattle.host_lines.specs.Traffic.{Answer, Quiet, Failed, Ahead, Replied, replied, listening}
use Rattle.host_lines.specs.Told.{Told, Gives}
use Rattle.host_lines.specs.LineCalls.{Listens, ports_after, listen_faults}
use Rattle.host_lines.specs.State.{LineState, parties, with_one, without_one}

-- so many ports, from one on
unfoldable pub rising : ℕ → ℕ → List ℕ
rising zero port = []
rising (suc left) port = port ∷ rising left (suc port)

-- ---- one port

-- what a listening leaves of the outside: the port is listened on from then on, or is not
pub record IsListening (tells : Bool) (port : ℕ) (result : Result (Unit {0}) ListenFault) (old new : LineState) : Type 0
  where
    pub told : IsTrue tells → Listens old.told new.told result
    pub listens : new.listens ≡ ports_after port result old.listens
    pub stands : new.stands ≡ old.stands
    pub behind : parties new ≡ parties old
    pub sent : new.sent ≡ old.sent
    pub counted : new.faults ≡ listen_faults result old.faults

-- ---- several

-- what comes next is asked of what is then still to come, unless a listening failed
abbrev pub unless_failed : Answer → Ahead → (Ahead → Replied) → Replied
unless_failed Failed ahead more = replied Failed ahead
unless_failed answer ahead more = more ahead

-- ports are listened on, one behind another, up to the first that is not to be had
unfoldable pub listening_each : List ℕ → Ahead → Replied
listening_each [] ahead = replied Quiet ahead
listening_each (port ∷ more) ahead = unless_failed (listening ahead).answer (listening ahead).ahead (listening_each more)

-- which ports are listened on once all of these are, and once they are given up again
abbrev pub listens_each : List ℕ → (ℕ → Bool) → ℕ → Bool
listens_each [] listens = listens
listens_each (port ∷ more) listens = listens_each more (with_one port listens)

abbrev pub given_up : List ℕ → (ℕ → Bool) → ℕ → Bool
given_up [] listens = listens
given_up (port ∷ more) listens = without_one port (given_up more listens)

-- what is told of the calls that listen on these ports, one behind another, and are all answered
abbrev pub TellsEach : List ℕ → Told → Told → Type 0
TellsEach [] old new = new ≡ old
TellsEach (port ∷ more) old new = (mid : Told) × (Gives old mid listening Quiet × TellsEach more mid new)

-- all are listened on
pub record AllListened (tells : Bool) (ports : List ℕ) (old new : LineState) : Type 0 where
  pub told : IsTrue tells → TellsEach ports old.told new.told
  pub listens : new.listens ≡ listens_each ports old.listens

-- One came to nothing: those before it were listened on, and are given up again; those behind it were not tried.
pub record OneRefused (tells : Bool) (ports : List ℕ) (fault : ListenFault) (old new : LineState) : Type 0 where
  pub before : List ℕ
  pub refused : ℕ
  pub behind : List ℕ
  pub parts : ports ≡ before ++ (refused ∷ behind)
  pub told : IsTrue tells → (mid : Told) × (TellsEach before old.told mid × Listens mid new.told (Err fault))
  pub listens : new.listens ≡ given_up before old.listens

abbrev pub LeavesPorts : Bool → List ℕ → Result (Unit {0}) ListenFault → LineState → LineState → Type 0
LeavesPorts tells ports (Ok u) old new = AllListened tells ports old new
LeavesPorts tells ports (Err fault) old new = OneRefused tells ports fault old new

-- what such a row of listenings leaves of the outside
pub record ListensEach (tells : Bool) (ports : List ℕ) (result : Result (Unit {0}) ListenFault) (old new : LineState) : Type 0
  where
    pub row : LeavesPorts tells ports result old new
    pub stands : new.stands ≡ old.stands
    pub behind : parties new ≡ parties old
    pub sent : new.sent ≡ old.sent
    pub counted : new.faults ≡ listen_faults result old.faults
