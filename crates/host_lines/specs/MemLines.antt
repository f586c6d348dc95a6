-- Lines in memory: what was added to them, what they have given, and which of their calls are to fail.
use Rattle.std.specs.Prelude.{◌≡◌, ℕ, ◌+◌, ◌-◌, ◌^◌, ◌==◌, ◌&&◌, Bool, false, List, [], ◌∷◌, ◌++◌, length, nat_lt, Result, Ok, Err, Option, Some, None, is_some, slice_get, slice_set, if◌then◌else◌}
use Rattle.std.specs.List.{list_any}
use Rattle.host_lines.specs.declared.entry.CallerAct.{CallerAct}
use Rattle.host_lines.specs.declared.entry.CallerAct.TheVariants.{Connects, Sends, HangsUp}
use Rattle.host_lines.specs.declared.lines.ConnId.{ConnId}
use Rattle.host_lines.specs.declared.lines.LineFault.{LineFault}
use Rattle.host_lines.specs.declared.lines.Sent.{Sent}
use Rattle.host_lines.specs.declared.lines.Received.{Received}
use Rattle.host_lines.specs.declared.lines.Received.TheVariants.{Bytes, NoneYet, HungUp}
use Rattle.host_lines.specs.declared.mem_lines.Given.{Given}
use Rattle.host_lines.specs.Traffic.{Happening, Traffic, Peer, Caller, Gone}
use Rattle.host_lines.specs.Told.{Tells, Named}
use Rattle.host_lines.specs.State.{LineState}

-- the number of the next call, where numbers have not ended; the numbers of those that are to fail; how often one has
pub record CallState : Type 0 where
  pub next : Option ℕ
  pub failing : List ℕ
  pub faults : ℕ

abbrev pub no_calls : CallState
no_calls = record { next = Some 0; failing = []; faults = 0 }

-- whether a call fails: 0 is the next one
abbrev pub fails_from : Option ℕ → List ℕ → ℕ → Bool
fails_from None failing k = false
fails_from (Some n) failing k = nat_lt (n + k) (2 ^ 64) && list_any (λ f. f == n + k) failing

abbrev pub fails_of : CallState → ℕ → Bool
fails_of c = fails_from c.next c.failing

-- the number behind a number: numbers end at 2^64 - 1
abbrev pub next_number : ℕ → Option ℕ
next_number n = if n == 2 ^ 64 - 1 then None else Some (n + 1)

-- once one more number was named
abbrev pub with_failing : ℕ → CallState → CallState
with_failing number c = record c { failing = c.failing ++ number ∷ [] }

pub record MemState : Type 0 where
  pub entries : List Happening
  -- the most bytes of one send, and the bytes that all further sends can take
  pub most : ℕ
  pub room : ℕ
  pub calls : CallState
  pub ports : List ℕ
  -- the connections that were accepted, by their numbers
  pub given : List Given
  pub sent : List Sent
  -- the time of what was added last, and how many connections were added
  pub last : ℕ
  pub connects : ℕ

abbrev pub traffic_of : MemState → Traffic
traffic_of m = record { entries = m.entries; most = m.most; room = m.room; fails = fails_of m.calls }

abbrev pub is_listed : List ℕ → ℕ → Bool
is_listed ports port = list_any (λ p. p == port) ports

abbrev pub stands_at : Option Given → Bool
stands_at None = false
stands_at (Some g) = g.stands

abbrev pub peer_at : Option Given → Peer
peer_at None = Gone
peer_at (Some g) = if g.stands then Caller g.caller else Gone

-- what the trait sees of them
abbrev pub state_of : MemState → LineState
state_of m = record {
  listens = is_listed m.ports;
  stands = λ conn. stands_at (slice_get m.given conn);
  faults = m.calls.faults;
  given = λ conn. is_some (slice_get m.given conn);
  peers = λ conn. peer_at (slice_get m.given conn);
  told = Tells (traffic_of m);
  sent = Named m.sent;
}

abbrev pub happens : ℕ → ℕ → CallerAct → List ℕ → Happening
happens time caller does bytes = record { time = time; caller = caller; does = does; bytes = bytes }

-- how many connections an entry makes
abbrev pub connects_in : CallerAct → ℕ
connects_in (Connects port) = 1
connects_in Sends = 0
connects_in HangsUp = 0

abbrev pub connects_of : Happening → ℕ
connects_of e = connects_in e.does

-- lines on which nothing comes
abbrev pub no_lines : ℕ → ℕ → MemState
no_lines most room = record {
  entries = [];
  most = most;
  room = room;
  calls = no_calls;
  ports = [];
  given = [];
  sent = [];
  last = 0;
  connects = 0;
}

-- something is added behind all other traffic
abbrev pub with_entry : Happening → MemState → MemState
with_entry e m = record m { entries = m.entries ++ e ∷ []; last = e.time; connects = m.connects + connects_of e }

-- a connection has ended, where it was accepted
abbrev pub ended : ℕ → List Given → List Given
ended conn given = slice_set given conn (record { caller = caller_in (slice_get given conn); stands = false })
  where
    caller_in : Option Given → ℕ
    caller_in None = 0
    caller_in (Some g) = g.caller

abbrev pub given_after : ℕ → Received → List Given → List Given
given_after conn HungUp given = ended conn given
given_after conn NoneYet given = given
given_after conn (Bytes n) given = given

-- numbers are given to connections in order
abbrev pub IsNumbered : List Given → Result (Option ConnId) LineFault → Type 0
IsNumbered given (Ok (Some id)) = id.0 ≡ length given
IsNumbered given (Ok None) = Unit {0}
IsNumbered given (Err fault) = Unit {0}
