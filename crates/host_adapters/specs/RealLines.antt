-- Sockets as lines: which ports are listened on, which connections stand, and how often a call has failed.
use Rattle.std.specs.Prelude.{◌≡◌, ◌≢◌, ℕ, ◌<◌, ◌≤◌, ◌^◌, Option, Some, None, Result, Ok, Err, ◌==◌, ◌&&◌, not, filter, nat_lt, Bool, List, [], if◌then◌else◌}
use Rattle.std.specs.List.{All, list_any}
use Rattle.std.specs.IoError.{error_kind}
use Rattle.std.specs.declared.io.Error.{Error}
use Rattle.std.specs.declared.io.ErrorKind.TheVariants.{Interrupted, WouldBlock}
use Rattle.host_lines.specs.declared.lines.LineFault.{LineFault}
use Rattle.host_lines.specs.declared.lines.Received.{Received}
use Rattle.host_lines.specs.declared.lines.Received.TheVariants as received
use Rattle.host_lines.specs.Traffic.{Gone}
use Rattle.host_lines.specs.Told.{Records, Named}
use Rattle.host_lines.specs.State.{LineState}
use Rattle.host_adapters.specs.declared.real_lines.OpenPort.{OpenPort}
use Rattle.host_adapters.specs.declared.real_lines.OpenConnection.{OpenConnection}
use Rattle.host_adapters.specs.declared.sockets.Answered.{Answered}
use Rattle.host_adapters.specs.declared.sockets.Answered.TheVariants.{Done, Waits, Failed}

pub record SocketState : Type 0 where
  pub ports : List ℕ
  pub connections : List ℕ
  -- how many numbers were given to connections: each is that of its turn, counted from 0
  pub given : ℕ
  pub faults : ℕ

abbrev pub is_in : List ℕ → ℕ → Bool
is_in numbers n = list_any (λ k. k == n) numbers

-- the same, as any lines are seen. What they carry is not told.
abbrev pub untold_lines : SocketState → LineState
untold_lines s = record {
  listens = is_in s.ports;
  stands = is_in s.connections;
  faults = s.faults;
  given = is_in [];
  peers = λ conn. Gone;
  told = Records [];
  sent = Named [];
}

abbrev pub port_of : OpenPort → ℕ
port_of p = p.port

abbrev pub number_of : OpenConnection → ℕ
number_of c = c.conn

abbrev pub without_number : ℕ → List ℕ → List ℕ
without_number n numbers = filter (λ k. not (k == n)) numbers

-- how many numbers were given, where this is the next, or none is left
abbrev pub given_before : Option ℕ → ℕ
given_before (Some next) = next
given_before None = 2 ^ 32

-- each connection that stands has a number that was given
abbrev pub AreGiven : ℕ → List ℕ → Type 0
AreGiven given numbers = All (λ k. k < given) numbers

-- a call on a socket that was done answers no more than that
abbrev pub IsAtMost : ℕ → Answered ℕ → Type 0
IsAtMost most (Done n) = n ≤ most
IsAtMost most Waits = Unit {0}
IsAtMost most Failed = Unit {0}

-- What an answer of the system means, and exactly that: one that a signal cut short has no meaning, and the call is made
-- again.
abbrev pub Means : {T : Type 0} → Result T Error → Option (Answered T) → Type 0
Means (Ok x) meaning = meaning ≡ Some (Done x)
Means (Err e) None = error_kind e ≡ Interrupted
Means (Err e) (Some Waits) = error_kind e ≡ WouldBlock
Means (Err e) (Some Failed) = (error_kind e ≢ Interrupted) × (error_kind e ≢ WouldBlock)
Means (Err e) (Some (Done x)) = ⊥

-- what a call that receives answers where its read into so many bytes came to that: a read of none into some is the end
abbrev pub received_as : ℕ → Answered ℕ → Result Received LineFault
received_as most Waits = Ok received.NoneYet
received_as most Failed = Err (record {})
received_as most (Done n) = if (n == 0) && nat_lt 0 most then Ok received.HungUp else Ok (received.Bytes n)

-- what a call that sends answers where its write came to that: nothing was taken where it would have to wait
abbrev pub sent_as : Answered ℕ → Result ℕ LineFault
sent_as Waits = Ok 0
sent_as Failed = Err (record {})
sent_as (Done n) = Ok n
