-- What units want of the lines of a machine, the console line among them: a key is that of one poll of the line, and a byte is
-- put on it.
use Rattle.std.specs.Prelude.{ℕ, Bool, List, [], ◌∷◌, map, slice_get, slice_set, Option, Some, None, option_map, is_some, if◌then◌else◌}
use Rattle.observations.specs.Observations.{Observation, Sends}
use Rattle.host_lines.specs.declared.lines.Sent.{Sent}
use Rattle.host_lines.specs.Traffic.{Peer, Ahead}
use Rattle.telnet_lines.specs.Line.{LineOf, is_full, put_on}
use Rattle.telnet_lines.specs.Poll.{Polled, polled}
use Rattle.expect_actions.specs.Expects.{ExpectTable, match_at, after_printed}
use Rattle.unit_trait.specs.declared.calls.Want.{Want}
use Rattle.unit_trait.specs.declared.calls.Want.TheVariants as want
use Rattle.unit_trait.specs.declared.calls.Got.{Got}
use Rattle.unit_trait.specs.declared.calls.Got.TheVariants as got
use Rattle.nova_machine.specs.declared.machine.Stop.{Stop}
use Rattle.nova_machine.specs.declared.machine.Stop.TheVariants.{Expect}
use Rattle.nova_machine.specs.Machine.{console_place, place_of}
use Rattle.nova_machine.specs.Wants.{got_of_key, key_stop}

-- what was done on a line: the answer for the unit, the bytes that were sent, the lines, what is still to come on them, the
-- stop that the machine has for itself, and the texts that are waited for
pub record Lined : Type 0 where
  pub got : Got
  pub sent : List Sent
  pub lines : List (LineOf Peer)
  pub ahead : Ahead
  pub stop : Option Stop
  pub expects : ExpectTable

-- what stands around a want: the time, the key that is due for the console of SEND or else of those that are typed, the texts
-- that are waited for, the lines, and what is still to come on them
pub record Around : Type 0 where
  pub time : ℕ
  pub due : Option ℕ
  pub expects : ExpectTable
  pub lines : List (LineOf Peer)
  pub ahead : Ahead

abbrev pub around_at : ℕ → Option ℕ → ExpectTable → List (LineOf Peer) → Ahead → Around
around_at time due expects lines ahead = record { time = time; due = due; expects = expects; lines = lines; ahead = ahead }

abbrev pub got_of_line : Option ℕ → Got
got_of_line None = got.NoKey
got_of_line (Some key) = got.Key key

-- an answer to what is wanted of a line: none that speaks of a file
abbrev pub IsOfLine : Got → Type 0
IsOfLine got.End = ⊥
IsOfLine got.NoFile = ⊥
IsOfLine (got.Tape tape) = ⊥
IsOfLine other = Unit {0}

-- an answer of a poll
abbrev pub IsOfPoll : Got → Type 0
IsOfPoll (got.Key key) = Unit {0}
IsOfPoll got.NoKey = Unit {0}
IsOfPoll other = ⊥

-- the line at a place was polled
abbrev pub lined_by : ℕ → Around → Polled → Lined
lined_by place a p = record {
  got = got_of_line p.key;
  sent = p.sent;
  lines = slice_set a.lines place p.line;
  ahead = p.ahead;
  stop = None;
  expects = a.expects;
}

-- a byte is put on a line, where that is not full
abbrev pub put_line : {P : Type 0} → ℕ → LineOf P → LineOf P
put_line byte line = if is_full line then line else put_on byte line

abbrev pub put_got : {P : Type 0} → LineOf P → Got
put_got line = if is_full line then got.LineFull else got.Done

-- a byte was put on the line at a place
abbrev pub put_by : ℕ → ℕ → Around → LineOf Peer → Lined
put_by place byte a line = record {
  got = put_got line;
  sent = [];
  lines = slice_set a.lines place (put_line byte line);
  ahead = a.ahead;
  stop = None;
  expects = a.expects;
}

-- ---- the console line

-- the console line, where it has a port
abbrev pub with_port : {P : Type 0} → Option (LineOf P) → Option (LineOf P)
with_port None = None
with_port (Some line) = if is_some line.port then Some line else None

abbrev pub console_in : {P : Type 0} → List (LineOf P) → Option (LineOf P)
console_in lines = with_port (slice_get lines console_place)

abbrev pub is_ported : {P : Type 0} → List (LineOf P) → Bool
is_ported lines = is_some (console_in lines)

-- It was polled: of the key that stops a run the unit gets none.
abbrev pub console_polled : Around → Polled → Lined
console_polled a p = record (lined_by console_place a p) { got = got_of_key p.key; stop = key_stop p.key }

-- It is polled where no other key is due.
abbrev pub console_key : Option ℕ → Around → Option Lined
console_key (Some key) a = None
console_key None a = option_map (λ line. console_polled a (polled a.time line a.ahead)) (console_in a.lines)

-- A byte was put on it, which may end a text that is waited for. One that a full line refuses is not waited for.
abbrev pub console_put : ℕ → Around → LineOf Peer → Lined
console_put byte a line = record (put_by console_place byte a line) {
  stop = if is_full line then None else option_map Expect (match_at byte a.expects);
  expects = if is_full line then a.expects else after_printed byte a.expects;
}

-- ---- any line

-- What a want comes to that is for a line which is there; none where it is for no line, for one that is not there, or for the
-- console and its line has no port.
unfoldable pub lined : Want → Around → Option Lined
lined (want.LineKey n) a = option_map (λ line. lined_by (place_of n) a (polled a.time line a.ahead)) (slice_get a.lines (place_of n))
lined (want.LinePut n byte) a = option_map (put_by (place_of n) byte a) (slice_get a.lines (place_of n))
lined want.Key a = console_key a.due a
lined (want.Console byte) a = option_map (console_put byte a) (console_in a.lines)
lined other a = None

-- sent bytes, each with its caller, as they are observed
abbrev pub pair_of : Sent → ℕ × ℕ
pair_of s = (s.caller, s.byte)

abbrev pub sends : {S : Type 0} → List Sent → List (Observation S)
sends [] = []
sends (s ∷ more) = Sends (map pair_of (s ∷ more)) ∷ []
