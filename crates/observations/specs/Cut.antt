-- The early ends of a session: the console refuses a byte, or a read of the input fails. One definition says where each
-- trace is cut, so that no command's definition speaks of either.
use Rattle.std.specs.Prelude.{◌≡◌, ℕ, ◌+◌, ◌-◌, List, [], ◌∷◌, ◌++◌, length, take, nat_le, if◌then◌else◌}
use Rattle.observations.specs.declared.exit_status.ExitStatus.TheVariants.{Console, Input}
use Rattle.observations.specs.Status.{number_of}
use Rattle.observations.specs.Observations.{Observation, Prints, Reads, Sends, Ended, Trace}

-- the status, what the console has, how many reads were made, and the state that is left
pub record Outcome (S : Type 0) : Type 0 where
  pub status : ℕ
  pub console : List ℕ
  pub reads : ℕ
  pub state : S

abbrev pub ends : {S : Type 0} → ℕ → List ℕ → ℕ → S → Outcome S
ends status console reads state = record { status = status; console = console; reads = reads; state = state }

-- the same with another state
abbrev pub map_outcome : {S T : Type 0} → (S → T) → Outcome S → Outcome T
map_outcome f o = ends o.status o.console o.reads (f o.state)

-- the outcome behind a text that was printed whole, and reads that were made
abbrev pub behind : {S : Type 0} → List ℕ → ℕ → Outcome S → Outcome S
behind text reads o = ends o.status (text ++ o.console) (reads + o.reads) o.state

-- The outcome where the console takes `takes` bytes and no more, and `gives` reads are let through before one fails:
-- the status of the console at the first byte that is refused, and that of the input at the first read that fails, each in
-- the state in which it comes.
abbrev pub cut : {S : Type 0} → ℕ → ℕ → List (Observation S) → Ended S → Outcome S
cut takes gives [] ended = ends ended.status [] 0 ended.state
cut takes gives (Prints text at ∷ more) ended =
    if nat_le (length text) takes then behind text 0 (cut (takes - length text) gives more ended)
    else ends (number_of Console) (take takes text) 0 at
cut takes gives (Reads count at ∷ more) ended =
    if nat_le count gives then behind [] count (cut takes (gives - count) more ended)
    else ends (number_of Input) [] gives at
cut takes gives (Sends bytes ∷ more) ended = cut takes gives more ended

-- What is sent up to that end, to all callers, in order. Nothing is sent behind a text of which a byte is refused, nor
-- behind reads of which one fails.
abbrev pub sent_until : {S : Type 0} → ℕ → ℕ → List (Observation S) → List (ℕ × ℕ)
sent_until takes gives [] = []
sent_until takes gives (Prints text at ∷ more) =
    if nat_le (length text) takes then sent_until (takes - length text) gives more else []
sent_until takes gives (Reads count at ∷ more) = if nat_le count gives then sent_until takes (gives - count) more else []
sent_until takes gives (Sends bytes ∷ more) = bytes ++ sent_until takes gives more

abbrev pub cut_trace : {S : Type 0} → ℕ → ℕ → Trace S → Outcome S
cut_trace takes gives t = cut takes gives t.made t.ended

-- A console that took those bytes and no more broke the observations off in that state, behind that many reads and what
-- was sent until then: it refused a byte of a text there.
pub record BreaksOff {S : Type 0} (made : List (Observation S)) (taken : List ℕ) (at : S) : Type 0 where
  pub reads : ℕ
  pub sent : List (ℕ × ℕ)
  pub sent_is : (gives : ℕ) → sent_until (length taken) (reads + gives) made ≡ sent
  pub cut_at : (gives : ℕ) (ended : Ended S) → cut (length taken) (reads + gives) made ended ≡ ends (number_of Console) taken reads at
