-- What lines tell to contracts: the traffic that is left, or a record of the answers that their calls have given.
use Rattle.std.specs.Prelude.{◌≡◌, ℕ, ◌-◌, List, [], ◌++◌, length, take, drop, map}
use Rattle.host_lines.specs.declared.lines.Sent.{Sent}
use Rattle.host_lines.specs.Traffic.{Traffic, Answer, Ahead, Script, Answers, Replied, replied}

pub data Told : Type 0 where
  Tells : Traffic → Told
  Records : List Answer → Told

-- the answers that were recorded
abbrev pub record_in : Told → List Answer
record_in (Tells t) = []
record_in (Records answers) = answers

-- What is still to come, where the record comes to `whole` in the end. Traffic that is told needs no record.
abbrev pub ahead_of : Told → List Answer → Ahead
ahead_of (Tells t) whole = Script t
ahead_of (Records answers) whole = Answers (drop (length answers) whole)

abbrev pub IsFirst : List Answer → List Answer → Type 0
IsFirst front whole = (rest : List Answer) × (whole ≡ front ++ rest)

-- lines that tell their traffic go on to tell it, and lines that keep a record go on to keep it
abbrev pub SameKind : Told → Told → Type 0
SameKind (Tells t) (Tells t') = Unit {0}
SameKind (Records r) (Records r') = Unit {0}
SameKind (Tells t) (Records r) = ⊥
SameKind (Records r) (Tells t) = ⊥

-- a call has given that answer: it is the one that was ahead, whatever the record comes to
pub record Gives (old new : Told) (call : Ahead → Replied) (answer : Answer) : Type 0 where
  pub kind : SameKind old new
  pub grows : IsFirst (record_in old) (record_in new)
  pub gives : (whole : List Answer) → IsFirst (record_in new) whole → call (ahead_of old whole) ≡ replied answer (ahead_of new whole)

-- the bytes that sends took: each with its caller, or the bytes alone and only up to a room
pub data Heard : Type 0 where
  Named : List Sent → Heard
  Unnamed : ℕ → List ℕ → Heard

abbrev pub heard_more : Heard → List Sent → Heard
heard_more (Named sent) more = Named (sent ++ more)
heard_more (Unnamed room bytes) more = Unnamed room (bytes ++ take (room - length bytes) (map (λ (s : Sent). s.byte) more))
