-- The bytes that SEND queues for the keyboard, each with the time at which it is due (SIMH Users' Guide, "Injecting
-- Console Input").
use Rattle.std.specs.Prelude.{ℕ, ◌+◌, ◌^◌, ◌≤◌, nat_le, min, max}
use Rattle.std.specs.Prelude.{List, [], ◌∷◌, ◌++◌, Option, Some, None, if◌then◌else◌}
use Rattle.std.specs.List.{AllByRecursion}

-- a byte that waits: the time at which it is due, in instructions, and the byte
abbrev pub Send : Type 0
Send = ℕ × ℕ

-- how many bytes wait at most
abbrev pub most_sends : ℕ
most_sends = 4096

-- the largest time of a byte: a later one becomes this
abbrev pub last_time : ℕ
last_time = 2 ^ 62

-- the time of the last of these, or that time where there is none
abbrev pub last_behind : ℕ → List Send → ℕ
last_behind time [] = time
last_behind time (send ∷ others) = last_behind send.0 others

-- the time of the last byte that is still queued, or 0 where none is
abbrev pub last_queued : List Send → ℕ
last_queued sends = last_behind 0 sends

-- the bytes of a text, of which the first has that time and each further one is so much later than the one before it
abbrev pub timed : ℕ → ℕ → List ℕ → List Send
timed time delay [] = []
timed time delay (b ∷ text) = (min time last_time, b) ∷ timed (time + delay) delay text

-- A text is queued behind what is queued already: its first byte so long after now, or after the last byte that is
-- still queued where that is later.
abbrev pub queued : ℕ → ℕ → ℕ → List ℕ → List Send → List Send
queued now after delay text sends = sends ++ timed (max now (last_queued sends) + after) delay text

-- the byte that is to be taken, where one waits and the time of the first has come
abbrev pub due_send : ℕ → List Send → Option ℕ
due_send now [] = None
due_send now (send ∷ others) = if nat_le send.0 now then Some send.1 else None

-- what waits once that byte is taken
abbrev pub sends_left : ℕ → List Send → List Send
sends_left now [] = []
sends_left now (send ∷ others) = if nat_le send.0 now then others else send ∷ others

-- the times do not fall, and none is past the largest
abbrev pub InTime : List Send → Type 0
InTime [] = Unit {0}
InTime (send ∷ others) = (send.0 ≤ last_time) × AllByRecursion (λ (later : Send). send.0 ≤ later.0) others × InTime others

-- what is queued stays in time, and so does what is left
abbrev pub SendsStayInTime : Type 0
SendsStayInTime = (now after delay : ℕ) (text : List ℕ) (sends : List Send) → InTime sends → InTime (queued now after delay text sends)

abbrev pub LeftStaysInTime : Type 0
LeftStaysInTime = (now : ℕ) (sends : List Send) → InTime sends → InTime (sends_left now sends)
