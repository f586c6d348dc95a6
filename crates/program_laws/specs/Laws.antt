-- What holds of every outcome, in a reader's words.
use Rattle.std.specs.Prelude.{◌≡◌, ◌≢◌, ℕ, ◌≤◌, List, ◌++◌}
use Rattle.observations.specs.Observations.{text_of}
use Rattle.nova_top.specs.Outside.{Outside, trace_of, outcome, sent_by}
use Rattle.nova_top.specs.Ends.{IsWholeOutcome}

-- a console that takes more comes to the same end, and callers are sent the same, where none of its bytes was refused
abbrev pub MoreRoomSameEnd : Type 0
MoreRoomSameEnd =
    (o : Outside) (more : ℕ) → o.takes ≤ more → (outcome o).status ≢ 102
    → (outcome (record o { takes = more }) ≡ outcome o) × (sent_by (record o { takes = more }) ≡ sent_by o)

-- what the console took is a first part of what the program prints where nothing fails
abbrev pub TakesFirstPart : Type 0
TakesFirstPart = (o : Outside) → (rest : List ℕ) × (text_of (trace_of o).made ≡ (outcome o).console ++ rest)

abbrev pub WholeWithoutFaults : Type 0
WholeWithoutFaults = (o : Outside) → (outcome o).status ≢ 102 → (outcome o).status ≢ 106 → IsWholeOutcome o
