-- The laws of cutting a session short, at the outcome.
use Rattle.std.proofs.Common.{◌≡◌, ◌≢◌, ℕ, ◌≤◌, List, ◌++◌}
use Rattle.observations.specs.Observations.{text_of, Trace}
use Rattle.observations.proofs.CutLemmas.{more-room, sent-more-room, first-part}
use Rattle.nova_top.specs.Outside.{Outside, Left, trace_of, outcome, sent_by}

pub more-room-outcome : (o : Outside) (more : ℕ) → o.takes ≤ more → (outcome o).status ≢ 102
    → (outcome (record o { takes = more }) ≡ outcome o) × (sent_by (record o { takes = more }) ≡ sent_by o)
unfolding outcome sent_by
more-room-outcome o more h s =
    let t : Trace Left = trace_of o in (
      more-room t.made t.ended o.takes more o.gives h s,
      sent-more-room t.made t.ended o.takes more o.gives h s,
    )

pub first-part-outcome : (o : Outside) → (rest : List ℕ) × (text_of (trace_of o).made ≡ (outcome o).console ++ rest)
unfolding outcome
first-part-outcome o =
    let t : Trace Left = trace_of o in
    first-part t.made t.ended o.takes o.gives
