use Rattle.std.proofs.Common.{◌≡◌, take}
use Rattle.std.specs.Prelude.{map}
use Rattle.saved_session.specs.Parts.{break_in}
use Rattle.saved_session.specs.SavedWatch.{saved_break}
use Rattle.saved_session.specs.Valid.{BreaksFit}
use Rattle.saved_session.proofs.taking_watch.taken_breaks.Given as goal

abbrev pub invariant-loop-k : goal.invariant-loop-k
invariant-loop-k l =
    (map break_in l.taken.items ≡ take l.k (map saved_break l.breaks.list)) × BreaksFit (map break_in l.taken.items)
