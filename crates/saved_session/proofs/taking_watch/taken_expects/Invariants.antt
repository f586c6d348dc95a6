use Rattle.std.proofs.Common.{◌≡◌, take}
use Rattle.std.specs.Prelude.{map}
use Rattle.saved_session.specs.Parts.{expect_in}
use Rattle.saved_session.specs.SavedWatch.{saved_expect}
use Rattle.saved_session.specs.Valid.{ExpectsFit}
use Rattle.saved_session.proofs.taking_watch.taken_expects.Given as goal

abbrev pub invariant-loop-k : goal.invariant-loop-k
invariant-loop-k l =
    (map expect_in l.taken.items ≡ take l.k (map saved_expect l.expects.list)) × ExpectsFit (map expect_in l.taken.items)
