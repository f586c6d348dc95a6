use Rattle.std.proofs.Common.{arith}
use Rattle.expect_actions.proofs.BreakLemmas.{marks_none}
use Rattle.expect_actions.proofs.breaks.Breaks.clear.Goals as goal

pub invariant_of-self : goal.invariant_of-self
invariant_of-self c = rw c.clear.ensures.items (tt, omega arith, marks_none c.clear-2.new.self c.clear-2.ensures.all c.clear-2.ensures.none)
