-- The words so far hold the value.
use Rattle.std.proofs.Common.{◌≡◌}
use Rattle.scp_examine.specs.Places.{cells}
use Rattle.scp_examine.specs.Effect.{filled}
use Rattle.scp_examine.proofs.fill.fill_cells.Given as goal

abbrev pub invariant-loop-i : goal.invariant-loop-i
invariant-loop-i g l = l.machine ≡ filled l.value l.fn.machine (cells l.from l.i)
