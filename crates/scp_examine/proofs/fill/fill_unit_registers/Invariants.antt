-- The registers so far hold the value.
use Rattle.std.proofs.Common.{◌≡◌}
use Rattle.scp_examine.specs.Places.{unit_registers}
use Rattle.scp_examine.specs.Effect.{filled}
use Rattle.scp_examine.proofs.fill.fill_unit_registers.Given as goal

abbrev pub invariant-loop-number : goal.invariant-loop-number
invariant-loop-number g l = l.machine ≡ filled l.value l.fn.machine (unit_registers l.kind l.number)
