-- There are so many registers at least.
use Rattle.std.proofs.Common.{◌≤◌, length}
use Rattle.unit_trait.specs.Registers.{registers}
use Rattle.scp_examine.proofs.registers.register_count.Given as goal

abbrev pub invariant-loop-number : goal.invariant-loop-number
invariant-loop-number l = l.number ≤ length (registers l.kind)
