-- The registers so far have no fault.
use Rattle.std.proofs.Common.{◌≡◌, None}
use Rattle.scp_examine.specs.Places.{unit_registers}
use Rattle.scp_examine.specs.Checks.{values_fault}
use Rattle.scp_examine.proofs.check.unit_registers_value_fault.Given as goal

abbrev pub invariant-loop-number : goal.invariant-loop-number
invariant-loop-number l = values_fault l.value (unit_registers l.kind l.number) ≡ None
