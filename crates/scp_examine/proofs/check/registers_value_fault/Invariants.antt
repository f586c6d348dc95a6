-- The registers so far have no fault.
use Rattle.std.proofs.Common.{◌≡◌, drop}
use Rattle.scp_examine.specs.Places.{registers_of}
use Rattle.scp_examine.specs.Checks.{values_fault}
use Rattle.scp_examine.proofs.check.registers_value_fault.Given as goal

abbrev pub invariant-loop-register : goal.invariant-loop-register
invariant-loop-register l = values_fault l.value (registers_of l.registers) ≡ values_fault l.value (registers_of (drop l.register-index l.registers))
