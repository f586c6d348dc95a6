use Rattle.std.proofs.Common.{◌≡◌, take, Some}
use Rattle.unit_trait.specs.Calls.{UnitState}
use Rattle.unit_trait.specs.Kinds.{code_of}
use Rattle.unit_list.specs.Bus.{unit_at}
use Rattle.state_transfer.proofs.taking_machine.taken_registers.Given as goal

abbrev pub invariant-loop-i : goal.invariant-loop-i
invariant-loop-i g l =
    (u : UnitState) → unit_at (code_of l.kind) l.machine.units ≡ Some u → l.registers.items ≡ take l.i u.registers
