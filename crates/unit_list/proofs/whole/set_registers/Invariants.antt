use Rattle.std.proofs.Common.{◌≡◌, ◌++◌, take, drop}
use Rattle.unit_list.specs.Whole.{with_registers}
use Rattle.unit_list.proofs.whole.set_registers.Given as goal

abbrev pub invariant-loop-i : goal.invariant-loop-i
invariant-loop-i g l =
    let old = g.U.Unit.unit_state l.initial.unit in
    g.U.Unit.unit_state l.unit ≡ with_registers (take l.i l.values ++ drop l.i old.registers) old
