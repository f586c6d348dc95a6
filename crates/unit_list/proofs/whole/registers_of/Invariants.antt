use Rattle.std.proofs.Common.{◌≡◌, take}
use Rattle.unit_list.proofs.whole.registers_of.Given as goal

abbrev pub invariant-loop-i : goal.invariant-loop-i
invariant-loop-i g l = l.values.items ≡ take l.i (g.U.Unit.unit_state l.unit).registers
