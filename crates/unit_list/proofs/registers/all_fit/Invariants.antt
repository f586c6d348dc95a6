use Rattle.std.proofs.Common.{map, take}
use Rattle.unit_list.specs.Bus.{AllFit}
use Rattle.unit_list.proofs.registers.all_fit.Given as goal

abbrev pub invariant-loop-unit : goal.invariant-loop-unit
invariant-loop-unit g l = AllFit (map g.U.Unit.unit_state (take l.unit-index l.units))
