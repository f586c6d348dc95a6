use Rattle.std.proofs.Common.{◌≡◌, drop}
use Rattle.unit_list.specs.Whole.{units_set}
use Rattle.state_transfer.proofs.PuttingLemmas.{units_said}
use Rattle.state_transfer.proofs.putting.put_units.Given as goal

abbrev pub invariant-loop-unit : goal.invariant-loop-unit
invariant-loop-unit g l = record {
  rest : units_set l.machine.units (units_said (drop l.unit-index l.units)) ≡ units_set l.fn.machine.units (units_said l.units);
  others : l.machine ≡ record l.fn.machine { units = l.machine.units };
}
