use Rattle.unit_list.proofs.Wholes.{units-whole}
use Rattle.unit_list.proofs.laws.units_are_whole.Goals as goal

pub returns : goal.returns
returns c = units-whole
