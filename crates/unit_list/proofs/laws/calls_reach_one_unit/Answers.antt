use Rattle.unit_list.proofs.Calls.{after-here, after-elsewhere, after-kinds}
use Rattle.unit_list.proofs.laws.calls_reach_one_unit.Goals as goal

pub returns : goal.returns
returns c = record { here = after-here; elsewhere = after-elsewhere; kinds = after-kinds }
