use Rattle.binary_load.proofs.RunLemmas.{runs_read_back}
use Rattle.binary_load.proofs.laws.runs_read_back.Goals as goal

pub returns : goal.returns
returns c = runs_read_back
