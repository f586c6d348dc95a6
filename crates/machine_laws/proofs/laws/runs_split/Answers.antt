use Rattle.machine_laws.proofs.RunLaws.{runs-split}
use Rattle.machine_laws.proofs.laws.runs_split.Goals as goal

pub returns : goal.returns
returns c = runs-split
