use Rattle.machine_laws.proofs.RunLaws.{runs-take-time}
use Rattle.machine_laws.proofs.laws.runs_take_time.Goals as goal

pub returns : goal.returns
returns c = runs-take-time
