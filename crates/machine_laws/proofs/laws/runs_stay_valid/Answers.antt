use Rattle.machine_laws.proofs.StayingValid.{runs-stay-valid}
use Rattle.machine_laws.proofs.laws.runs_stay_valid.Goals as goal

pub returns : goal.returns
returns c = runs-stay-valid
