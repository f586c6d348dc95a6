use Rattle.observations.proofs.CutLemmas.{ends-refused, ends-failed}
use Rattle.observations.proofs.laws.early_end_stops_sending.Goals as goal

pub returns-clause-refused : goal.returns-clause-refused
returns-clause-refused c = ends-refused

pub returns-clause-failed : goal.returns-clause-failed
returns-clause-failed c = ends-failed
