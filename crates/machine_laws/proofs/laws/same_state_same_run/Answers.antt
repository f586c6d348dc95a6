use Rattle.machine_laws.proofs.SameRunLemmas.{same-state-same-run}
use Rattle.machine_laws.proofs.laws.same_state_same_run.Goals as goal

pub returns : goal.returns
returns c = same-state-same-run
