use Rattle.script_laws.proofs.ResumptionLemmas.{same-core-same-finish}
use Rattle.script_laws.proofs.laws.sessions_end_alike.Goals as goal

pub returns : goal.returns
returns c = same-core-same-finish
