use Rattle.script_laws.proofs.ResumptionLemmas.{restored-goes-on}
use Rattle.script_laws.proofs.laws.restored_session_goes_on.Goals as goal

pub returns : goal.returns
returns c = restored-goes-on
