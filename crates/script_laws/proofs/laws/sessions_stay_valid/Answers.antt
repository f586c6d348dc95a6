use Rattle.script_laws.proofs.ValidSessions.{sessions-stay-valid}
use Rattle.script_laws.proofs.laws.sessions_stay_valid.Goals as goal

pub returns : goal.returns
returns c = sessions-stay-valid
