use Rattle.simh_tape.proofs.SpaceLaws.{spacing_leads_back}
use Rattle.simh_tape.proofs.laws.spacing_leads_back.Goals as goal

pub returns : goal.returns
returns c = spacing_leads_back
