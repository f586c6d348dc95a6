use Rattle.simh_tape.proofs.SpaceLaws.{marks_lead_back}
use Rattle.simh_tape.proofs.laws.marks_lead_back.Goals as goal

pub returns : goal.returns
returns c = marks_lead_back
