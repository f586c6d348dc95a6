use Rattle.program_laws.proofs.OutcomeLemmas.{first-part-outcome}
use Rattle.program_laws.proofs.laws.console_takes_first_part.Goals as goal

pub returns : goal.returns
returns c = first-part-outcome
