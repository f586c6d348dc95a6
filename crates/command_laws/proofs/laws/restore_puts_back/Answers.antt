use Rattle.command_laws.proofs.ResumptionLemmas.{restore-puts-back}
use Rattle.command_laws.proofs.laws.restore_puts_back.Goals as goal

pub returns : goal.returns
returns c = restore-puts-back
