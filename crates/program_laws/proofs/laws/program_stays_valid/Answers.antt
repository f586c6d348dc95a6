use Rattle.program_laws.proofs.ValidLemmas.{program-stays-valid}
use Rattle.program_laws.proofs.laws.program_stays_valid.Goals as goal

pub returns : goal.returns
returns c = program-stays-valid
