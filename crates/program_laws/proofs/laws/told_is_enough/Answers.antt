use Rattle.program_laws.proofs.ToldLemmas.{told-is-enough}
use Rattle.program_laws.proofs.laws.told_is_enough.Goals as goal

pub returns : goal.returns
returns c = told-is-enough
