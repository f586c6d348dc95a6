use Rattle.program_laws.proofs.ResumptionLemmas.{restored-programs-go-on}
use Rattle.program_laws.proofs.laws.restored_programs_go_on.Goals as goal

pub returns : goal.returns
returns c = restored-programs-go-on
