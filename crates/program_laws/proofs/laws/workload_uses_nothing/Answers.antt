use Rattle.program_laws.proofs.WorkloadTold.{workload-uses-nothing}
use Rattle.program_laws.proofs.laws.workload_uses_nothing.Goals as goal

pub returns : goal.returns
returns c = workload-uses-nothing
