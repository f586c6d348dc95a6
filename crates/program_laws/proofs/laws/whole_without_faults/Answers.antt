use Rattle.nova_top.proofs.OutsideLemmas.{whole-outcome}
use Rattle.program_laws.proofs.laws.whole_without_faults.Goals as goal

pub returns : goal.returns
returns c = whole-outcome
