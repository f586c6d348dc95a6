use Rattle.script_laws.proofs.ResumptionLemmas.{saved-and-restored-go-on-alike}
use Rattle.script_laws.proofs.laws.saved_and_restored_go_on_alike.Goals as goal

pub returns : goal.returns
returns c = saved-and-restored-go-on-alike
