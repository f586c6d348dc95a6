use Rattle.command_laws.proofs.SetLemmas.{set-cpu-leaves-the-rest}
use Rattle.command_laws.proofs.laws.set_cpu_leaves_the_rest.Goals as goal

pub returns : goal.returns
returns c = set-cpu-leaves-the-rest
