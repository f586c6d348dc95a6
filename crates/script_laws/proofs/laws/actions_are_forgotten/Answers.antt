use Rattle.script_laws.proofs.LawLemmas.{actions-are-forgotten}
use Rattle.script_laws.proofs.laws.actions_are_forgotten.Goals as goal

pub returns : goal.returns
returns c = actions-are-forgotten
