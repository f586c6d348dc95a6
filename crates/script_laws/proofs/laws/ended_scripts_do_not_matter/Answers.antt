use Rattle.script_laws.proofs.LawLemmas.{ended-scripts-do-not-matter}
use Rattle.script_laws.proofs.laws.ended_scripts_do_not_matter.Goals as goal

pub returns : goal.returns
returns c = ended-scripts-do-not-matter
