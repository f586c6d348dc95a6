use Rattle.script_text.proofs.LawLemmas.{others_do_not_matter}
use Rattle.script_text.proofs.laws.other_arguments_do_not_matter.Goals as goal

pub returns : goal.returns
returns c = others_do_not_matter
