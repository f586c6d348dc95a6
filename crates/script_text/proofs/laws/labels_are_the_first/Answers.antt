use Rattle.script_text.proofs.LawLemmas.{label_is_first}
use Rattle.script_text.proofs.laws.labels_are_the_first.Goals as goal

pub returns : goal.returns
returns c = label_is_first
