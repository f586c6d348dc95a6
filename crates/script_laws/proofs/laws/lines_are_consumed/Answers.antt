use Rattle.script_laws.proofs.LawLemmas.{lines-are-consumed}
use Rattle.script_laws.proofs.laws.lines_are_consumed.Goals as goal

pub returns : goal.returns
returns c = lines-are-consumed
