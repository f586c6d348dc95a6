use Rattle.script_text.proofs.LawLemmas.{plain_stays}
use Rattle.script_text.proofs.laws.plain_lines_stay.Goals as goal

pub returns : goal.returns
returns c = plain_stays
