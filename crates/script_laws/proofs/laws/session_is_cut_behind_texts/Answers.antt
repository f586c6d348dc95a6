use Rattle.script_laws.proofs.CoreLemmas.{cut-behind-texts}
use Rattle.script_laws.proofs.laws.session_is_cut_behind_texts.Goals as goal

pub returns : goal.returns
returns c = cut-behind-texts
