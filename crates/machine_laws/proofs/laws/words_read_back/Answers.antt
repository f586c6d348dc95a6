use Rattle.machine_laws.proofs.WordsBack.{words-back}
use Rattle.machine_laws.proofs.laws.words_read_back.Goals as goal

pub returns : goal.returns
returns c = words-back
