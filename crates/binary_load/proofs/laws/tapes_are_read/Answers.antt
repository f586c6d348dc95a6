use Rattle.binary_load.proofs.GrammarLemmas.{tapes_are_read}
use Rattle.binary_load.proofs.laws.tapes_are_read.Goals as goal

pub returns : goal.returns
returns c = tapes_are_read
