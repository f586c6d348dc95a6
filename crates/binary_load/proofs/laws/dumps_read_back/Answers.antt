use Rattle.binary_load.proofs.DumpLemmas.{dumps_read_back}
use Rattle.binary_load.proofs.laws.dumps_read_back.Goals as goal

pub returns : goal.returns
returns c = dumps_read_back
