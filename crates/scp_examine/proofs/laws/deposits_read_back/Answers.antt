use Rattle.scp_examine.proofs.LawLemmas.{reads_back}
use Rattle.scp_examine.proofs.laws.deposits_read_back.Goals as goal

pub returns : goal.returns
returns c = reads_back
