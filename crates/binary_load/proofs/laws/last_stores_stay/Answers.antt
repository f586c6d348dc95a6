use Rattle.binary_load.proofs.RunLemmas.{last_stores_stay}
use Rattle.binary_load.proofs.laws.last_stores_stay.Goals as goal

pub returns : goal.returns
returns c = last_stores_stay
