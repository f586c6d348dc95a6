use Rattle.state_laws.proofs.PutBackLemmas.{saving-puts-back}
use Rattle.state_laws.proofs.laws.saving_puts_back.Goals as goal

pub returns : goal.returns
returns c = saving-puts-back
