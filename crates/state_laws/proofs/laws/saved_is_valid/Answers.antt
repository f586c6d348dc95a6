use Rattle.state_laws.proofs.SavedValidLemmas.{saved-is-valid}
use Rattle.state_laws.proofs.laws.saved_is_valid.Goals as goal

pub returns : goal.returns
returns c = saved-is-valid
