use Rattle.state_laws.proofs.PutBackValidLemmas.{put-back-is-valid}
use Rattle.state_laws.proofs.laws.put_back_is_valid.Goals as goal

pub returns : goal.returns
returns c = put-back-is-valid
