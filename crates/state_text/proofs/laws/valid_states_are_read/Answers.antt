use Rattle.state_text.proofs.FitLaws.{texts-are-read}
use Rattle.state_text.proofs.laws.valid_states_are_read.Goals as goal

pub returns : goal.returns
returns c = texts-are-read
