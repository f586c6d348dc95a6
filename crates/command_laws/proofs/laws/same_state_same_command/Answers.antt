use Rattle.command_laws.proofs.SameCommandLemmas.{same-state-same-command}
use Rattle.command_laws.proofs.laws.same_state_same_command.Goals as goal

pub returns : goal.returns
returns c = same-state-same-command
