use Rattle.command_laws.proofs.ValidEffect.{commands-keep-states}
use Rattle.command_laws.proofs.laws.commands_keep_states.Goals as goal

pub returns : goal.returns
returns c = commands-keep-states
