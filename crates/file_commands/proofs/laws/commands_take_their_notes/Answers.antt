use Rattle.file_commands.proofs.Handing.{commands-take}
use Rattle.file_commands.proofs.laws.commands_take_their_notes.Goals as goal

pub returns : goal.returns
returns c = commands-take
