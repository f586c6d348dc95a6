use Rattle.file_commands.proofs.Adding.{counts-add}
use Rattle.file_commands.proofs.laws.counts_add_up.Goals as goal

pub returns : goal.returns
returns c = counts-add
