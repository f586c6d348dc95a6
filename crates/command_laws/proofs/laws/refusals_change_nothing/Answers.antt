use Rattle.command_laws.proofs.RefusalLemmas.{refusals-change-nothing}
use Rattle.command_laws.proofs.laws.refusals_change_nothing.Goals as goal

pub returns : goal.returns
returns c = refusals-change-nothing
