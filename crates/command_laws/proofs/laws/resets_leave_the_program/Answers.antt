use Rattle.command_laws.proofs.ResetLemmas.{resets-leave-the-program}
use Rattle.command_laws.proofs.laws.resets_leave_the_program.Goals as goal

pub returns : goal.returns
returns c = resets-leave-the-program
