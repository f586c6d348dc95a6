use Rattle.command_laws.proofs.PassedBreaks.{breaks-are-passed-once}
use Rattle.command_laws.proofs.laws.breaks_are_passed_once.Goals as goal

pub returns : goal.returns
returns c = breaks-are-passed-once
