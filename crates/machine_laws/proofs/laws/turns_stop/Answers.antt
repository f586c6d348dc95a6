use Rattle.machine_laws.proofs.StopsOfTurns.{stops-of-turns}
use Rattle.machine_laws.proofs.laws.turns_stop.Goals as goal

pub returns : goal.returns
returns c = stops-of-turns
