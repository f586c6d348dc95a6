use Rattle.machine_laws.proofs.Whiles.{serves-while-due}
use Rattle.machine_laws.proofs.laws.units_are_served_while_due.Goals as goal

pub returns : goal.returns
returns c = serves-while-due
