use Rattle.scp_examine.proofs.UnitLemmas.{unit_value-fits}
use Rattle.scp_examine.proofs.place.unit_value.Goals as goal

pub returns-in-Some-clause-range : goal.returns-in-Some-clause-range
returns-in-Some-clause-range g c = unit_value-fits c.args.kind c.args.number c.in-Some.value c.args.machine.now.units c.core.ensures.registers c.in-Some.ensures
