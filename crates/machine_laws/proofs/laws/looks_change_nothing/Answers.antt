use Rattle.nova_machine.proofs.Looks.{looks-change-nothing}
use Rattle.machine_laws.proofs.laws.looks_change_nothing.Goals as goal

pub returns : goal.returns
returns c = looks-change-nothing
