use Rattle.machine_laws.proofs.StopNames.{stop-ioe-named}
use Rattle.machine_laws.proofs.laws.stop_ioe_has_its_name.Goals as goal

pub returns : goal.returns
returns c = stop-ioe-named
