use Rattle.std.proofs.Common.{is_some, ap}
use Rattle.state_transfer.proofs.putting_ports.has_line.Goals as goal

pub returns-in-Some : goal.returns-in-Some
returns-in-Some g c = ap is_some c.in-Some.ensures.value

pub returns-in-None : goal.returns-in-None
returns-in-None g c = ap is_some c.in-None.ensures.value
