use Rattle.std.proofs.Common.{◌∙◌, ap}
use Rattle.host_adapters.specs.RealLines.{SocketState, is_in}
use Rattle.host_adapters.proofs.Numbers.{taken_out}
use Rattle.host_adapters.proofs.real_lines.RealLinesLines.unlisten.Goals as goal

pub returns-clause-ports : goal.returns-clause-ports
returns-clause-ports g c = ap (λ (s : SocketState). is_in s.ports) c.close.ensures ∙ taken_out c.args.self.now.ports c.args.port
