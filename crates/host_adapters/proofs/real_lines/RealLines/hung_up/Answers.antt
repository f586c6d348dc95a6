use Rattle.std.proofs.Common.{◌∙◌, ap}
use Rattle.host_adapters.specs.RealLines.{SocketState, is_in}
use Rattle.host_adapters.proofs.Numbers.{taken_out}
use Rattle.host_adapters.proofs.real_lines.RealLines.hung_up.Goals as goal

pub returns-clause-stands : goal.returns-clause-stands
returns-clause-stands g c = ap (λ (s : SocketState). is_in s.connections) c.end.ensures ∙ taken_out c.args.self.now.connections c.args.conn.0
