use Rattle.terminal_ports.proofs.Row.{one-listened, one-refused}
use Rattle.terminal_ports.proofs.listening.listen_for.Goals as goal

pub returns-in-Ok-clause-outside : goal.returns-in-Ok-clause-outside
returns-in-Ok-clause-outside g c = one-listened g.L.Lines.tells c.args.port (g.L.Lines.state c.args.lines.now) (g.L.Lines.state c.listen_up.new.lines) c.in-Ok.ensures.outside

pub returns-in-Err-clause-outside : goal.returns-in-Err-clause-outside
returns-in-Err-clause-outside g c = one-refused g.L.Lines.tells c.args.port c.in-Err.fault (g.L.Lines.state c.args.lines.now) (g.L.Lines.state c.listen_up.new.lines) c.in-Err.ensures.outside
