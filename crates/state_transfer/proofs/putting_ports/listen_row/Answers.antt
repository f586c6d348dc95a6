use Rattle.terminal_ports.proofs.Row.{none-listened}
use Rattle.state_transfer.proofs.putting_ports.listen_row.Goals as goal

pub returns-then-row-eq0-clause-outside : goal.returns-then-row-eq0-clause-outside
returns-then-row-eq0-clause-outside g c =
    none-listened g.L.Lines.tells c.args.row.count c.args.row.port (g.L.Lines.state c.args.lines.now) c.if-row-eq0.true
