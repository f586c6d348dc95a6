use Rattle.std.proofs.Common.{◌<◌, rules}
use Rattle.state_transfer.proofs.PortLemmas.{none-given, all-given}
use Rattle.state_transfer.proofs.putting_ports.+give_up.Goals as goal

pub returns-then-count-eq0 : goal.returns-then-count-eq0
returns-then-count-eq0 g t c = none-given c.args.count c.args.port (g.L.Lines.state c.args.lines.now) c.if-count-eq0.true

pub returns : goal.returns
returns g t c =
    let some : 0 < c.args.count = search rules in
    all-given c.args.count c.args.port (g.L.Lines.state c.args.lines.now) (g.L.Lines.state c.give_up.new.lines)
    (g.L.Lines.state c.unlisten.new.self) some c.give_up.ensures c.unlisten.ensures.told c.unlisten.ensures.ports
    c.unlisten.ensures.stands c.unlisten.ensures.peers c.unlisten.ensures.sent c.unlisten.ensures.counts
