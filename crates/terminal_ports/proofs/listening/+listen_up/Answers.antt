use Rattle.std.proofs.Common.{◌<◌, Ok, Err, rules}
use Rattle.std.proofs.lemmas.Result.{err_from_is_err_and}
use Rattle.terminal_ports.specs.Listening.{IsListening}
use Rattle.terminal_ports.proofs.Row.{none-listened, first-refused, all-listened, given-back}
use Rattle.terminal_ports.proofs.listening.+listen_up.Goals as goal

pub returns-then-count-eq0 : goal.returns-then-count-eq0
returns-then-count-eq0 g t c = record { outside = none-listened g.L.Lines.tells c.args.count c.args.port (g.L.Lines.state c.args.lines.now) c.if-count-eq0.true }

pub returns-in_err-listen : goal.returns-in_err-listen
returns-in_err-listen g t c =
    let p = err_from_is_err_and c.from_residual.result c.from_residual.ensures.1 in
    let some : 0 < c.args.count = search rules in
    let is : IsListening g.L.Lines.tells c.args.port (Err c.in_err-listen.field-0.0) (g.L.Lines.state c.args.lines.now) (g.L.Lines.state c.listen.new.self) = search rules in
    rw (p.1, p.2) (record { outside = first-refused g.L.Lines.tells c.args.count c.args.port some c.in_err-listen.field-0.0 (g.L.Lines.state c.args.lines.now) (g.L.Lines.state c.listen.new.self) is })

pub returns-in-Ok : goal.returns-in-Ok
returns-in-Ok g t c =
    let some : 0 < c.args.count = search rules in
    let is : IsListening g.L.Lines.tells c.args.port (Ok tt) (g.L.Lines.state c.args.lines.now) (g.L.Lines.state c.listen.new.self) = search rules in
    record { outside = all-listened g.L.Lines.tells c.args.count c.args.port some (g.L.Lines.state c.args.lines.now) (g.L.Lines.state c.listen.new.self) (g.L.Lines.state c.listen_up.new.lines) is c.in-Ok.ensures.outside }

pub returns-in-Err : goal.returns-in-Err
returns-in-Err g t c =
    let some : 0 < c.args.count = search rules in
    let is : IsListening g.L.Lines.tells c.args.port (Ok tt) (g.L.Lines.state c.args.lines.now) (g.L.Lines.state c.listen.new.self) = search rules in
    record {
      outside = given-back g.L.Lines.tells c.args.count c.args.port some c.in-Err.fault (g.L.Lines.state c.args.lines.now) (g.L.Lines.state c.listen.new.self) (g.L.Lines.state c.listen_up.new.lines) (g.L.Lines.state c.unlisten.new.self)
          is c.in-Err.ensures.outside c.unlisten.ensures.told c.unlisten.ensures.ports c.unlisten.ensures.stands c.unlisten.ensures.peers c.unlisten.ensures.sent c.unlisten.ensures.counts;
    }
