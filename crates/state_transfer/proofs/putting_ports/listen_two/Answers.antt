use Rattle.std.proofs.Common.{◌∙◌, refl}
use Rattle.std.proofs.lemmas.Bool.{false≢true}
use Rattle.std.proofs.lemmas.Result.{err_from_is_err_and}
use Rattle.terminal_ports.specs.Listening.{rising}
use Rattle.state_transfer.proofs.PortLemmas.{both-listened, first-refused, second-refused}
use Rattle.state_transfer.proofs.putting_ports.listen_two.Goals as goal

pub returns-in_err-listen_row-clause-outside : goal.returns-in_err-listen_row-clause-outside
returns-in_err-listen_row-clause-outside g c =
    let p = err_from_is_err_and c.from_residual.result c.from_residual.ensures.1 in
    rw (p.1, p.2) (first-refused g.L.Lines.tells (rising c.args.first.count c.args.first.port)
    (rising c.args.second.count c.args.second.port) c.in_err-listen_row.field-0.0 (g.L.Lines.state c.args.lines.now)
    (g.L.Lines.state c.listen_row.new.lines) c.in_err-listen_row.ensures.outside)

pub returns-in_err-listen_row-clause-none : goal.returns-in_err-listen_row-clause-none
returns-in_err-listen_row-clause-none g c = λ first second. absurd (false≢true (c.in_err-listen_row.ensures.none first).0)

pub returns-in-Ok-clause-outside : goal.returns-in-Ok-clause-outside
returns-in-Ok-clause-outside g c =
    both-listened g.L.Lines.tells (rising c.args.first.count c.args.first.port)
    (rising c.args.second.count c.args.second.port) (g.L.Lines.state c.args.lines.now)
    (g.L.Lines.state c.listen_row.new.lines) (g.L.Lines.state c.listen_row-2.new.lines)
    c.in_ok-listen_row.ensures.outside c.in-Ok.ensures.outside

pub returns-in-Ok-clause-none : goal.returns-in-Ok-clause-none
returns-in-Ok-clause-none g c = λ first second.
    (refl, (c.in-Ok.ensures.none second).1 ∙ (c.in_ok-listen_row.ensures.none first).1)

pub returns-in-Err-clause-outside : goal.returns-in-Err-clause-outside
returns-in-Err-clause-outside g c =
    second-refused g.L.Lines.tells (rising c.args.first.count c.args.first.port)
    (rising c.args.second.count c.args.second.port) c.in-Err.fault (g.L.Lines.state c.args.lines.now)
    (g.L.Lines.state c.listen_row.new.lines) (g.L.Lines.state c.listen_row-2.new.lines)
    (g.L.Lines.state c.give_up.new.lines) c.in_ok-listen_row.ensures.outside c.in-Err.ensures.outside c.give_up.ensures

pub returns-in-Err-clause-none : goal.returns-in-Err-clause-none
returns-in-Err-clause-none g c = λ first second. absurd (false≢true (c.in-Err.ensures.none second).0)
