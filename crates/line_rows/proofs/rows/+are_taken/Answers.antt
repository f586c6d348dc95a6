use Rattle.std.proofs.Common.{◌<◌, sym, rules}
use Rattle.terminal_ports.proofs.Rows.{none-taken}
use Rattle.line_rows.proofs.RowLemmas.{first-taken, others-taken}
use Rattle.line_rows.proofs.rows.+are_taken.Goals as goal

pub returns-then-count-eq0 : goal.returns-then-count-eq0
returns-then-count-eq0 g t c = sym (none-taken c.args.count c.args.port c.args.machine.now.lines c.if-count-eq0.true)

pub returns-then-is_taken : goal.returns-then-is_taken
returns-then-is_taken g t c =
    let some : 0 < c.args.count = search rules in
    first-taken c.args.count c.args.port c.from.result c.args.machine.now.lines some (search rules) c.is_taken.result c.is_taken.ensures c.if-is_taken.true

pub returns-else-is_taken : goal.returns-else-is_taken
returns-else-is_taken g t c =
    let some : 0 < c.args.count = search rules in
    others-taken c.args.count c.args.port c.from.result c.args.machine.now.lines some (search rules) c.is_taken.result c.is_taken.ensures
    c.are_taken.result c.if-is_taken.false c.are_taken.ensures
