use Rattle.line_rows.proofs.TakenLemmas.{taken-here, taken-behind}
use Rattle.line_rows.proofs.rows.is_taken.Goals as goal

pub returns-then-owns : goal.returns-then-owns
returns-then-owns g c = taken-here c.args.port c.args.machine.now.lines c.console_at.result.now c.owns.result c.console_at.ensures c.owns.ensures c.if-owns.true

pub returns-else-owns : goal.returns-else-owns
returns-else-owns g c =
    taken-behind c.args.port c.args.machine.now.lines c.console_at.result.now c.owns.result c.console_at.ensures c.owns.ensures c.lines.result.now c.is_taken.result c.if-owns.false c.lines.ensures
    c.is_taken.ensures
