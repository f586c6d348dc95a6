use Rattle.std.proofs.Common.{◌≡◌, ◌∙◌, ap, sym, true, false, not, is_none}
use Rattle.command_session.specs.LineEffects.{row_port}
use Rattle.host_commands.proofs.PortFaults.{detach-gone, detach-by, none-some, not-not}
use Rattle.host_commands.proofs.line_commands.detach_refusal.Goals as goal

pub returns-then-not-has_row-clause-fault : goal.returns-then-not-has_row-clause-fault
returns-then-not-has_row-clause-fault g c = detach-gone c.args.row c.args.machine.now.lines (sym c.has_row.ensures.lines ∙ c.if-not-has_row.true)

pub returns-then-is_none-clause-fault : goal.returns-then-is_none-clause-fault
returns-then-is_none-clause-fault g c =
    let free : is_none (row_port c.args.row c.args.machine.now.lines) ≡ c.is_none.result =
    ap is_none (sym c.first_port.ensures.port) ∙ none-some c.first_port.result ∙ ap not c.is_none.ensures ∙ not-not c.is_none.result in
    detach-by c.args.row c.args.machine.now.lines true (sym c.has_row.ensures.lines ∙ c.if-not-has_row.false) (free ∙ c.if-is_none.true)

pub returns-clause-fault : goal.returns-clause-fault
returns-clause-fault g c =
    let free : is_none (row_port c.args.row c.args.machine.now.lines) ≡ c.is_none.result =
    ap is_none (sym c.first_port.ensures.port) ∙ none-some c.first_port.result ∙ ap not c.is_none.ensures ∙ not-not c.is_none.result in
    detach-by c.args.row c.args.machine.now.lines false (sym c.has_row.ensures.lines ∙ c.if-not-has_row.false) (free ∙ c.if-is_none.false)
