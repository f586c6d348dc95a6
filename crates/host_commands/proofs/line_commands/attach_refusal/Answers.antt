use Rattle.std.proofs.Common.{◌∙◌, ap, sym, true, false, is_some}
use Rattle.host_commands.proofs.PortFaults.{attach-gone, attach-own, attach-past, attach-by}
use Rattle.host_commands.proofs.line_commands.attach_refusal.Goals as goal

pub returns-then-not-has_row-clause-fault : goal.returns-then-not-has_row-clause-fault
returns-then-not-has_row-clause-fault g c = attach-gone c.args.row c.args.port c.args.machine.now.lines (sym c.has_row.ensures.lines ∙ c.if-not-has_row.true)

pub returns-then-is_some-clause-fault : goal.returns-then-is_some-clause-fault
returns-then-is_some-clause-fault g c =
    attach-own c.args.row c.args.port c.args.machine.now.lines (sym c.has_row.ensures.lines ∙ c.if-not-has_row.false)
    (ap is_some (sym c.first_port.ensures.port) ∙ sym c.is_some.ensures ∙ c.if-is_some.true)

pub returns-then-not-are_ports-clause-fault : goal.returns-then-not-are_ports-clause-fault
returns-then-not-are_ports-clause-fault g c =
    attach-past c.args.row c.args.port c.args.machine.now.lines (sym c.has_row.ensures.lines ∙ c.if-not-has_row.false)
    (ap is_some (sym c.first_port.ensures.port) ∙ sym c.is_some.ensures ∙ c.if-is_some.false) (sym c.are_ports.ensures.ports ∙ c.if-not-are_ports.true)

pub returns-then-are_taken-clause-fault : goal.returns-then-are_taken-clause-fault
returns-then-are_taken-clause-fault g c =
    attach-by c.args.row c.args.port c.args.machine.now.lines (sym c.has_row.ensures.lines ∙ c.if-not-has_row.false)
    (ap is_some (sym c.first_port.ensures.port) ∙ sym c.is_some.ensures ∙ c.if-is_some.false) true (sym c.are_ports.ensures.ports ∙ c.if-not-are_ports.false)
    (sym c.are_taken.ensures ∙ c.if-are_taken.true)

pub returns-clause-fault : goal.returns-clause-fault
returns-clause-fault g c =
    attach-by c.args.row c.args.port c.args.machine.now.lines (sym c.has_row.ensures.lines ∙ c.if-not-has_row.false)
    (ap is_some (sym c.first_port.ensures.port) ∙ sym c.is_some.ensures ∙ c.if-is_some.false) false (sym c.are_ports.ensures.ports ∙ c.if-not-are_ports.false)
    (sym c.are_taken.ensures ∙ c.if-are_taken.false)
