use Rattle.std.proofs.Common.{◌∙◌, sym, subst, Option}
use Rattle.command_session.specs.declared.fault.CommandFault.{CommandFault}
use Rattle.command_session.specs.PortAnswers.{attaches_by}
use Rattle.command_session.proofs.PortLemmas.{left-same}
use Rattle.host_commands.proofs.PortCommands.{attach-left}
use Rattle.host_commands.proofs.line_commands.attach_row.Goals as goal

pub returns-in-Some-clause-left : goal.returns-in-Some-clause-left
returns-in-Some-clause-left g c = left-same g.L.Lines.tells (g.L.Lines.state c.args.lines.now) c.args.machine.now.lines

pub returns-in-None-clause-left : goal.returns-in-None-clause-left
returns-in-None-clause-left g c =
    let old = g.L.Lines.state c.args.lines.now in
    let new = g.L.Lines.state c.listen_row.new.lines in
    let lines = c.args.machine.now.lines in
    attach-left g.L.Lines.tells c.args.row c.args.port c.listen_row.result old new lines c.listen_row.new.machine.lines
    (subst (λ (o : Option CommandFault). attaches_by o g.L.Lines.tells c.args.row c.args.port c.listen_row.result old lines new c.listen_row.new.machine.lines)
    (sym c.in-None.is ∙ c.attach_refusal.ensures.fault) c.listen_row.ensures.tried)
    (λ _. c.attach_refusal.ensures.free c.in-None.is)
