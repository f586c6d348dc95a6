use Rattle.std.proofs.Common.{sym, ap, ◌∙◌, subst}
use Rattle.unit_trait.specs.declared.kind.Kind.{Kind}
use Rattle.nova_machine.specs.Seen.{seen, beside}
use Rattle.nova_machine.specs.Comes.{output}
use Rattle.command_session.specs.declared.terminal.LineRow.{LineRow}
use Rattle.command_session.specs.Live.{standing}
use Rattle.command_session.specs.LineEffects.{row_for, show_row, show_ports}
use Rattle.command_session.specs.Doing.{Does}
use Rattle.plain_commands.proofs.show_ports.show_ports.Goals as goal

pub returns-in-Qty-clause-told : goal.returns-in-Qty-clause-told
returns-in-Qty-clause-told g c = λ watch keys files heard.
    let live = seen (beside watch keys files.files files.lines) files.whole c.args.machine.now in
    let before = output (g.S.Sink.written c.args.out.now) heard in
    let after = output (g.S.Sink.written c.show_row.new.out) heard in
    subst (λ (kind : Kind). Does (show_ports kind live) c.show_row.result (standing 0 live) g.S.Sink.tells before after) (sym c.in-Qty.is)
    (subst (λ (row : LineRow). Does (show_row row live) c.show_row.result (standing 0 live) g.S.Sink.tells before after) (c.row_for.ensures.row ∙ ap row_for c.in-Qty.is)
    (c.show_row.ensures.told watch keys files heard))
