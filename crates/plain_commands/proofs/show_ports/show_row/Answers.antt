use Rattle.std.proofs.Common.{refl, sym, ◌∙◌}
use Rattle.plain_commands.proofs.PortShows.{row-shown}
use Rattle.plain_commands.proofs.show_ports.show_row.Goals as goal

pub returns-clause-told : goal.returns-clause-told
returns-clause-told g c = λ watch keys files heard.
    row-shown c.args.row c.args.machine.now watch keys files c.put_row-printed.result c.told_or_console.result g.S.Sink.tells _ _ (sym c.has_row.ensures.lines ∙ c.if-not-has_row.false) c.told_or_console.ensures
    c.put_row-printed.ensures.told refl
