use Rattle.std.proofs.Common.{ℕ, List, IsTrue, sym, subst}
use Rattle.file_traits.specs.Streams.{Puts}
use Rattle.plain_commands.proofs.PortShows.{row-free}
use Rattle.plain_commands.proofs.show_ports.put_row.Goals as goal

pub returns-in-None-clause-told : goal.returns-in-None-clause-told
returns-in-None-clause-told g c =
    subst (λ (text : List ℕ). IsTrue g.S.Sink.tells → Puts (g.S.Sink.written c.args.out.now) text c.put_no_row.result (g.S.Sink.written c.put_no_row.new.out))
    (sym (row-free c.args.row c.args.machine.now.lines (sym c.in-None.ensures.port))) c.put_no_row.ensures.told
