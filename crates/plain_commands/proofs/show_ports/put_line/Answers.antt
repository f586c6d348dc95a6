use Rattle.std.proofs.Common.{List, ℕ, IsTrue, ◌∙◌, sym, subst}
use Rattle.file_traits.specs.Streams.{Puts}
use Rattle.plain_commands.proofs.PortShows.{text-free}
use Rattle.plain_commands.proofs.show_ports.put_line.Goals as goal

pub returns-in-None-default-clause-told : goal.returns-in-None-default-clause-told
returns-in-None-default-clause-told g c =
    subst (λ (text : List ℕ). IsTrue g.S.Sink.tells → Puts (g.S.Sink.written c.args.out.now) text c.put_unported.result (g.S.Sink.written c.put_unported.new.out))
    (sym (text-free c.args.line.now (sym c.port.ensures.port ∙ c.in-None-default.is-0))) c.put_unported.ensures.told
