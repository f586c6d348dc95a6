use Rattle.std.proofs.Common.{◌≡◌, ◌+◌, ◌-◌, ℕ, List, sym, subst, rules}
use Rattle.file_traits.specs.Streams.{Puts}
use Rattle.plain_commands.proofs.PortShows.{connected-put}
use Rattle.plain_commands.proofs.show_ports.put_ports.Goals as goal

pub returns-else-connected-eq0-clause-told : goal.returns-else-connected-eq0-clause-told
returns-else-connected-eq0-clause-told g c = λ told.
    let ends : c.from.result + c.from-2.result ≡ c.args.first + (c.args.count - 1) = search rules in
    subst (λ (text : List ℕ). Puts (g.S.Sink.written c.args.out.now) text c.put_connected_row.result (g.S.Sink.written c.put_connected_row.new.out))
    (sym (connected-put c.args.first c.args.count (c.from.result + c.from-2.result) c.args.connected ends c.if-connected-eq0.false)) (c.put_connected_row.ensures.told told)
