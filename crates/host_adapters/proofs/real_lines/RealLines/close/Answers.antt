use Rattle.std.proofs.Common.{◌≡◌, ◌∙◌, ap, rules, ℕ, ◌==◌, not, List, map, filter}
use Rattle.std.proofs.lemmas.Fn.{filter_same}
use Rattle.host_adapters.specs.declared.real_lines.OpenPort.{OpenPort}
use Rattle.host_adapters.specs.RealLines.{given_before, SocketState, port_of, number_of, without_number}
use Rattle.host_adapters.proofs.Numbers.{numbers_kept}
use Rattle.host_adapters.proofs.real_lines.RealLines.close.Goals as goal

pub returns : goal.returns
returns g c =
    let kept : c.retain.new.self.items ≡ filter (λ (x : OpenPort). not (port_of x == c.args.port)) c.self.inside.ports.items = filter_same _ _ _ (λ x b f' k. search rules) _ _ c.retain.ensures.filtered in
    ap (λ (xs : List ℕ). record { ports = xs; connections = map number_of c.self.inside.connections.items; given = given_before c.self.inside.next; faults = c.self.inside.faults }) (ap (map port_of) kept ∙ numbers_kept port_of c.args.port c.self.inside.ports.items)
    ∙ ap (λ (s : SocketState). record s { ports = without_number c.args.port s.ports }) c.self.view_is
