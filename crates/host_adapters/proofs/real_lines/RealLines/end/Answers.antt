use Rattle.std.proofs.Common.{subst, sym, ◌≡◌, ◌∙◌, ap, rules, ℕ, ◌==◌, not, List, map, filter}
use Rattle.std.proofs.lemmas.Fn.{filter_same}
use Rattle.host_adapters.specs.declared.real_lines.OpenConnection.{OpenConnection}
use Rattle.host_adapters.specs.RealLines.{given_before, SocketState, port_of, number_of, without_number}
use Rattle.host_adapters.specs.RealLines.{AreGiven}
use Rattle.host_adapters.proofs.Given.{given-kept}
use Rattle.host_adapters.proofs.Numbers.{numbers_kept}
use Rattle.host_adapters.proofs.real_lines.RealLines.end.Goals as goal

pub returns : goal.returns
returns g c =
    let kept : c.retain.new.self.items ≡ filter (λ (x : OpenConnection). not (number_of x == c.args.conn.0)) c.self.inside.connections.items = filter_same _ _ _ (λ x b f' k. search rules) _ _ c.retain.ensures.filtered in
    ap (λ (xs : List ℕ). record { ports = map port_of c.self.inside.ports.items; connections = xs; given = given_before c.self.inside.next; faults = c.self.inside.faults }) (ap (map number_of) kept ∙ numbers_kept number_of c.args.conn.0 c.self.inside.connections.items)
    ∙ ap (λ (s : SocketState). record s { connections = without_number c.args.conn.0 s.connections }) c.self.view_is

pub invariant_of-self : goal.invariant_of-self
invariant_of-self g c =
    let kept : c.retain.new.self.items ≡ filter (λ (x : OpenConnection). not (number_of x == c.args.conn.0)) c.self.inside.connections.items = filter_same _ _ _ (λ x b f' k. search rules) _ _ c.retain.ensures.filtered in
    subst (AreGiven (given_before c.self.inside.next)) (sym (ap (map number_of) kept ∙ numbers_kept number_of c.args.conn.0 c.self.inside.connections.items))
    (given-kept (given_before c.self.inside.next) c.args.conn.0 (map number_of c.self.inside.connections.items) c.self.invariant)
