use Rattle.std.proofs.Common.{rules, ◌≡◌, subst, ℕ, false, map}
use Rattle.host_adapters.specs.RealLines.{SocketState, is_in, number_of, given_before}
use Rattle.host_adapters.proofs.Given.{given-fresh}
use Rattle.host_adapters.proofs.real_lines.RealLines.keep.Goals as goal

pub returns-clause-fresh : goal.returns-clause-fresh
returns-clause-fresh g c =
    let numbers = map number_of c.self.inside.connections.items in
    let next : given_before c.self.inside.next ≡ c.in_ok-conn.conn = search rules in
    subst (λ (s : SocketState). is_in s.connections c.in_ok-conn.conn ≡ false) c.self.view_is
    (subst (λ (n : ℕ). is_in numbers n ≡ false) next
    (given-fresh (given_before c.self.inside.next) numbers c.self.invariant))
