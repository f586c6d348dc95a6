use Rattle.std.proofs.Common.{subst, sym, ◌∙◌, ap, ℕ, List, map}
use Rattle.std.proofs.Math.Seq.{map-set_same}
use Rattle.host_adapters.specs.declared.real_lines.OpenConnection.{OpenConnection}
use Rattle.host_adapters.specs.RealLines.{AreGiven, given_before, port_of, number_of}
use Rattle.host_adapters.proofs.real_lines.RealLines.know_connection.Goals as goal

pub returns : goal.returns
returns g c =
    let found = c.index_mut.result.now in
    let known : OpenConnection = record found { ways = c.args.ways } in
    ap (λ (connections : List ℕ). record { ports = map port_of c.self.inside.ports.items; connections = connections; given = given_before c.self.inside.next; faults = c.self.inside.faults })
    (map-set_same number_of c.self.inside.connections.items c.args.place known found (ap number_of c.index_mut.ensures.value))
    ∙ c.self.view_is

pub invariant_of-self : goal.invariant_of-self
invariant_of-self g c =
    let found = c.index_mut.result.now in
    let known : OpenConnection = record found { ways = c.args.ways } in
    subst (AreGiven (given_before c.self.inside.next))
    (sym (map-set_same number_of c.self.inside.connections.items c.args.place known found (ap number_of c.index_mut.ensures.value)))
    c.self.invariant
