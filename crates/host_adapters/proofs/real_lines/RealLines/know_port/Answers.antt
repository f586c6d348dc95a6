use Rattle.std.proofs.Common.{◌∙◌, ap, ℕ, List, map}
use Rattle.std.proofs.Math.Seq.{map-set_same}
use Rattle.host_adapters.specs.declared.real_lines.OpenPort.{OpenPort}
use Rattle.host_adapters.specs.RealLines.{given_before, port_of, number_of}
use Rattle.host_adapters.proofs.real_lines.RealLines.know_port.Goals as goal

pub returns : goal.returns
returns g c =
    let found = c.index_mut.result.now in
    let known : OpenPort = record found { accepts = c.args.accepts } in
    ap (λ (ports : List ℕ). record { ports = ports; connections = map number_of c.self.inside.connections.items; given = given_before c.self.inside.next; faults = c.self.inside.faults })
    (map-set_same port_of c.self.inside.ports.items c.args.place known found (ap port_of c.index_mut.ensures.value))
    ∙ c.self.view_is
