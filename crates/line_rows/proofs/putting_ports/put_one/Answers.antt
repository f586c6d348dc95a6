use Rattle.std.proofs.Common.{ℕ, List, slice_set, Some, ap, sym, ◌∙◌}
use Rattle.telnet_lines.specs.Line.{LineOf, unconnected}
use Rattle.nova_machine.specs.Machine.{place_of}
use Rattle.terminal_ports.proofs.PortsApart.{changed-set, changed-none}
use Rattle.line_rows.proofs.putting_ports.put_one.Goals as goal

pub returns-in-Some : goal.returns-in-Some
returns-in-Some g c =
    let lines = c.args.machine.now.lines in
    ap (λ (l : List (LineOf ℕ)). record c.args.machine.now { lines = l })
    (ap (slice_set lines (place_of c.args.number)) c.set_port.ensures
    ∙ changed-set (λ (line : LineOf ℕ). unconnected (Some c.args.port)) (place_of c.args.number) lines c.in-Some.line.now (sym c.in-Some.ensures.value))

pub returns-in-None : goal.returns-in-None
returns-in-None g c =
    ap (λ (l : List (LineOf ℕ)). record c.args.machine.now { lines = l })
    (sym (changed-none (λ (line : LineOf ℕ). unconnected (Some c.args.port)) (place_of c.args.number) c.args.machine.now.lines (sym c.in-None.ensures.value)))
