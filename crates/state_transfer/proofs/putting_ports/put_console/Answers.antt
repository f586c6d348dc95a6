use Rattle.std.proofs.Common.{ℕ, ◌<◌, List, ap, rules}
use Rattle.telnet_lines.specs.Line.{LineOf}
use Rattle.nova_machine.specs.Machine.{console_place}
use Rattle.terminal_ports.proofs.RowPorts.{none-put}
use Rattle.state_transfer.proofs.RowLemmas.{console-put}
use Rattle.state_transfer.proofs.putting_ports.put_console.Goals as goal

pub returns-then-count-ne0 : goal.returns-then-count-ne0
returns-then-count-ne0 g c =
    let some : 0 < c.args.count = search rules in
    ap (λ (lines : List (LineOf ℕ)). record c.args.machine.now { lines = lines })
    (console-put c.args.count c.args.port c.args.machine.now.lines c.console.result.now c.set_port.new.self
    c.requires some c.console.ensures.value c.set_port.ensures)

pub returns-else-count-ne0 : goal.returns-else-count-ne0
returns-else-count-ne0 g c =
    ap (λ (lines : List (LineOf ℕ)). record c.args.machine.now { lines = lines })
    (none-put c.args.count console_place c.args.port c.args.machine.now.lines (search rules))
