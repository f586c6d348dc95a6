use Rattle.std.proofs.Common.{ℕ, List, ◌++◌, Ok, Err, ap, sym, subst, ◌∙◌}
use Rattle.std.proofs.lemmas.Bool.{false≢true}
use Rattle.saved_files.specs.declared.file_faults.RestoreFault.{RestoreFault}
use Rattle.terminal_ports.specs.Listening.{rising, ListensEach}
use Rattle.state_transfer.specs.Listening.{IsHeardOn, IsPortFault}
use Rattle.state_transfer.specs.Ports.{how_many, ports_wanted}
use Rattle.state_transfer.proofs.PortLemmas.{some-wanted, heard-fault, is-port-fault}
use Rattle.state_transfer.proofs.RowLemmas.{none-wanted, wanted-rows, machine-given}
use Rattle.state_transfer.proofs.putting_ports.put_ports.Goals as goal

-- the ports of the three rows are those that are wanted
pub returns-in-Ok-clause-ok : goal.returns-in-Ok-clause-ok
returns-in-Ok-clause-ok g c =
    machine-given c.args.ports c.args.machine.now c.put_row.new.machine c.put_row-in-Ok.new.machine c.put_console.new.machine
    c.row_of-terminal.result.count c.row_of-multiplexer.result.count c.row_of-console.result.count
    (c.row_of-terminal.ensures.count ∙ ap (how_many c.args.ports.tti1 1) c.has_line.ensures)
    (c.row_of-multiplexer.ensures.count ∙ ap (how_many c.args.ports.qty 64) c.has_line-2.ensures)
    c.row_of-console.ensures.count c.put_row.ensures c.put_row-in-Ok.ensures c.put_console.ensures

pub returns-in-Ok-clause-outside : goal.returns-in-Ok-clause-outside
returns-in-Ok-clause-outside g c =
    subst (λ (ports : List ℕ). ListensEach g.L.Lines.tells ports (Ok tt) (g.L.Lines.state c.args.lines.now) (g.L.Lines.state c.listen_three.new.lines))
    ((λ i. rising c.row_of-terminal.result.count (c.row_of-terminal.ensures.port i)
    ++ (rising c.row_of-multiplexer.result.count (c.row_of-multiplexer.ensures.port i)
    ++ rising c.row_of-console.result.count (c.row_of-console.ensures.port i)))
    ∙ sym (wanted-rows c.args.ports c.args.machine.now.lines
    c.row_of-terminal.result.count c.row_of-multiplexer.result.count c.row_of-console.result.count
    (c.row_of-terminal.ensures.count ∙ ap (how_many c.args.ports.tti1 1) c.has_line.ensures)
    (c.row_of-multiplexer.ensures.count ∙ ap (how_many c.args.ports.qty 64) c.has_line-2.ensures)
    c.row_of-console.ensures.count)) c.in-Ok.ensures.outside

pub returns-in-Ok-clause-none : goal.returns-in-Ok-clause-none
returns-in-Ok-clause-none g c = λ none.
    let zero_all = none-wanted c.row_of-terminal.result.count c.args.ports.tti1 c.row_of-multiplexer.result.count c.args.ports.qty
    c.row_of-console.result.count c.args.ports.console
    (sym (wanted-rows c.args.ports c.args.machine.now.lines
    c.row_of-terminal.result.count c.row_of-multiplexer.result.count c.row_of-console.result.count
    (c.row_of-terminal.ensures.count ∙ ap (how_many c.args.ports.tti1 1) c.has_line.ensures)
    (c.row_of-multiplexer.ensures.count ∙ ap (how_many c.args.ports.qty 64) c.has_line-2.ensures)
    c.row_of-console.ensures.count) ∙ none) in
    c.in-Ok.ensures.none zero_all.0 zero_all.1 zero_all.2

pub returns-in-Err-clause-none : goal.returns-in-Err-clause-none
returns-in-Err-clause-none g c = λ none.
    let zero_all = none-wanted c.row_of-terminal.result.count c.args.ports.tti1 c.row_of-multiplexer.result.count c.args.ports.qty
    c.row_of-console.result.count c.args.ports.console
    (sym (wanted-rows c.args.ports c.args.machine.now.lines
    c.row_of-terminal.result.count c.row_of-multiplexer.result.count c.row_of-console.result.count
    (c.row_of-terminal.ensures.count ∙ ap (how_many c.args.ports.tti1 1) c.has_line.ensures)
    (c.row_of-multiplexer.ensures.count ∙ ap (how_many c.args.ports.qty 64) c.has_line-2.ensures)
    c.row_of-console.ensures.count) ∙ none) in
    absurd (false≢true (c.in-Err.ensures.none zero_all.0 zero_all.1 zero_all.2).0)

pub returns-in-Err-clause-wanted : goal.returns-in-Err-clause-wanted
returns-in-Err-clause-wanted g c =
    some-wanted g.L.Lines.tells (ports_wanted c.args.ports c.args.machine.now.lines) c.in-Err.fault (g.L.Lines.state c.args.lines.now)
    (g.L.Lines.state c.listen_three.new.lines)
    (subst (λ (ports : List ℕ). ListensEach g.L.Lines.tells ports (Err c.in-Err.fault) (g.L.Lines.state c.args.lines.now) (g.L.Lines.state c.listen_three.new.lines))
    ((λ i. rising c.row_of-terminal.result.count (c.row_of-terminal.ensures.port i)
    ++ (rising c.row_of-multiplexer.result.count (c.row_of-multiplexer.ensures.port i)
    ++ rising c.row_of-console.result.count (c.row_of-console.ensures.port i)))
    ∙ sym (wanted-rows c.args.ports c.args.machine.now.lines
    c.row_of-terminal.result.count c.row_of-multiplexer.result.count c.row_of-console.result.count
    (c.row_of-terminal.ensures.count ∙ ap (how_many c.args.ports.tti1 1) c.has_line.ensures)
    (c.row_of-multiplexer.ensures.count ∙ ap (how_many c.args.ports.qty 64) c.has_line-2.ensures)
    c.row_of-console.ensures.count)) c.in-Err.ensures.outside)

pub returns-in-Err-clause-outside : goal.returns-in-Err-clause-outside
returns-in-Err-clause-outside g c =
    let wanted = ports_wanted c.args.ports c.args.machine.now.lines in
    let each : ListensEach g.L.Lines.tells wanted (Err c.in-Err.fault) (g.L.Lines.state c.args.lines.now) (g.L.Lines.state c.listen_three.new.lines) =
    subst (λ (ports : List ℕ). ListensEach g.L.Lines.tells ports (Err c.in-Err.fault) (g.L.Lines.state c.args.lines.now) (g.L.Lines.state c.listen_three.new.lines))
    ((λ i. rising c.row_of-terminal.result.count (c.row_of-terminal.ensures.port i)
    ++ (rising c.row_of-multiplexer.result.count (c.row_of-multiplexer.ensures.port i)
    ++ rising c.row_of-console.result.count (c.row_of-console.ensures.port i)))
    ∙ sym (wanted-rows c.args.ports c.args.machine.now.lines
    c.row_of-terminal.result.count c.row_of-multiplexer.result.count c.row_of-console.result.count
    (c.row_of-terminal.ensures.count ∙ ap (how_many c.args.ports.tti1 1) c.has_line.ensures)
    (c.row_of-multiplexer.ensures.count ∙ ap (how_many c.args.ports.qty 64) c.has_line-2.ensures)
    c.row_of-console.ensures.count)) c.in-Err.ensures.outside in
    subst (λ (e : RestoreFault). IsHeardOn g.L.Lines.tells wanted (Err e) (g.L.Lines.state c.args.lines.now) (g.L.Lines.state c.listen_three.new.lines))
    (sym c.fault_of.ensures)
    (heard-fault g.L.Lines.tells wanted c.in-Err.fault (g.L.Lines.state c.args.lines.now) (g.L.Lines.state c.listen_three.new.lines) each)

pub returns-in-Err-clause-fault : goal.returns-in-Err-clause-fault
returns-in-Err-clause-fault g c = subst IsPortFault (sym c.fault_of.ensures) (is-port-fault c.in-Err.fault)
