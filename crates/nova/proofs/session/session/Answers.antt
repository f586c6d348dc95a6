use Rattle.std.proofs.Common.{Option, subst, map}
use Rattle.nova_machine.specs.Machine.{MachineState}
use Rattle.nova_top.specs.Ends.{LinesAtEnd}
use Rattle.nova.proofs.session.session.Goals as goal

-- of the machine and the notes that are let go
pub returns-clause-ended : goal.returns-clause-ended
returns-clause-ended g c =
    let ending = c.simulate-ending.result in
    let promised = c.simulate-ending.ensures in (
      ending.machine,
      ending.faults.items,
      rw c.from.ensures (record {
        outcome = promised.outcome;
        memory = promised.memory;
        complete = promised.complete;
        resumed = promised.resumed;
        ports = promised.ports;
        unopened = promised.unopened;
        measured = promised.measured;
        notes = promised.notes;
        exact = promised.exact;
        openings = promised.openings;
        whose = promised.whose;
        unwritten = promised.unwritten;
        machine = promised.machine;
        files = promised.files;
        unread = promised.unread;
      }),
    )

pub returns-clause-no_keys : goal.returns-clause-no_keys
returns-clause-no_keys g c = rw c.from.ensures c.simulate-ending.ensures.no_keys

pub returns-clause-unasked : goal.returns-clause-unasked
returns-clause-unasked g c = λ bad.
    subst (λ (machine : Option MachineState). LinesAtEnd (map g.U.Unit.unit_state c.args.units.items) machine (g.L.Lines.state c.args.lines.now) (g.L.Lines.state c.simulate-ending.new.lines)) (c.simulate-ending.ensures.machine.none bad)
    c.simulate-ending.ensures.ports
