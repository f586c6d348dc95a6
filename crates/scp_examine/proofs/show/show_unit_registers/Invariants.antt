-- What was printed so far.
use Rattle.std.proofs.Common.{◌≡◌, ◌++◌, IsTrue}
use Rattle.scp_examine.specs.Places.{unit_registers}
use Rattle.scp_examine.specs.Effect.{listed}
use Rattle.scp_examine.proofs.show.show_unit_registers.Given as goal

abbrev pub invariant-loop-number : goal.invariant-loop-number
invariant-loop-number g l = record {
  written : IsTrue g.S.Sink.tells → g.S.Sink.written l.out ≡ g.S.Sink.written l.fn.out ++ listed l.machine l.symbolic l.condition (unit_registers l.kind l.number);
  quiet : g.S.Sink.fault_count l.out ≡ g.S.Sink.fault_count l.fn.out;
}
