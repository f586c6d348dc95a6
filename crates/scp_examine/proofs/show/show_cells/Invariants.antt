-- What was printed so far.
use Rattle.std.proofs.Common.{◌≡◌, ◌++◌, IsTrue}
use Rattle.scp_examine.specs.Places.{cells}
use Rattle.scp_examine.specs.Effect.{listed}
use Rattle.scp_examine.proofs.show.show_cells.Given as goal

abbrev pub invariant-loop-i : goal.invariant-loop-i
invariant-loop-i g l = record {
  written : IsTrue g.S.Sink.tells → g.S.Sink.written l.out ≡ g.S.Sink.written l.fn.out ++ listed l.machine l.symbolic l.condition (cells l.from l.i);
  quiet : g.S.Sink.fault_count l.out ≡ g.S.Sink.fault_count l.fn.out;
}
