-- What was printed so far.
use Rattle.std.proofs.Common.{◌≡◌, ◌++◌, IsTrue, take}
use Rattle.scp_examine.specs.Shape.{shape_of}
use Rattle.scp_examine.specs.Effect.{all_places, listed}
use Rattle.scp_examine.proofs.show.show_items.Given as goal

abbrev pub invariant-loop-item : goal.invariant-loop-item
invariant-loop-item g l = record {
  written : IsTrue g.S.Sink.tells
      → g.S.Sink.written l.out ≡ g.S.Sink.written l.fn.out ++ listed l.machine l.symbolic l.condition (all_places (shape_of l.machine) l.device (take l.item-index l.items));
  quiet : g.S.Sink.fault_count l.out ≡ g.S.Sink.fault_count l.fn.out;
}
