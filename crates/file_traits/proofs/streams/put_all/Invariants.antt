use Rattle.std.proofs.Common.{length, ◌-◌, ◌≡◌, ◌≤◌, ◌++◌, IsTrue, take}
use Rattle.file_traits.proofs.streams.put_all.Given as goal

abbrev pub invariant-loop-done : goal.invariant-loop-done
invariant-loop-done g l = record {
  within : l.done ≤ length l.bytes;
  added : IsTrue g.S.Sink.tells → g.S.Sink.written l.sink ≡ g.S.Sink.written l.fn.sink ++ take l.done l.bytes;
  quiet : g.S.Sink.fault_count l.sink ≡ g.S.Sink.fault_count l.fn.sink;
}

abbrev pub decreases-loop-done : goal.decreases-loop-done
decreases-loop-done g l = length l.bytes - l.done
