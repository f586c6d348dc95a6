-- What was printed so far.
use Rattle.std.proofs.Common.{◌≡◌, ◌++◌, IsTrue, take}
use Rattle.plain_commands.specs.WatchTexts.{breaks_text}
use Rattle.plain_commands.proofs.show_watch.put_breaks.Given as goal

abbrev pub invariant-loop-k : goal.invariant-loop-k
invariant-loop-k g l = record {
  written : IsTrue g.S.Sink.tells → g.S.Sink.written l.out ≡ g.S.Sink.written l.fn.out ++ breaks_text (take l.k l.breaks.list);
  quiet : g.S.Sink.fault_count l.out ≡ g.S.Sink.fault_count l.fn.out;
}
