-- What was printed so far.
use Rattle.std.proofs.Common.{◌≡◌, ◌++◌, IsTrue, take}
use Rattle.plain_commands.specs.ShowEffects.{queue_text}
use Rattle.plain_commands.proofs.show_command.put_queue.Given as goal

abbrev pub invariant-loop-k : goal.invariant-loop-k
invariant-loop-k g l = record {
  written : IsTrue g.S.Sink.tells → g.S.Sink.written l.out ≡ g.S.Sink.written l.fn.out ++ queue_text (take l.k l.events);
  quiet : g.S.Sink.fault_count l.out ≡ g.S.Sink.fault_count l.fn.out;
}
