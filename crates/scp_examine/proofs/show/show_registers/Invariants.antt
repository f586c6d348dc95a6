-- What was printed so far.
use Rattle.std.proofs.Common.{◌≡◌, ◌++◌, IsTrue, take}
use Rattle.scp_examine.specs.Places.{registers_of}
use Rattle.scp_examine.specs.Effect.{listed}
use Rattle.scp_examine.proofs.show.show_registers.Given as goal

abbrev pub invariant-loop-register : goal.invariant-loop-register
invariant-loop-register g l = record {
  written : IsTrue g.S.Sink.tells → g.S.Sink.written l.out ≡ g.S.Sink.written l.fn.out ++ listed l.machine l.symbolic l.condition (registers_of (take l.register-index l.registers));
  quiet : g.S.Sink.fault_count l.out ≡ g.S.Sink.fault_count l.fn.out;
}
