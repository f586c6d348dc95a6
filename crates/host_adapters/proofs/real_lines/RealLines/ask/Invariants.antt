-- Marks change nothing that contracts see.
use Rattle.std.proofs.Common.{◌≡◌}
use Rattle.host_adapters.proofs.real_lines.RealLines.ask.Given as goal

abbrev pub invariant-loop-event : goal.invariant-loop-event
invariant-loop-event g l = l.self ≡ l.initial.self
