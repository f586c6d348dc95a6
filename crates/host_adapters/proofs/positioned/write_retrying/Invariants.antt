-- The writes that a signal cut short took nothing.
use Rattle.std.proofs.Common.{◌≡◌, IsTrue}
use Rattle.host_adapters.proofs.positioned.write_retrying.Given as goal

abbrev pub invariant-loop : goal.invariant-loop
invariant-loop g l = IsTrue g.F.Placed.tells → g.F.Placed.bytes l.file ≡ g.F.Placed.bytes l.initial.file
