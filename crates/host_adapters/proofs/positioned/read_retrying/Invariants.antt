-- The reads that a signal cut short leave the buffer its length.
use Rattle.std.proofs.Common.{◌≡◌, length}
use Rattle.host_adapters.proofs.positioned.read_retrying.Given as goal

abbrev pub invariant-loop : goal.invariant-loop
invariant-loop g l = length l.buf ≡ length l.initial.buf
