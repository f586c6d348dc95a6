use Rattle.std.proofs.Common.{◌≡◌, ◌-◌, ◌≤◌, length}
use Rattle.binary_load.specs.Tape.{answer, tape, tape_from}
use Rattle.binary_load.proofs.loading.check.Given as goal

abbrev pub invariant-loop-passed : goal.invariant-loop-passed
invariant-loop-passed l = record {
  within : length l.rest ≤ length l.bytes;
  answers : answer (tape_from l.size (length l.bytes - length l.rest) l.rest) ≡ answer (tape l.size l.bytes);
}

abbrev pub decreases-loop-passed : goal.decreases-loop-passed
decreases-loop-passed l = length l.rest
