use Rattle.std.proofs.Common.{◌≡◌}
use Rattle.part_tests.proofs.layouts.by_bytes.Given as goal

abbrev pub invariant-loop-byte : goal.invariant-loop-byte
invariant-loop-byte l = l.reading.kept ≡ 1
