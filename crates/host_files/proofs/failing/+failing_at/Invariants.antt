use Rattle.std.proofs.Common.{length}
use Rattle.host_files.proofs.failing.+failing_at.Given as goal

abbrev pub decreases-failing_at : goal.decreases-failing_at
decreases-failing_at l = length l.failing.now
