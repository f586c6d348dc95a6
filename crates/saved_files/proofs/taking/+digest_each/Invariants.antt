use Rattle.std.proofs.Common.{length}
use Rattle.saved_files.proofs.taking.+digest_each.Given as goal

abbrev pub decreases-digest_each : goal.decreases-digest_each
decreases-digest_each g l = length l.saved.now
