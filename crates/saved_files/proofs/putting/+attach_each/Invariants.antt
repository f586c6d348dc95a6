use Rattle.std.proofs.Common.{length}
use Rattle.saved_files.proofs.putting.+attach_each.Given as goal

abbrev pub decreases-attach_each : goal.decreases-attach_each
decreases-attach_each g l = length l.saved.now
