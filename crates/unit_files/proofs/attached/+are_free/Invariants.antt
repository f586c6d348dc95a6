use Rattle.std.proofs.Common.{length}
use Rattle.unit_files.proofs.attached.+are_free.Given as goal

abbrev pub decreases-are_free : goal.decreases-are_free
decreases-are_free l = length l.slots.now
