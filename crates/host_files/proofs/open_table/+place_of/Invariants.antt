use Rattle.std.proofs.Common.{length}
use Rattle.host_files.proofs.open_table.+place_of.Given as goal

abbrev pub decreases-place_of : goal.decreases-place_of
decreases-place_of g l = length l.entries.now
