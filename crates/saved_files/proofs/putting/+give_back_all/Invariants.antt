use Rattle.std.proofs.Common.{length}
use Rattle.saved_files.proofs.putting.+give_back_all.Given as goal

abbrev pub decreases-give_back_all : goal.decreases-give_back_all
decreases-give_back_all g l = length l.saved.now
