use Rattle.std.proofs.Common.{length}
use Rattle.command_words.proofs.standard.+are_initial.Given as goal

abbrev pub decreases-are_initial : goal.decreases-are_initial
decreases-are_initial g l = length l.units.now
