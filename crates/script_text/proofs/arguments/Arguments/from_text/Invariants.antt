use Rattle.std.proofs.Common.{length}
use Rattle.script_text.proofs.WordLemmas.{Splits}
use Rattle.script_text.proofs.arguments.Arguments.from_text.Given as goal

abbrev pub invariant-loop-arguments : goal.invariant-loop-arguments
invariant-loop-arguments l = Splits l.name l.fn.text l.arguments l.rest

abbrev pub decreases-loop-arguments : goal.decreases-loop-arguments
decreases-loop-arguments l = length l.rest
