use Rattle.std.proofs.Common.{length}
use Rattle.script_text.proofs.LabelLemmas.{Searched}
use Rattle.script_text.proofs.labels.find_label.Given as goal

abbrev pub invariant-loop-line : goal.invariant-loop-line
invariant-loop-line l = Searched l.script l.label l.rest

abbrev pub decreases-loop-line : goal.decreases-loop-line
decreases-loop-line l = length l.rest
