use Rattle.std.proofs.Common.{◌≡◌, ◌-◌}
use Rattle.program_start.specs.Workload.{words_behind, with_words}
use Rattle.program_start.proofs.workload.put_numbers.Given as goal

-- what is still to be put comes to the whole
abbrev pub invariant-loop-at : goal.invariant-loop-at
invariant-loop-at l = with_words l.memory l.at (words_behind l.last (0o11000 - l.at)) ≡ with_words l.fn.memory 0o1000 (words_behind l.fn.number 4096)
