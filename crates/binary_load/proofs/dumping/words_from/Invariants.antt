use Rattle.std.proofs.Common.{◌≡◌, ◌+◌, ◌-◌, ◌++◌}
use Rattle.binary_load.specs.Dump.{words_from}
use Rattle.binary_load.proofs.dumping.words_from.Given as goal

abbrev pub invariant-loop-at : goal.invariant-loop-at
invariant-loop-at l =
    l.words.items ++ words_from l.memory l.at (l.fn.to + 1 - l.at)
    ≡ words_from l.memory l.fn.from (l.fn.to + 1 - l.fn.from)
