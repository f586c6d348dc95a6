use Rattle.std.proofs.Common.{◌≡◌, ◌+◌, ◌^◌, ◌≤◌, ◌++◌, length}
use Rattle.binary_load.specs.Dump.{blocks_of}
use Rattle.binary_load.proofs.dumping.push_words.Given as goal

abbrev pub invariant-loop-rest : goal.invariant-loop-rest
invariant-loop-rest l = record {
  within : l.at + length l.rest ≤ 2 ^ 15;
  made : l.tape.items ++ blocks_of l.at l.rest ≡ l.fn.tape.items ++ blocks_of l.fn.origin l.fn.words;
}

abbrev pub decreases-loop-rest : goal.decreases-loop-rest
decreases-loop-rest l = length l.rest
