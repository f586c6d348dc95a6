use Rattle.std.proofs.Common.{◌≡◌, ◌+◌, ◌^◌, ◌≤◌, length}
use Rattle.binary_load.specs.Tape.{put_all, stores_from, words_of}
use Rattle.binary_load.proofs.loading.store_words.Given as goal

abbrev pub invariant-loop-rest : goal.invariant-loop-rest
invariant-loop-rest l = record {
  within : l.at + length (words_of l.rest) ≤ 2 ^ 15;
  stored : put_all l.memory (stores_from l.at (words_of l.rest))
      ≡ put_all l.fn.memory (stores_from l.fn.origin (words_of l.fn.bytes));
  size : l.memory.size ≡ l.fn.memory.size;
}

abbrev pub decreases-loop-rest : goal.decreases-loop-rest
decreases-loop-rest l = length l.rest
