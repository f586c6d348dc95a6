use Rattle.std.proofs.Common.{◌≡◌, ◌+◌, ◌-◌, replicate}
use Rattle.binary_load.specs.Tape.{put_all, stores_from}
use Rattle.binary_load.proofs.loading.store_repeated.Given as goal

abbrev pub invariant-loop-at : goal.invariant-loop-at
invariant-loop-at l = record {
  stored : put_all l.memory (stores_from l.at (replicate (l.fn.origin + l.fn.count - l.at) l.fn.word))
      ≡ put_all l.fn.memory (stores_from l.fn.origin (replicate l.fn.count l.fn.word));
  size : l.memory.size ≡ l.fn.memory.size;
}
