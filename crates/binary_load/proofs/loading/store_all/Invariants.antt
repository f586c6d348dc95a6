use Rattle.std.proofs.Common.{◌≡◌, ◌-◌, ◌≤◌, length, IsOk}
use Rattle.binary_load.specs.Tape.{loaded, tape, tape_from}
use Rattle.binary_load.proofs.loading.store_all.Given as goal

abbrev pub invariant-loop-stores : goal.invariant-loop-stores
invariant-loop-stores l = record {
  within : length l.rest ≤ length l.bytes;
  size : l.memory.size ≡ l.fn.memory.size;
  fine : IsOk (tape_from l.fn.memory.size (length l.bytes - length l.rest) l.rest);
  stored : loaded l.memory (tape_from l.fn.memory.size (length l.bytes - length l.rest) l.rest)
      ≡ loaded l.fn.memory (tape l.fn.memory.size l.bytes);
}

abbrev pub decreases-loop-stores : goal.decreases-loop-stores
decreases-loop-stores l = length l.rest
