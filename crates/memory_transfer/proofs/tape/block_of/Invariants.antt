use Rattle.std.proofs.Common.{◌≡◌, ◌*◌, length, take}
use Rattle.memory_transfer.specs.Tapes.{block_got}
use Rattle.memory_transfer.proofs.tape.block_of.Given as goal

abbrev pub invariant-loop-n : goal.invariant-loop-n
invariant-loop-n l = record {
  got : take (2 * l.n) l.bytes ≡ block_got l.n l.address l.memory;
  long : length l.bytes ≡ 8192;
}
