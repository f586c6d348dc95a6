use Rattle.std.proofs.Common.{◌≡◌}
use Rattle.memory_transfer.specs.Tapes.{block_put}
use Rattle.memory_transfer.proofs.tape.put_block.Given as goal

abbrev pub invariant-loop-n : goal.invariant-loop-n
invariant-loop-n l = l.memory ≡ block_put l.n l.address l.bytes l.fn.memory
