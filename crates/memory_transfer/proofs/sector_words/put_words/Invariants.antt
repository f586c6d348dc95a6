use Rattle.std.proofs.Common.{◌≡◌}
use Rattle.memory_transfer.specs.Words.{words_put}
use Rattle.memory_transfer.proofs.sector_words.put_words.Given as goal

abbrev pub invariant-loop-n : goal.invariant-loop-n
invariant-loop-n l = l.memory ≡ words_put l.n l.address l.bytes l.fn.memory
