use Rattle.std.proofs.Common.{◌≡◌, ◌++◌, drop}
use Rattle.binary_load.specs.Dump.{bytes_of, block}
use Rattle.binary_load.proofs.dumping.push_block.Given as goal

abbrev pub invariant-loop-word : goal.invariant-loop-word
invariant-loop-word l =
    l.tape.items ++ bytes_of (drop l.word-index l.words) ≡ l.fn.tape.items ++ block l.count l.origin l.words
