use Rattle.std.proofs.Common.{◌≡◌, ◌+◌, ◌%◌, ◌^◌, length, sum}
use Rattle.binary_load.specs.Tape.{words_of}
use Rattle.binary_load.proofs.blocks.sum.Given as goal

abbrev pub invariant-loop-rest : goal.invariant-loop-rest
invariant-loop-rest l = (l.sum + sum (words_of l.rest)) % 2 ^ 16 ≡ sum (words_of l.fn.bytes) % 2 ^ 16

abbrev pub decreases-loop-rest : goal.decreases-loop-rest
decreases-loop-rest l = length l.rest
