use Rattle.std.proofs.Common.{◌≡◌, ◌+◌, ◌%◌, ◌^◌, ◌∷◌, drop, sum}
use Rattle.binary_load.proofs.dumping.checksum.Given as goal

abbrev pub invariant-loop-word : goal.invariant-loop-word
invariant-loop-word l =
    (l.sum + sum (drop l.word-index l.words)) % 2 ^ 16 ≡ sum (l.count ∷ l.origin ∷ l.words) % 2 ^ 16
