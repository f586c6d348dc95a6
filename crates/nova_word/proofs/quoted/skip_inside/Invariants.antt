use Rattle.std.proofs.Common.{◌≡◌, ◌+◌, ◌≤◌, length}
use Rattle.nova_word.specs.Quoted.{inside_read, counted}
use Rattle.nova_word.proofs.quoted.skip_inside.Given as goal

abbrev pub invariant-loop-rest : goal.invariant-loop-rest
invariant-loop-rest l = record {
  read : counted l.count (inside_read 0 l.rest) ≡ counted 0 (inside_read 0 l.fn.inside);
  within : l.count + length l.rest ≤ length l.fn.inside;
}

abbrev pub decreases-loop-rest : goal.decreases-loop-rest
decreases-loop-rest l = length l.rest
