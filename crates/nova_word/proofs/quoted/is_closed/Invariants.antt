use Rattle.std.proofs.Common.{◌≡◌, length, is_some}
use Rattle.nova_word.specs.Quoted.{inside_read}
use Rattle.nova_word.proofs.quoted.is_closed.Given as goal

abbrev pub invariant-loop-rest : goal.invariant-loop-rest
invariant-loop-rest l = is_some (inside_read 0 l.rest) ≡ is_some (inside_read 0 l.fn.inside)

abbrev pub decreases-loop-rest : goal.decreases-loop-rest
decreases-loop-rest l = length l.rest
