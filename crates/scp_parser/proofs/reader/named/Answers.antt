use Rattle.std.proofs.Common.{List, ℕ, ap, length, arith}
use Rattle.scp_parser.proofs.LengthLemmas.{next_within}
use Rattle.scp_parser.proofs.reader.named.Goals as goal

pub operands-requires : goal.operands-requires
operands-requires c = omega (arith, next_within c.args.line.now, ap (λ (x : List ℕ × List ℕ). length x.1) c.next_word.ensures, c.requires)
