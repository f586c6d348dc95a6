use Rattle.std.proofs.Common.{ap, length, arith}
use Rattle.scp_parser.specs.Operands.{count_of}
use Rattle.scp_parser.proofs.LengthLemmas.{maybe_within}
use Rattle.scp_parser.proofs.watches.expect.Goals as goal

pub needed_text-requires : goal.needed_text-requires
needed_text-requires c = omega (arith, maybe_within count_of c.args.text.now, ap (λ x. length x.1) c.maybe_count-count.ensures, c.requires)
