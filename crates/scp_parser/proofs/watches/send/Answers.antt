use Rattle.std.specs.Prelude.{codes}
use Rattle.std.proofs.Common.{List, ℕ, Option, ap, length, arith}
use Rattle.scp_parser.specs.Operands.{keyed_of}
use Rattle.scp_parser.proofs.LengthLemmas.{maybe_within}
use Rattle.scp_parser.proofs.watches.send.Goals as goal

pub needed_text-requires : goal.needed_text-requires
needed_text-requires c =
    omega (
      arith,
      maybe_within (keyed_of (codes "AFTER=")) c.args.text.now,
      maybe_within (keyed_of (codes "DELAY=")) c.maybe_keyed-after.result.1.now,
      ap (λ (x : Option ℕ × List ℕ). length x.1) c.maybe_keyed-after.ensures,
      ap (λ (x : Option ℕ × List ℕ). length x.1) c.maybe_keyed-delay.ensures,
      c.requires,
    )
