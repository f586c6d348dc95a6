use Rattle.std.proofs.Common.{arith}
use Rattle.nova_word.proofs.WidthLemmas.{octal_width-le}
use Rattle.unit_trait.proofs.processor.CpuReg.digits.Goals as goal

pub returns-clause-range : goal.returns-clause-range
returns-clause-range c =
    let le = octal_width-le c.largest.result 6 (omega arith) (omega arith) in
    (c.octal_width.ensures.range.0, omega (arith, le, c.octal_width.ensures.exact))
