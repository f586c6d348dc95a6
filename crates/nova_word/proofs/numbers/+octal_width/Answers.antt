use Rattle.std.proofs.Common.{arith}
use Rattle.nova_word.proofs.WidthLemmas.{octal_width-more, octal_width-le, fits_one_more}
use Rattle.nova_word.proofs.numbers.+octal_width.Goals as goal

pub returns-else-n-lt8-clause-exact : goal.returns-else-n-lt8-clause-exact
returns-else-n-lt8-clause-exact t c = omega (arith, octal_width-more c.args.n c.if-n-lt8.false, c.octal_width.ensures.exact)

pub returns-else-n-lt8-clause-fits : goal.returns-else-n-lt8-clause-fits
returns-else-n-lt8-clause-fits t c =
    fits_one_more c.args.n c.octal_width.result c.octal_width.ensures.fits

pub returns-else-n-lt8-clause-range : goal.returns-else-n-lt8-clause-range
returns-else-n-lt8-clause-range t c =
    let le = octal_width-le c.args.n 11 (omega arith) (omega arith) in
    let more = octal_width-more c.args.n c.if-n-lt8.false in
    (omega arith, omega (arith, le, more, c.octal_width.ensures.exact))
