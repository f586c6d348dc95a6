use Rattle.std.proofs.Common.{length, ap, arith, length-append}
use Rattle.nova_word.specs.Numbers.{octal_digits}
use Rattle.nova_word.proofs.NumberLemmas.{length-octal_digits}
use Rattle.nova_symbols.proofs.names.push_octal.Goals as goal

pub returns-clause-length : goal.returns-clause-length
returns-clause-length c =
    let digits = octal_digits c.args.digits c.from.result in
    omega (arith, ap length c.push_octal.ensures, length-append c.args.text.now digits, length-octal_digits c.args.digits c.from.result)
