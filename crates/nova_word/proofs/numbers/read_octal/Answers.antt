use Rattle.std.proofs.Common.{rules, Ok, sym}
use Rattle.nova_word.specs.Numbers.{ReadsNumber}
use Rattle.nova_word.proofs.ReadingLemmas.{number_read-is}
use Rattle.nova_word.proofs.numbers.read_octal.Goals as goal

pub returns-in_err-n-clause-exact : goal.returns-in_err-n-clause-exact
returns-in_err-n-clause-exact c =
    let reads : ReadsNumber 8 4294967295 c.args.text.now c.from_residual.result = search rules in
    sym (number_read-is 8 4294967295 c.args.text.now c.from_residual.result reads)

pub returns-clause-exact : goal.returns-clause-exact
returns-clause-exact c =
    let reads : ReadsNumber 8 4294967295 c.args.text.now (Ok c.in_ok-n.n) = search rules in
    sym (number_read-is 8 4294967295 c.args.text.now (Ok c.in_ok-n.n) reads)
