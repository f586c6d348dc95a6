use Rattle.std.proofs.Common.{sym}
use Rattle.nova_word.proofs.ReadingLemmas.{number_read-is}
use Rattle.nova_word.proofs.numbers.read_decimal.Goals as goal

pub returns-clause-exact : goal.returns-clause-exact
returns-clause-exact c = sym (number_read-is 10 9223372036854775808 c.args.text.now c.read_number.result c.read_number.ensures)
