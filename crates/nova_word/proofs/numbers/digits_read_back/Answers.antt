use Rattle.nova_word.proofs.NumberLemmas.{length-octal_digits, digits_are_number}
use Rattle.nova_word.proofs.numbers.digits_read_back.Goals as goal

pub returns : goal.returns
returns c = record { as_many = length-octal_digits; number = digits_are_number }
