use Rattle.nova_word.proofs.NumberLemmas.{one_answer}
use Rattle.nova_word.proofs.ReadingLemmas.{number_read-reads}
use Rattle.nova_word.proofs.numbers.texts_have_one_answer.Goals as goal

pub returns : goal.returns
returns c = record { one = one_answer; computed = number_read-reads }
