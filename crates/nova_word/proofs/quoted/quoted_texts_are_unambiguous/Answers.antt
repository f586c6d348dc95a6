use Rattle.nova_word.proofs.QuotedLemmas.{one_quoted}
use Rattle.nova_word.proofs.QuotedReadLemmas.{quoted_is_computed}
use Rattle.nova_word.proofs.quoted.quoted_texts_are_unambiguous.Goals as goal

pub returns : goal.returns
returns c = record { one = one_quoted; computed = quoted_is_computed }
