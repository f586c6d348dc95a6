use Rattle.nova_symbols.proofs.LawLemmas.{word_or_fault, one_fault, not_both}
use Rattle.nova_symbols.proofs.FaultLemmas.{exactly_faulty}
use Rattle.nova_symbols.proofs.reader.each_text_has_a_word_or_a_fault.Goals as goal

pub returns : goal.returns
returns c = record { reading = exactly_faulty; some = word_or_fault; one = one_fault; apart = not_both }
