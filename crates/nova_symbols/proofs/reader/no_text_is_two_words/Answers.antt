use Rattle.nova_symbols.proofs.GivenLemmas.{exactly_read, one_word}
use Rattle.nova_symbols.proofs.reader.no_text_is_two_words.Goals as goal

pub returns : goal.returns
returns c = record { reading = exactly_read; one = one_word }
