use Rattle.nova_symbols.specs.Canon.{canon}
use Rattle.nova_symbols.proofs.CanonLemmas.{canon_back}
use Rattle.nova_symbols.proofs.ReadsLemmas.{reads_found}
use Rattle.nova_symbols.proofs.reader.canonical_texts_read_back.Goals as goal

pub returns : goal.returns
returns c = record { form = λ w below. reads_found (canon w) w (canon_back w below); reading = canon_back }
