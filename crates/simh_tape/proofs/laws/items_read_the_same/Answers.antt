use Rattle.simh_tape.proofs.ItemLaws.{items_read_the_same}
use Rattle.simh_tape.proofs.laws.items_read_the_same.Goals as goal

pub returns : goal.returns
returns c = items_read_the_same
