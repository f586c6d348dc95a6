use Rattle.simh_tape.proofs.BlockLaws.{blocks_are_read_back}
use Rattle.simh_tape.proofs.laws.blocks_are_read_back.Goals as goal

pub returns : goal.returns
returns c = blocks_are_read_back
