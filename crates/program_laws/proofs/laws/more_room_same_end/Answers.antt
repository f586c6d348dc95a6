use Rattle.program_laws.proofs.OutcomeLemmas.{more-room-outcome}
use Rattle.program_laws.proofs.laws.more_room_same_end.Goals as goal

pub returns : goal.returns
returns c = more-room-outcome
