use Rattle.event_queue.proofs.Agendas.{agenda-stands}
use Rattle.event_queue.proofs.laws.agenda_stands_again.Goals as goal

pub returns : goal.returns
returns c = agenda-stands
