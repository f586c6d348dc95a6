use Rattle.expect_actions.proofs.SendLemmas.{sends_stay, left_stays}
use Rattle.expect_actions.proofs.sends.sends_stay_in_time.Goals as goal

pub returns-clause-queued : goal.returns-clause-queued
returns-clause-queued c = sends_stay

pub returns-clause-left : goal.returns-clause-left
returns-clause-left c = left_stays
