use Rattle.std.proofs.Common.{max, ◌+◌, arith}
use Rattle.expect_actions.proofs.SendLemmas.{same_timed}
use Rattle.expect_actions.proofs.sends.first_time.Goals as goal

pub returns-clause-time : goal.returns-clause-time
returns-clause-time c = λ delay text. same_timed _ (max c.args.now c.args.last + c.args.after) delay text (omega arith)
