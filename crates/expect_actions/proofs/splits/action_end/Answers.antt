use Rattle.expect_actions.specs.declared.splits.Place.TheVariants.{Outside}
use Rattle.expect_actions.proofs.ActionLemmas.{fronted_none}
use Rattle.expect_actions.proofs.splits.action_end.Goals as goal

pub loop-k-init : goal.loop-k-init
loop-k-init c = fronted_none Outside c.args.text.now
