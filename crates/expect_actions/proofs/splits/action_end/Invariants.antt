use Rattle.std.proofs.Common.{◌≡◌, take, drop}
use Rattle.expect_actions.specs.declared.splits.Place.TheVariants.{Outside}
use Rattle.expect_actions.specs.Actions.{actions_from}
use Rattle.expect_actions.proofs.ActionLemmas.{fronted}
use Rattle.expect_actions.proofs.splits.action_end.Given as goal

abbrev pub invariant-loop-k : goal.invariant-loop-k
invariant-loop-k l = fronted (take l.k l.text) (actions_from l.place (drop l.k l.text)) ≡ actions_from Outside l.text
