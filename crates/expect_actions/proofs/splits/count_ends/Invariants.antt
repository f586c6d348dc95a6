use Rattle.std.proofs.Common.{◌≡◌, ◌+◌, ◌≤◌, length, drop}
use Rattle.expect_actions.specs.declared.splits.Place.TheVariants.{Outside}
use Rattle.expect_actions.specs.Actions.{actions_from}
use Rattle.expect_actions.proofs.splits.count_ends.Given as goal

abbrev pub invariant-loop-b : goal.invariant-loop-b
invariant-loop-b l = record {
  count : l.count + length (actions_from l.place (drop l.b-index l.text)) ≡ length (actions_from Outside l.text) + 1;
  few : l.count ≤ l.b-index + 1;
}
