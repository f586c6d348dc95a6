use Rattle.std.proofs.Common.{◌≡◌, ◌<◌, ◌≤◌, ◌++◌, length, take, drop}
use Rattle.std.specs.VecDeque.{deque_capacity}
use Rattle.expect_actions.specs.declared.splits.Place.TheVariants.{Outside}
use Rattle.expect_actions.specs.Actions.{split, actions_from}
use Rattle.expect_actions.proofs.actions.put_all.Given as goal

abbrev pub invariant-loop-at : goal.invariant-loop-at
invariant-loop-at l = record {
  items : l.list.items ≡ take l.at (split l.text) ++ l.fn.list.items;
  rest : l.at < l.count → actions_from Outside l.rest ≡ drop l.at (split l.text);
  short : length l.rest ≤ 512;
  capacity : 64 ≤ deque_capacity l.list;
}
