use Rattle.std.proofs.Common.{◌≡◌, ◌+◌, ◌≤◌, ◌^◌, ◌++◌, length, drop}
use Rattle.std.specs.VecDeque.{deque_capacity}
use Rattle.expect_actions.specs.Sends.{timed}
use Rattle.expect_actions.proofs.sends.queue.Given as goal

abbrev pub invariant-loop-b : goal.invariant-loop-b
invariant-loop-b l = record {
  rest : l.list.items ++ timed l.due l.delay (drop l.b-index l.text) ≡ l.fn.list.items ++ timed l.fn.time l.delay l.text;
  within : l.due ≤ 2 ^ 62;
  long : length l.list.items ≡ length l.fn.list.items + l.b-index;
  capacity : 4096 ≤ deque_capacity l.list;
}
