use Rattle.std.proofs.Common.{◌≡◌, ◌-◌, ◌<◌, length, sym, rules}
use Rattle.std.specs.VecDeque.{deque_len}
use Rattle.expect_actions.proofs.SendLemmas.{last_is}
use Rattle.expect_actions.proofs.sends.last_queued.Goals as goal

pub returns-in-Some : goal.returns-in-Some
returns-in-Some c =
    let items = c.args.list.now.items in
    let some : 0 < length items = search rules in
    let place : deque_len c.args.list.now - 1 ≡ length items - 1 = search rules in
    sym (last_is items (deque_len c.args.list.now - 1) c.in-Some.send.now some place c.in-Some.ensures.lookup)
