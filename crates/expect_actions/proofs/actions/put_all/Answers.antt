use Rattle.std.proofs.Common.{◌≡◌, ℕ, List, ◌<◌, ◌∷◌, [], length, take, drop, insert, IsOk, sym, ap, ◌∙◌, arith}
use Rattle.std.proofs.lemmas.List.{length-append, length-take-le}
use Rattle.std.specs.VecDeque.{deque_len, deque_capacity}
use Rattle.expect_actions.specs.Actions.{split, pieces}
use Rattle.expect_actions.proofs.ActionLemmas.{put_more, left_more}
use Rattle.expect_actions.proofs.ResultLemmas.{ok_by, on_ok}
use Rattle.expect_actions.proofs.actions.put_all.Goals as goal

pub loop-at-preserved : goal.loop-at-preserved
loop-at-preserved c =
    let all = split c.args.text.now in
    let old = c.args.list.now.items in
    let list = c.loop-at.list in
    let at = c.loop-at.at in
    let here = pieces c.loop-at.rest.now in
    let action = c.split_action.result.0.now in
    let there : at < length all = omega (arith, c.loop-at-test.true, c.requires.count) in
    let is : here ≡ drop at all = c.loop-at.invariant.rest c.loop-at-test.true in
    let first : take 1 (drop at all) ≡ action ∷ [] = ap (take 1) (sym is) ∙ c.split_action.ensures.first in
    let long = ap length c.loop-at.invariant.items in
    let room : deque_len list < deque_capacity list =
    omega (arith, list.ok.0, long, length-append (take at all) old, length-take-le at all (omega (arith, there)), c.requires.room, c.requires.count, there, c.loop-at.invariant.capacity) in
    let ok : IsOk c.insert.result = ok_by c.insert.result _ c.insert.ensures.full (λ full. omega (arith, full, room)) in
    let put : c.insert.new.self.items ≡ insert list.items at c.text_of.result = on_ok c.insert.result _ ok c.insert.ensures.items in
    record {
      items =
          put
          ∙ ap (insert list.items at) c.text_of.ensures
          ∙ ap (λ (xs : List (List ℕ)). insert xs at action) c.loop-at.invariant.items
          ∙ put_more all old at action there first;
      rest = λ later.
          left_more all at here (pieces c.split_action.result.1.now) (omega (arith, later, c.requires.count)) is c.split_action.ensures.others;
      short = omega (arith, c.split_action.ensures.shorter, c.loop-at.invariant.short);
      capacity = omega (arith, c.insert.ensures.capacity, c.loop-at.invariant.capacity);
    }
