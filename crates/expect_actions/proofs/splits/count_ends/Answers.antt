use Rattle.std.proofs.Common.{◌≡◌, ℕ, List, ◌+◌, cond, length, get_or, drop, ap, arith}
use Rattle.std.proofs.lemmas.List.{drop_more}
use Rattle.expect_actions.specs.Actions.{next_place, ends_action, actions_from}
use Rattle.expect_actions.proofs.ActionLemmas.{count_more, one_most}
use Rattle.expect_actions.proofs.splits.count_ends.Goals as goal

pub loop-b-preserved : goal.loop-b-preserved
loop-b-preserved c =
    let text = c.args.text.now in
    let place = c.loop-b.place in
    let b = get_or text c.loop-b.b-index 0 in
    let rest = drop (c.loop-b.b-index + 1) text in
    let ends : c.ends-count.result ≡ cond (ends_action place b) 1 0 = c.ends-count.ensures in
    let next : c.next_place-place.result ≡ next_place place b = c.next_place-place.ensures in
    let more = count_more place b rest in
    let here = ap (λ (xs : List ℕ). length (actions_from place xs)) (drop_more text c.loop-b.b-index 0 c.loop-b-test.true) in
    let most = one_most (ends_action place b) in
    record {
      count = rw next (omega (arith, ends, more, here, c.loop-b.invariant.count));
      few = omega (arith, ends, most, c.loop-b.invariant.few);
    }
