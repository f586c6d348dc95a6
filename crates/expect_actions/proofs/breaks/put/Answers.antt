use Rattle.std.proofs.Common.{◌≡◌, ℕ, List, IsOk, is_ok, insert, ap, ◌∙◌, rules}
use Rattle.expect_actions.specs.Breaks.{break_at}
use Rattle.expect_actions.proofs.BreakLemmas.{with_put, yes}
use Rattle.expect_actions.proofs.breaks.put.Goals as goal

pub returns-clause-list : goal.returns-clause-list
returns-clause-list c =
    let list = c.args.list.now.items in
    let place = c.lower_ones-place.result in
    let new = break_at c.args.at c.args.count c.args.actions.now in
    let ok : IsOk c.insert.result = c.insert.ensures.succeeds (search rules) in
    let put : c.insert.new.self.items ≡ insert list place (break_at c.args.at c.args.count c.text_of.result) = c.insert.ensures.items ∙ yes (is_ok c.insert.result) _ _ ok in
    put
    ∙ ap (λ (text : List ℕ). insert list place (break_at c.args.at c.args.count text)) c.text_of.ensures
    ∙ with_put new place list c.requires.rising c.requires.absent (search rules)
