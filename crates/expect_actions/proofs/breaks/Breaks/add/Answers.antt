use Rattle.std.proofs.Common.{◌≡◌, List, not, ap, ◌∙◌, subst, arith}
use Rattle.expect_actions.specs.declared.breaks.Break.{Break}
use Rattle.expect_actions.specs.Breaks.{BreakTable, table, break_at, is_at, has_break, with_break}
use Rattle.expect_actions.proofs.BreakLemmas.{rising_filter, gone, rising_with, with_again, marks_with}
use Rattle.expect_actions.proofs.breaks.Breaks.add.Goals as goal

pub put-requires-clause-rising : goal.put-requires-clause-rising
put-requires-clause-rising c =
    rw c.in_ok-make_room.ensures.rest (rising_filter (λ (b : Break). not (is_at c.args.at b)) c.self.inside.list.items c.self.invariant.0)

pub put-requires-clause-absent : goal.put-requires-clause-absent
put-requires-clause-absent c = ap (has_break c.args.at) c.in_ok-make_room.ensures.rest ∙ gone c.args.at c.self.inside.list.items

pub invariant_of-self-2 : goal.invariant_of-self-2
invariant_of-self-2 c =
    let items = c.self.inside.list.items in
    let new = break_at c.args.at c.args.count c.args.actions.now in
    let all : c.put.new.list.items ≡ with_break new items = c.put.ensures.list ∙ ap (with_break new) c.in_ok-make_room.ensures.rest ∙ with_again new items in (
      rw all (rising_with new items c.self.invariant.0),
      omega (arith, c.put.ensures.more, c.in_ok-make_room.ensures.few),
      rw (all, c.set.ensures.mark) (marks_with new c.self.inside.marks items c.get-there.ensures.low c.self.invariant.0 c.self.invariant.2),
    )

pub returns-clause-ok : goal.returns-clause-ok
returns-clause-ok c =
    let items = c.self.inside.list.items in
    let new = break_at c.args.at c.args.count c.args.actions.now in
    let all : c.put.new.list.items ≡ with_break new items = c.put.ensures.list ∙ ap (with_break new) c.in_ok-make_room.ensures.rest ∙ with_again new items in
    let P : BreakTable → Type 0 = λ t. table c.put.new.list.items c.self.inside.actions ≡ table (with_break new t.list) t.actions in
    subst P c.self.view_is (ap (λ (list : List Break). table list c.self.inside.actions) all)
