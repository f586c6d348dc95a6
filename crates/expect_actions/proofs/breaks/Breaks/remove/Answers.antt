use Rattle.std.proofs.Common.{◌≡◌, List, not, false, length, sym, ap, ◌∙◌, subst, arith}
use Rattle.expect_actions.specs.declared.breaks.Break.{Break}
use Rattle.expect_actions.specs.Breaks.{BreakTable, table, is_at, has_break, without_break}
use Rattle.expect_actions.proofs.BreakLemmas.{rising_filter, no_more, marks_without, all_kept}
use Rattle.expect_actions.proofs.breaks.Breaks.remove.Goals as goal

pub invariant_of-self : goal.invariant_of-self
invariant_of-self c =
    let items = c.self.inside.list.items in (
      rw c.take_out.ensures.rest (rising_filter (λ (b : Break). not (is_at c.args.at b)) items c.self.invariant.0),
      omega (arith, ap length c.take_out.ensures.rest, no_more c.args.at items, c.self.invariant.1),
      rw (c.take_out.ensures.rest, c.set.ensures.mark) (marks_without c.args.at c.self.inside.marks items c.get-there.ensures.low c.self.invariant.2),
    )

pub returns-else-there-clause-rest : goal.returns-else-there-clause-rest
returns-else-there-clause-rest c =
    let items = c.self.inside.list.items in
    let absent : has_break c.args.at items ≡ false = sym (c.self.invariant.2.exact c.args.at c.get-there.ensures.low) ∙ sym c.get-there.ensures.mark ∙ c.if-there.false in
    let P : BreakTable → Type 0 = λ t. t ≡ table (without_break c.args.at t.list) t.actions in
    subst P c.self.view_is (ap (λ (list : List Break). table list c.self.inside.actions) (sym (all_kept c.args.at items absent)))
