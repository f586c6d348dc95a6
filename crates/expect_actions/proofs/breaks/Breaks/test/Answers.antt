use Rattle.std.proofs.Common.{◌≡◌, ℕ, List, Option, None, false, sym, ap, ◌∙◌, subst}
use Rattle.expect_actions.specs.declared.breaks.Break.{Break}
use Rattle.expect_actions.specs.Breaks.{BreakTable, table, has_break, tested, stop_at, stopped_actions, after_test}
use Rattle.expect_actions.proofs.BreakLemmas.{tested_none, stop_none}
use Rattle.expect_actions.proofs.breaks.Breaks.test.Goals as goal

pub returns-else-get-clause-stop : goal.returns-else-get-clause-stop
returns-else-get-clause-stop c =
    let items = c.self.inside.list.items in
    let absent : has_break c.args.pc items ≡ false = sym (c.self.invariant.2.exact c.args.pc c.get.ensures.low) ∙ sym c.get.ensures.mark ∙ c.if-get.false in
    let P : BreakTable → Type 0 = λ t. None ≡ stop_at c.args.pc t.list in
    subst P c.self.view_is (sym (stop_none c.args.pc items absent))

pub returns-else-get-clause-after : goal.returns-else-get-clause-after
returns-else-get-clause-after c =
    let items = c.self.inside.list.items in
    let actions = c.self.inside.actions in
    let absent : has_break c.args.pc items ≡ false = sym (c.self.invariant.2.exact c.args.pc c.get.ensures.low) ∙ sym c.get.ensures.mark ∙ c.if-get.false in
    let P : BreakTable → Type 0 = λ t. t ≡ after_test c.args.pc t in
    subst P c.self.view_is
    (ap (λ (list : List Break). table list actions) (sym (tested_none c.args.pc items absent))
    ∙ ap (λ (o : Option ℕ). table (tested c.args.pc items) (stopped_actions o items actions)) (sym (stop_none c.args.pc items absent)))
