use Rattle.std.proofs.Common.{◌≡◌, ℕ, List, Option, Some, [], length, get_or, ◌<◌, ap, ◌∙◌, subst, arith}
use Rattle.expect_actions.specs.declared.breaks.Break.{Break}
use Rattle.expect_actions.specs.Breaks.{BreakTable, table, break_at, tested, stop_at, stopped_actions, after_test}
use Rattle.expect_actions.proofs.BreakLemmas.{tested_rising, tested_length, tested_marks, stopped_are}
use Rattle.expect_actions.proofs.breaks.Breaks.meet.Goals as goal

pub invariant_of-self : goal.invariant_of-self
invariant_of-self c =
    let items = c.self.inside.list.items in
    rw c.meet_in.ensures.list
    (tested_rising c.args.pc items c.self.invariant.0, omega (arith, tested_length c.args.pc items, c.self.invariant.1), tested_marks c.args.pc c.self.inside.marks items c.self.invariant.2)

pub invariant_of-self-in-None : goal.invariant_of-self-in-None
invariant_of-self-in-None c =
    let items = c.self.inside.list.items in
    rw c.meet_in.ensures.list
    (tested_rising c.args.pc items c.self.invariant.0, omega (arith, tested_length c.args.pc items, c.self.invariant.1), tested_marks c.args.pc c.self.inside.marks items c.self.invariant.2)

pub returns-in-Some-clause-after : goal.returns-in-Some-clause-after
returns-in-Some-clause-after c =
    let d = break_at 0 0 [] in
    let pc = c.args.pc in
    let place = c.in-Some.place in
    let items = c.self.inside.list.items in
    let before = c.self.inside.actions in
    let taken = c.actions_at-self-inside.result in
    let is : c.meet_in.new.list.items ≡ tested pc items = c.meet_in.ensures.list in
    let within : place < length items = omega (arith, c.in-Some.ensures.within, ap length is, tested_length pc items) in
    let there : taken ≡ (get_or (tested pc items) place d).actions =
    c.actions_at-self-inside.ensures d ∙ ap (λ (list : List Break). (get_or list place d).actions) (c.as_slice.ensures.value ∙ is) in
    let stop : Some place ≡ stop_at pc items = c.in-Some.ensures.stop in
    let acts : taken ≡ stopped_actions (stop_at pc items) items before =
    there ∙ stopped_are pc items place d before within ∙ ap (λ (o : Option ℕ). stopped_actions o items before) stop in
    let P : BreakTable → Type 0 = λ t. table c.meet_in.new.list.items taken ≡ after_test pc t in
    subst P c.self.view_is
    (ap (λ (list : List Break). table list taken) is ∙ ap (λ (actions : List ℕ). table (tested pc items) actions) acts)
