use Rattle.std.proofs.Common.{rules, arith, length, length-set, [], ◌≡◌, Some, sym, ap, ◌∙◌, get_or}
use Rattle.std.specs.List.{position}
use Rattle.expect_actions.specs.Breaks.{is_at, break_at, lowered}
use Rattle.expect_actions.proofs.BreakLemmas.{Met, met_at, no_place, stop_none, tested_none, no_stop, one_stop}
use Rattle.expect_actions.proofs.breaks.meet_in.Goals as goal

pub returns-in-None-clause-stop : goal.returns-in-None-clause-stop
returns-in-None-clause-stop c =
    sym (stop_none c.args.pc c.args.list.now.items (no_place (is_at c.args.pc) c.args.list.now.items (search rules)))

pub returns-in-None-clause-list : goal.returns-in-None-clause-list
returns-in-None-clause-list c =
    sym (tested_none c.args.pc c.args.list.now.items (no_place (is_at c.args.pc) c.args.list.now.items (search rules)))

pub returns-then-lower-clause-stop : goal.returns-then-lower-clause-stop
returns-then-lower-clause-stop c =
    let d = break_at 0 0 [] in
    let list = c.args.list.now.items in
    let at : position (is_at c.args.pc) list ≡ Some c.in-Some.place = search rules in
    no_stop c.args.pc list c.in-Some.place d c.lower.result (met_at c.args.pc list c.in-Some.place d c.requires at) (c.lower.ensures.above d) c.if-lower.true

pub returns-then-lower-clause-list : goal.returns-then-lower-clause-list
returns-then-lower-clause-list c =
    let d = break_at 0 0 [] in
    let list = c.args.list.now.items in
    let at : position (is_at c.args.pc) list ≡ Some c.in-Some.place = search rules in
    let met : Met c.args.pc list c.in-Some.place d = met_at c.args.pc list c.in-Some.place d c.requires at in
    c.lower.ensures.list d ∙ sym met.after

pub returns-else-lower-clause-stop : goal.returns-else-lower-clause-stop
returns-else-lower-clause-stop c =
    let d = break_at 0 0 [] in
    let list = c.args.list.now.items in
    let at : position (is_at c.args.pc) list ≡ Some c.in-Some.place = search rules in
    one_stop c.args.pc list c.in-Some.place d c.lower.result (met_at c.args.pc list c.in-Some.place d c.requires at) (c.lower.ensures.above d) c.if-lower.false

pub returns-else-lower-clause-list : goal.returns-else-lower-clause-list
returns-else-lower-clause-list c =
    let d = break_at 0 0 [] in
    let list = c.args.list.now.items in
    let at : position (is_at c.args.pc) list ≡ Some c.in-Some.place = search rules in
    let met : Met c.args.pc list c.in-Some.place d = met_at c.args.pc list c.in-Some.place d c.requires at in
    c.lower.ensures.list d ∙ sym met.after

pub returns-else-lower-clause-within : goal.returns-else-lower-clause-within
returns-else-lower-clause-within c =
    let d = break_at 0 0 [] in
    let list = c.args.list.now.items in
    let at : position (is_at c.args.pc) list ≡ Some c.in-Some.place = search rules in
    let met : Met c.args.pc list c.in-Some.place d = met_at c.args.pc list c.in-Some.place d c.requires at in
    omega (arith, met.within, ap length (c.lower.ensures.list d), length-set list c.in-Some.place (lowered (get_or list c.in-Some.place d)))
