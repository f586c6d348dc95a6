use Rattle.std.proofs.Common.{length, sym, ap, ◌∙◌, arith}
use Rattle.expect_actions.proofs.BreakLemmas.{fewer, all_kept}
use Rattle.expect_actions.proofs.breaks.make_room.Goals as goal

pub returns-then-there-clause-room : goal.returns-then-there-clause-room
returns-then-there-clause-room c =
    let less = fewer c.args.at c.args.list.now.items (sym c.requires.there ∙ c.if-there.true) in
    omega (arith, less, c.take_out.new.list.ok.0, ap length c.take_out.ensures.rest, c.args.list.now.ok.0, c.args.list.now.ok.1, c.take_out.ensures.capacity)

pub returns-then-there-clause-few : goal.returns-then-there-clause-few
returns-then-there-clause-few c =
    let less = fewer c.args.at c.args.list.now.items (sym c.requires.there ∙ c.if-there.true) in
    omega (arith, less, ap length c.take_out.ensures.rest, c.requires.few)

pub returns-clause-rest : goal.returns-clause-rest
returns-clause-rest c = c.reserve.ensures.items ∙ sym (all_kept c.args.at c.args.list.now.items (sym c.requires.there ∙ c.if-there.false))
