use Rattle.std.proofs.Common.{sym, ◌∙◌, arith, ◌+◌}
use Rattle.std.proofs.lemmas.List.{take_all, drop_all, take_rest}
use Rattle.expect_actions.proofs.SplitLemmas.{line_at, behind_at, line_alone, nothing_behind}
use Rattle.expect_actions.proofs.keys_lines.split_line.Goals as goal

pub returns-in-Some-clause-line : goal.returns-in-Some-clause-line
returns-in-Some-clause-line c = line_at c.args.text.now c.in-Some.place (sym c.in-Some.ensures)

pub returns-in-Some-clause-behind : goal.returns-in-Some-clause-behind
returns-in-Some-clause-behind c =
    take_rest c.args.text.now (c.in-Some.place + 1) ∙ behind_at c.args.text.now c.in-Some.place (sym c.in-Some.ensures)

pub returns-in-None-clause-line : goal.returns-in-None-clause-line
returns-in-None-clause-line c = c.split_at.ensures.front ∙ take_all _ c.args.text.now (omega arith)
    ∙ line_alone c.args.text.now (sym c.in-None.ensures)

pub returns-in-None-clause-behind : goal.returns-in-None-clause-behind
returns-in-None-clause-behind c = c.split_at.ensures.back ∙ drop_all _ c.args.text.now (omega arith)
    ∙ nothing_behind c.args.text.now (sym c.in-None.ensures)
