use Rattle.std.proofs.Common.{sym, ◌∙◌}
use Rattle.session_texts.proofs.StackLemmas.{still-none as still-nil, still-closed, still-kept}
use Rattle.session_texts.proofs.script_stack.ScriptStack.pop_open.Goals as goal

pub returns-then-has_line-clause-taken : goal.returns-then-has_line-clause-taken
returns-then-has_line-clause-taken c =
    sym c.loop-script.invariant
    ∙ still-kept c.loop-script.self c.in-Some.script c.pop.new.self c.in-Some.ensures.taken (sym c.has_line.ensures ∙ c.if-has_line.true)

pub loop-script-preserved : goal.loop-script-preserved
loop-script-preserved c =
    sym (still-closed c.loop-script.self c.in-Some.script c.pop.new.self c.in-Some.ensures.taken (sym c.has_line.ensures ∙ c.if-has_line.false))
    ∙ c.loop-script.invariant

pub returns-clause-taken : goal.returns-clause-taken
returns-clause-taken c = (sym c.loop-script.invariant ∙ still-nil c.loop-script.self c.in_default.ensures.taken.0, c.in_default.ensures.taken.1)
