use Rattle.std.proofs.Common.{◌≡◌, ◌||◌, Bool, true, false, sym, ◌∙◌, ap}
use Rattle.session_texts.proofs.StackLemmas.{failure-ends, failure-leaves, failure-nil}
use Rattle.session_texts.proofs.script_stack.ScriptStack.fail.Goals as goal
use Rattle.session_texts.proofs.script_stack.ScriptStack.fail.Goals.{then-ends, else-ends}

pub returns-then-not-over : goal.returns-then-not-over
returns-then-not-over c =
    let over : (c.loop-script.ends || c.in-Some.script.strict) ≡ false = elim c.if-ends.branch [
      | then-ends w ↦ absurd (cc (w.over-is, w.if-ends.true, c.if-not-over.true))
      | else-ends w ↦ ap (λ (b : Bool). b || c.in-Some.script.strict) w.if-ends.false ∙ sym w.is_strict-over.ensures ∙ sym w.over-is ∙ c.if-not-over.true
    ] in
    c.push.ensures ∙ sym (failure-leaves c.loop-script.ends c.loop-script.self c.in-Some.script c.pop.new.self c.in-Some.ensures.taken over) ∙ c.loop-script.invariant

pub loop-script-preserved : goal.loop-script-preserved
loop-script-preserved c =
    let over : (c.loop-script.ends || c.in-Some.script.strict) ≡ true = elim c.if-ends.branch [
      | then-ends w ↦ ap (λ (b : Bool). b || c.in-Some.script.strict) w.if-ends.true
      | else-ends w ↦ ap (λ (b : Bool). b || c.in-Some.script.strict) w.if-ends.false ∙ sym w.is_strict-over.ensures ∙ sym w.over-is ∙ c.if-not-over.false
    ] in
    sym (failure-ends c.loop-script.ends c.loop-script.self c.in-Some.script c.pop.new.self c.in-Some.ensures.taken over) ∙ c.loop-script.invariant

pub returns : goal.returns
returns c = c.in_default.ensures.taken.1 ∙ sym (failure-nil c.loop-script.ends c.loop-script.self c.in_default.ensures.taken.0) ∙ c.loop-script.invariant
