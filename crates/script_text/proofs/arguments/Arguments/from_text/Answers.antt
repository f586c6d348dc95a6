use Rattle.std.proofs.Common.{arith}
use Rattle.script_text.proofs.WordLemmas.{splits_start, splits_step, splits_nearer, splits_all, splits_full}
use Rattle.script_text.proofs.WordLemmas.{some_from_test, none_from_test}
use Rattle.script_text.proofs.arguments.Arguments.from_text.Goals as goal
use Rattle.script_text.proofs.arguments.Arguments.from_text.Goals.{then-loop-arguments-test+else-len-lt-MOST}
use Rattle.script_text.proofs.arguments.Arguments.from_text.Goals.{else-loop-arguments-test}

pub loop-arguments-init : goal.loop-arguments-init
loop-arguments-init c =
    splits_start c.args.name.now c.args.text.now c.new-arguments.result c.push.new.self c.past_blanks-rest.result.now
    c.new-arguments.ensures c.in_ok-push.ensures.ok c.past_blanks-rest.ensures

pub loop-arguments-smaller : goal.loop-arguments-smaller
loop-arguments-smaller c =
    let rest = c.loop-arguments.rest.now in
    splits_nearer c.args.name.now c.args.text.now c.loop-arguments.arguments rest c.word_at.result.0.now
    c.word_at.result.1.now c.past_blanks-rest-in-loop-arguments.result.now c.loop-arguments.invariant
    (some_from_test rest c.is_empty.result c.is_empty.ensures c.loop-arguments-test.true) c.word_at.ensures
    c.past_blanks-rest-in-loop-arguments.ensures

pub loop-arguments-preserved : goal.loop-arguments-preserved
loop-arguments-preserved c =
    let rest = c.loop-arguments.rest.now in
    splits_step c.args.name.now c.args.text.now c.loop-arguments.arguments c.push-in-loop-arguments.new.self rest
    c.word_at.result.0.now c.word_at.result.1.now c.past_blanks-rest-in-loop-arguments.result.now
    c.loop-arguments.invariant (some_from_test rest c.is_empty.result c.is_empty.ensures c.loop-arguments-test.true)
    (omega (arith, c.len.ensures.length, c.if-len-lt-MOST.true)) c.word_at.ensures c.in_ok-push-2.ensures.ok
    c.past_blanks-rest-in-loop-arguments.ensures

pub returns : goal.returns
returns c =
    let name = c.args.name.now in
    let text = c.args.text.now in
    let rest = c.loop-arguments.rest.now in
    elim c.loop-arguments-test.branch [
      | then-loop-arguments-test+else-len-lt-MOST w ↦
          splits_full name text c.loop-arguments.arguments rest c.loop-arguments.invariant
          (omega (arith, w.len.ensures.length, w.len.ensures.most))
      | else-loop-arguments-test w ↦
          splits_all name text c.loop-arguments.arguments rest c.loop-arguments.invariant
          (none_from_test rest c.is_empty.result c.is_empty.ensures w.loop-arguments-test.false)
    ]
