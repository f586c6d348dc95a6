use Rattle.std.proofs.Common.{length, ap, arith}
use Rattle.expect_actions.specs.Expects.{expect_of}
use Rattle.saved_session.specs.Parts.{ExpectPart, expect_in}
use Rattle.saved_session.specs.SavedWatch.{saved_expect}
use Rattle.saved_session.specs.Valid.{ExpectFits}
use Rattle.saved_session.proofs.TakenLists.{takes, fits-behind}
use Rattle.saved_session.proofs.taking_watch.taken_expects.Goals as goal

pub loop-k-preserved : goal.loop-k-preserved
loop-k-preserved c =
    let y = c.in_ok-saved_expect-in-Some.field-0 in
    let pushed = c.in_ok-push-in-Some.ensures.items in
    let same = c.in_ok-saved_expect-in-Some.ensures in
    let text = ap (λ (e : ExpectPart). length e.text) same in
    let actions = ap (λ (e : ExpectPart). length e.actions) same in
    let short = c.in-Some.ensures.short in
    let few = c.in-Some.ensures.actions in (
      takes expect_in saved_expect c.loop-k.taken.items y c.push.new.self.items c.args.expects.now.list c.loop-k.k
          (expect_of c.in-Some.count c.in-Some.text.now c.in-Some.actions.now) c.loop-k.invariant.0 c.in-Some.ensures.entry
          same pushed,
      fits-behind expect_in ExpectFits c.loop-k.taken.items y c.push.new.self.items c.loop-k.invariant.1
          (omega (arith, text, short), omega (arith, actions, few)) pushed,
    )
