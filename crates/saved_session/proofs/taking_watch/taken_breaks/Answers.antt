use Rattle.std.proofs.Common.{◌<◌, ◌^◌, length, ap, arith}
use Rattle.expect_actions.specs.Breaks.{break_at}
use Rattle.saved_session.specs.Parts.{BreakPart, break_in}
use Rattle.saved_session.specs.SavedWatch.{saved_break}
use Rattle.saved_session.proofs.TakenLists.{takes, fits-behind}
use Rattle.saved_session.proofs.taking_watch.taken_breaks.Goals as goal

pub loop-k-preserved : goal.loop-k-preserved
loop-k-preserved c =
    let found = c.in-Some.found in
    let y = c.in_ok-saved_break-in-Some.field-0 in
    let pushed = c.in_ok-push-in-Some.ensures.items in
    let same = c.in_ok-saved_break-in-Some.ensures in
    let size = ap (λ (b : BreakPart). length b.actions) same in
    let short = c.in-Some.ensures.short in (
      takes break_in saved_break c.loop-k.taken.items y c.push.new.self.items c.args.breaks.now.list c.loop-k.k
          (break_at found.0 found.1 found.2.now) c.loop-k.invariant.0 c.in-Some.ensures.entry same pushed,
      fits-behind break_in (λ (b : BreakPart). length b.actions < 2 ^ 16) c.loop-k.taken.items y c.push.new.self.items
          c.loop-k.invariant.1 (omega (arith, size, short)) pushed,
    )
