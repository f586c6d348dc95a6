use Rattle.std.proofs.lemmas.List.Elements.{All-from_recursion}
use Rattle.saved_session.proofs.PuttingWatchLemmas.{CanBreak, each-breaks, break-more, breaks-end}
use Rattle.saved_session.proofs.putting_watch.breaks_from.Goals as goal

pub add_break-requires-clause-address : goal.add_break-requires-clause-address
add_break-requires-clause-address c =
    let can : CanBreak c.entry-item.result = rw c.entry-item.is (All-from_recursion CanBreak c.args.saved.now
    (each-breaks 0 c.args.saved.now c.requires.valid) c.loop-entry.entry-index _ c.loop-entry-test.true) in
    can.address

pub add_break-requires-clause-short : goal.add_break-requires-clause-short
add_break-requires-clause-short c =
    let can : CanBreak c.entry-item.result = rw c.entry-item.is (All-from_recursion CanBreak c.args.saved.now
    (each-breaks 0 c.args.saved.now c.requires.valid) c.loop-entry.entry-index _ c.loop-entry-test.true) in
    can.short

pub loop-entry-preserved : goal.loop-entry-preserved
loop-entry-preserved c =
    break-more c.args.saved.now c.loop-entry.entry-index c.entry-item.result c.loop-entry.breaks c.add_break.new.breaks
    c.loop-entry-test.true c.entry-item.is c.requires.valid c.in_ok-add_break.ensures c.loop-entry.invariant

pub returns : goal.returns
returns c =
    breaks-end c.args.saved.now c.loop-entry.entry-index c.loop-entry.breaks c.loop-entry-test.false
    c.loop-entry.invariant
