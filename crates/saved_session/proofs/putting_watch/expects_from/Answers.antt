use Rattle.std.proofs.lemmas.List.Elements.{All-from_recursion}
use Rattle.saved_session.specs.declared.saved.SavedExpect.{SavedExpect}
use Rattle.saved_session.specs.Parts.{expect_in}
use Rattle.saved_session.specs.Valid.{IsExpect}
use Rattle.saved_session.proofs.PuttingWatchLemmas.{each-expects, expects-end}
use Rattle.saved_session.proofs.putting_watch.expects_from.Goals as goal

pub add_expect-requires-clause-valid : goal.add_expect-requires-clause-valid
add_expect-requires-clause-valid c =
    rw c.entry-item.is (All-from_recursion (λ (e : SavedExpect). IsExpect (expect_in e)) c.args.saved.now
    (each-expects c.args.saved.now c.requires.valid) c.loop-entry.entry-index _ c.loop-entry-test.true)

pub returns : goal.returns
returns c =
    expects-end c.args.saved.now c.loop-entry.entry-index c.args.tail.now c.loop-entry.expects c.set_tail.new.self
    c.loop-entry-test.false c.loop-entry.invariant c.set_tail.ensures
