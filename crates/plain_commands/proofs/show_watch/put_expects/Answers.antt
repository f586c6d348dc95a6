use Rattle.std.proofs.Common.{◌≡◌, slice_get, Some, refl, ◌∙◌, rules}
use Rattle.std.proofs.lemmas.Result.{err_from_is_err_and}
use Rattle.expect_actions.specs.declared.expects.Expect.{Expect}
use Rattle.expect_actions.specs.Expects.{expect_of}
use Rattle.plain_commands.specs.WatchTexts.{expect_line, expects_text}
use Rattle.plain_commands.proofs.PrintedLemmas.{lines-begin, lines-next, lines-part}
use Rattle.plain_commands.proofs.WatchLines.{expects-are-lines}
use Rattle.plain_commands.proofs.show_watch.put_expects.Goals as goal

pub loop-k-init : goal.loop-k-init
loop-k-init g c = record {
  written = λ told. lines-begin expect_line expects_text expects-are-lines (g.S.Sink.written c.args.out.now);
  quiet = refl;
}

pub loop-k-preserved : goal.loop-k-preserved
loop-k-preserved g c =
    let x : Expect = expect_of c.in-Some.count c.in-Some.text.now c.in-Some.actions.now in
    let is : slice_get c.args.expects.now.list c.loop-k.k ≡ Some x = search rules in
    record {
      written = λ told.
          lines-next expect_line expects_text expects-are-lines c.args.expects.now.list c.loop-k.k x (g.S.Sink.written c.args.out.now) (g.S.Sink.written c.loop-k.out)
          (g.S.Sink.written c.put_expect.new.out) is (c.loop-k.invariant.written told) (c.in_ok-put_expect-in-Some.ensures.told told);
      quiet = c.in_ok-put_expect-in-Some.ensures.counts ∙ c.loop-k.invariant.quiet;
    }

pub returns-in_err-put_expect-in-Some-clause-told : goal.returns-in_err-put_expect-in-Some-clause-told
returns-in_err-put_expect-in-Some-clause-told g c = λ told.
    let p = err_from_is_err_and c.from_residual.result c.from_residual.ensures.1 in
    let x : Expect = expect_of c.in-Some.count c.in-Some.text.now c.in-Some.actions.now in
    let is : slice_get c.args.expects.now.list c.loop-k.k ≡ Some x = search rules in
    rw p.1
    (lines-part expect_line expects_text expects-are-lines c.args.expects.now.list c.loop-k.k x (g.S.Sink.written c.args.out.now) (g.S.Sink.written c.loop-k.out)
    (g.S.Sink.written c.put_expect.new.out) is (c.loop-k.invariant.written told) (c.in_err-put_expect-in-Some.ensures.told told))
