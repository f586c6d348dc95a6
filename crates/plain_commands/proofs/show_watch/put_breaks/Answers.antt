use Rattle.std.proofs.Common.{◌≡◌, slice_get, Some, ◌++◌, refl, ◌∙◌, rules}
use Rattle.file_traits.specs.Streams.{AddsPart}
use Rattle.std.proofs.lemmas.Result.{err_from_is_err_and}
use Rattle.expect_actions.specs.declared.breaks.Break.{Break}
use Rattle.expect_actions.specs.Breaks.{break_at}
use Rattle.plain_commands.specs.WatchTexts.{break_line, breaks_text}
use Rattle.plain_commands.proofs.PrintedLemmas.{lines-begin, lines-next, lines-part}
use Rattle.plain_commands.proofs.WatchLines.{breaks-are-lines}
use Rattle.plain_commands.proofs.show_watch.put_breaks.Goals as goal

pub loop-k-init : goal.loop-k-init
loop-k-init g c = record {
  written = λ told. lines-begin break_line breaks_text breaks-are-lines (g.S.Sink.written c.args.out.now);
  quiet = refl;
}

pub loop-k-preserved : goal.loop-k-preserved
loop-k-preserved g c =
    let x : Break = break_at c.in-Some.at c.in-Some.count c.in-Some.actions.now in
    let is : slice_get c.args.breaks.now.list c.loop-k.k ≡ Some x = search rules in
    record {
      written = λ told.
          let said : g.S.Sink.written c.put_break.new.out ≡ g.S.Sink.written c.loop-k.out ++ break_line x =
          search rules in
          lines-next break_line breaks_text breaks-are-lines c.args.breaks.now.list c.loop-k.k x (g.S.Sink.written c.args.out.now) (g.S.Sink.written c.loop-k.out)
          (g.S.Sink.written c.put_break.new.out) is (c.loop-k.invariant.written told) said;
      quiet = c.in_ok-put_break-in-Some.ensures.counts ∙ c.loop-k.invariant.quiet;
    }

pub returns-in_err-put_break-in-Some-clause-told : goal.returns-in_err-put_break-in-Some-clause-told
returns-in_err-put_break-in-Some-clause-told g c = λ told.
    let p = err_from_is_err_and c.from_residual.result c.from_residual.ensures.1 in
    let x : Break = break_at c.in-Some.at c.in-Some.count c.in-Some.actions.now in
    let is : slice_get c.args.breaks.now.list c.loop-k.k ≡ Some x = search rules in
    let before = g.S.Sink.written c.loop-k.out in
    let after = g.S.Sink.written c.put_break.new.out in
    let part : AddsPart before (break_line x) after = search rules in
    rw p.1
    (lines-part break_line breaks_text breaks-are-lines c.args.breaks.now.list c.loop-k.k x (g.S.Sink.written c.args.out.now) before after is (c.loop-k.invariant.written told)
    part)
