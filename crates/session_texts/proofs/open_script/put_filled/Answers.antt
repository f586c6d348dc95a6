use Rattle.std.proofs.Common.{arith, length-drop, ◌∙◌, Ok, Err}
use Rattle.std.proofs.lemmas.List.{take_rest}
use Rattle.std.proofs.lemmas.Result.{err_from_is_err_and}
use Rattle.session_texts.proofs.EchoLemmas.{filled-more, filled-part, filled-end}
use Rattle.session_texts.proofs.open_script.put_filled.Goals as goal

pub loop-place-preserved : goal.loop-place-preserved
loop-place-preserved g c =
    let rest = take_rest c.args.line.now c.loop-place.place in
    let width = rw rest at c.piece_at-width.ensures.within in
    let first = rw rest at c.piece_at-width.ensures.piece in record {
      within = omega (arith, length-drop c.loop-place.place c.args.line.now, width, c.loop-place-test.true);
      told = λ tells r after rest. c.loop-place.invariant.told tells r after
          (filled-more c.args.arguments.now c.args.line.now c.piece_at-width.result.0.now c.loop-place.place c.piece_at-width.result.1 (g.S.Sink.written c.loop-place.out)
          (g.S.Sink.written c.put_all.new.sink) r after first (c.in_ok-put_all.ensures.all tells) rest);
      quiet = c.in_ok-put_all.ensures.counts ∙ c.loop-place.invariant.quiet;
    }

pub returns-clause-told : goal.returns-clause-told
returns-clause-told g c = λ tells.
    c.loop-place.invariant.told tells (Ok tt) (g.S.Sink.written c.loop-place.out)
    (filled-end c.args.arguments.now c.args.line.now c.loop-place.place (g.S.Sink.written c.loop-place.out) c.loop-place-test.false)

pub returns-in_err-put_all-clause-told : goal.returns-in_err-put_all-clause-told
returns-in_err-put_all-clause-told g c = λ tells.
    let first = rw (take_rest c.args.line.now c.loop-place.place) at c.piece_at-width.ensures.piece in
    let part = filled-part c.args.arguments.now c.args.line.now c.piece_at-width.result.0.now c.loop-place.place c.piece_at-width.result.1 (g.S.Sink.written c.loop-place.out)
    (g.S.Sink.written c.put_all.new.sink) first (c.in_err-put_all.ensures.part tells) in
    let failed = err_from_is_err_and c.from_residual.result c.from_residual.ensures.1 in
    rw failed.1 (c.loop-place.invariant.told tells (Err failed.0) (g.S.Sink.written c.put_all.new.sink) part)
