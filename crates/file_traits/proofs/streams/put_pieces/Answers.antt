use Rattle.std.proofs.Common.{◌∙◌, Ok, Err}
use Rattle.std.proofs.lemmas.Result.{err_from_is_err_and}
use Rattle.file_traits.proofs.PutLemmas.{pieces-more, pieces-part, pieces-none}
use Rattle.file_traits.proofs.streams.put_pieces.Goals as goal

pub loop-piece-preserved : goal.loop-piece-preserved
loop-piece-preserved g c = record {
  told = λ tells r after rest. c.loop-piece.invariant.told tells r after
      (pieces-more c.args.pieces.now c.loop-piece.piece-index _ (g.S.Sink.written c.loop-piece.sink) (g.S.Sink.written c.put_all.new.sink) r after
      c.loop-piece-test.true (c.in_ok-put_all.ensures.all tells) rest);
  quiet = c.in_ok-put_all.ensures.counts ∙ c.loop-piece.invariant.quiet;
}

pub returns-clause-told : goal.returns-clause-told
returns-clause-told g c = λ tells.
    c.loop-piece.invariant.told tells (Ok tt) (g.S.Sink.written c.loop-piece.sink)
    (pieces-none c.args.pieces.now c.loop-piece.piece-index (g.S.Sink.written c.loop-piece.sink) c.loop-piece-test.false)

pub returns-in_err-put_all-clause-told : goal.returns-in_err-put_all-clause-told
returns-in_err-put_all-clause-told g c = λ tells.
    let part = pieces-part c.args.pieces.now c.loop-piece.piece-index _ (g.S.Sink.written c.loop-piece.sink) (g.S.Sink.written c.put_all.new.sink)
    c.loop-piece-test.true (c.in_err-put_all.ensures.part tells) in
    let failed = err_from_is_err_and c.from_residual.result c.from_residual.ensures.1 in
    rw failed.1 (c.loop-piece.invariant.told tells (Err failed.0) (g.S.Sink.written c.put_all.new.sink) part)
