use Rattle.std.proofs.Common.{◌+◌, ◌∷◌, [], refl, ap, ◌∙◌}
use Rattle.std.proofs.lemmas.Result.{err_from_is_err_and}
use Rattle.scp_examine.specs.Places.{Cell, cells}
use Rattle.scp_examine.specs.Effect.{listed}
use Rattle.scp_examine.proofs.ShowLemmas.{nothing_yet, listed-none, numbered-none, numbered-more, numbered_rest, listed_more, listed_part}
use Rattle.scp_examine.proofs.show.show_cells.Goals as goal

pub loop-i-init : goal.loop-i-init
loop-i-init g c = record {
  written = λ told. nothing_yet (g.S.Sink.written c.args.out.now) _ (ap (λ ps. listed c.args.machine.now c.args.symbolic c.args.condition ps) (numbered-none Cell c.args.from) ∙ listed-none c.args.machine.now c.args.symbolic c.args.condition);
  quiet = refl;
}

pub loop-i-preserved : goal.loop-i-preserved
loop-i-preserved g c = record {
  written = λ told.
      listed_more c.args.machine.now c.args.symbolic c.args.condition (g.S.Sink.written c.args.out.now) (g.S.Sink.written c.loop-i.out) (g.S.Sink.written c.show_cell.new.out)
      (cells c.args.from c.loop-i.i) (Cell (c.args.from + c.loop-i.i) ∷ []) (cells c.args.from (c.loop-i.i + 1))
      (numbered-more Cell c.args.from c.loop-i.i (c.args.from + c.loop-i.i) refl) (c.loop-i.invariant.written told) (c.in_ok-show_cell.ensures.told told);
  quiet = c.in_ok-show_cell.ensures.counts ∙ c.loop-i.invariant.quiet;
}

pub returns-in_err-show_cell-clause-told : goal.returns-in_err-show_cell-clause-told
returns-in_err-show_cell-clause-told g c = λ told.
    let p = err_from_is_err_and c.from_residual.result c.from_residual.ensures.1 in
    rw p.1 (
    listed_part c.args.machine.now c.args.symbolic c.args.condition (g.S.Sink.written c.args.out.now) (g.S.Sink.written c.loop-i.out) (g.S.Sink.written c.show_cell.new.out)
    (cells c.args.from c.loop-i.i) (Cell (c.args.from + c.loop-i.i) ∷ []) (cells c.args.from c.args.count)
    (numbered_rest Cell c.args.from c.args.count c.loop-i.i (c.args.from + c.loop-i.i) c.loop-i-test.true refl) (c.loop-i.invariant.written told) (c.in_err-show_cell.ensures.told told)
    )
