use Rattle.std.proofs.Common.{length, ap, sym, ◌∙◌, subst, arith}
use Rattle.session_texts.proofs.ReadingLemmas.{SoFar, spent-more, read-end, read-lf, read-unpaid, read-more, kept-more}
use Rattle.session_texts.proofs.line_reader.LineReader.read_open_line.Goals as goal

pub returns-in_default-next-clause-reads : goal.returns-in_default-next-clause-reads
returns-in_default-next-clause-reads g c = λ told.
    read-end (g.C.Source.left c.args.input.now) (g.C.Source.left c.loop-next.input) (g.C.Source.left c.next_byte.new.input) c.loop-next.self.line c.self-in_default-next.inside.line
    c.loop-next.count c.args.budget.now c.loop-next.budget c.finish.result c.finish.new.self (c.loop-next.invariant.told told)
    (rw c.in_default-next.is at (c.in-Ok.ensures.takes told)) (ap (λ r. r.line) c.self-in_default-next.view_is) c.loop-next.invariant.paid c.finish.ensures.line c.finish.ensures.open_

pub returns-then-not-pay-clause-reads : goal.returns-then-not-pay-clause-reads
returns-then-not-pay-clause-reads g c = λ told.
    let unpaid = c.pay.ensures.unpaid c.if-not-pay.true in
    let read = read-unpaid (g.C.Source.left c.args.input.now) (g.C.Source.left c.loop-next.input) (g.C.Source.left c.next_byte.new.input) c.loop-next.self.line
    c.in-Some.b c.loop-next.count c.args.budget.now c.loop-next.budget (c.loop-next.invariant.told told)
    (rw c.in-Some.is at (c.in-Ok.ensures.takes told)) c.loop-next.invariant.paid unpaid.0 unpaid.1 in
    rw c.loop-next.invariant.on read

pub returns-then-b-eq10-clause-reads : goal.returns-then-b-eq10-clause-reads
returns-then-b-eq10-clause-reads g c = λ told.
    read-lf (g.C.Source.left c.args.input.now) (g.C.Source.left c.loop-next.input) (g.C.Source.left c.next_byte.new.input) c.loop-next.self.line
    c.in-Some.b c.loop-next.count c.args.budget.now c.loop-next.budget c.pay.new.budget c.finish-then-b-eq10.result c.finish-then-b-eq10.new.self (c.loop-next.invariant.told told)
    (rw c.in-Some.is at (c.in-Ok.ensures.takes told)) c.if-b-eq10.true (c.pay.ensures.paid c.if-not-pay.false) c.loop-next.invariant.paid c.finish-then-b-eq10.ensures.line
    (c.finish-then-b-eq10.ensures.open_ ∙ c.loop-next.invariant.on)

pub loop-next-preserved : goal.loop-next-preserved
loop-next-preserved g c =
    let line = ap (λ r. r.line) c.self-in-loop-next.view_is in
    record {
      paid = omega (arith, spent-more c.loop-next.count c.in-Some.b c.if-b-eq10.false, c.pay.ensures.paid c.if-not-pay.false, c.loop-next.invariant.paid);
      on = ap (λ r. r.open_) c.self-in-loop-next.view_is ∙ c.loop-next.invariant.on;
      kept = kept-more c.self-in-loop-next.inside.line c.keep.new.self c.in-Some.b c.loop-next.count (omega (arith, c.loop-next.invariant.kept, ap length line)) c.keep.ensures;
      told = λ told. read-more (g.C.Source.left c.args.input.now) (g.C.Source.left c.loop-next.input) (g.C.Source.left c.next_byte.new.input) c.self-in-loop-next.inside.line c.keep.new.self
          c.in-Some.b c.loop-next.count (subst (λ l. SoFar (g.C.Source.left c.args.input.now) (g.C.Source.left c.loop-next.input) l c.loop-next.count) (sym line) (c.loop-next.invariant.told told)) (rw c.in-Some.is at (c.in-Ok.ensures.takes told)) c.if-b-eq10.false c.keep.ensures;
      quiet = c.in-Ok.ensures.counts ∙ c.loop-next.invariant.quiet;
    }
