use Rattle.std.proofs.Common.{arith, length-drop, append_assoc}
use Rattle.std.proofs.Math.Seq.{take-add}
use Rattle.std.proofs.lemmas.List.{take_rest}
use Rattle.file_traits.proofs.streams.put_all.Goals as goal

pub loop-done-preserved : goal.loop-done-preserved
loop-done-preserved g c = record {
  within = omega (arith, length-drop c.loop-done.done c.args.bytes.now, c.in_ok-count.ensures.takes);
  added = λ told.
      rw (
        c.in_ok-count.ensures.adds told,
        c.loop-done.invariant.added told,
        append_assoc,
        take-add c.loop-done.done c.in_ok-count.count c.args.bytes.now,
        take_rest c.args.bytes.now c.loop-done.done,
      );
  quiet = omega (arith, c.loop-done.invariant.quiet, c.in_ok-count.ensures.counts);
}
