use Rattle.std.proofs.Common.{◌≡◌, ◌-◌, ◌∙◌, length, drop, min, arith, length-take, length-drop}
use Rattle.simh_tape.proofs.ReadLemmas.{read_more, put-length}
use Rattle.simh_tape.proofs.words.read_all.Goals as goal

pub loop-have-preserved : goal.loop-have-preserved
loop-have-preserved g c =
    let l = c.loop-have in
    let rest = length l.buf - l.have in
    let new : length c.read_at.new.buf ≡ min rest (length l.buf - l.have) =
    c.read_at.auto.buf ∙ omega (arith, length-take rest (drop l.have l.buf), length-drop l.have l.buf) in
    let whole = put-length l.buf c.read_at.new.buf l.have rest l.invariant.within new in
    record {
      within = omega (arith, whole, c.in_ok-count.ensures.bound);
      end = omega (arith, c.in_ok-count.ensures.end, l.invariant.end);
      room = λ tells.
          let reads = rw (l.invariant.same) at (c.in_ok-count.ensures.reads tells) in
          omega (arith, reads.0, l.invariant.room tells);
      read = λ tells.
          let reads = rw (l.invariant.same) at (c.in_ok-count.ensures.reads tells) in
          read_more l.buf c.read_at.new.buf _ c.args.place l.have c.in_ok-count.count rest l.invariant.within
          c.in_ok-count.ensures.bound (l.invariant.read tells) reads.1;
      same = c.read_at.ensures.same ∙ l.invariant.same;
      writable = c.read_at.ensures.writable ∙ l.invariant.writable;
      behind = c.read_at.ensures.behind ∙ l.invariant.behind;
      quiet = c.in_ok-count.ensures.counts ∙ l.invariant.quiet;
    }
