use Rattle.std.proofs.Common.{◌-◌, ◌+◌, ◌∙◌, arith}
use Rattle.simh_tape.proofs.SpaceLemmas.{made_further, space_block, space_mark, space_medium, space_load_point, space_fault, space_done}
use Rattle.simh_tape.proofs.spacing.space.Goals as goal

pub loop-passed-preserved : goal.loop-passed-preserved
loop-passed-preserved g c =
    let l = c.loop-passed in
    let says = c.in-Ok-Block.ensures in
    record {
      within = omega (arith, (rw c.in-Ok-Block.field-0-is at says.bound).4);
      few = omega arith;
      spaced = λ tells.
          space_block (c.args.count - l.passed) (c.args.count - (l.passed + 1)) c.args.forward _ l.at l.passed _ _ _ _
          c.in-Ok-Block.behind _ (omega arith) c.in-Ok-Block.field-0-is (rw l.invariant.same at (says.item tells))
          (l.invariant.spaced tells);
      made = λ tells.
          made_further c.args.forward _ c.args.place l.at _ _ _ _ c.in-Ok-Block.behind c.in-Ok-Block.field-0-is
          (rw l.invariant.same at (says.item tells)) (l.invariant.made tells);
      same = says.same ∙ l.invariant.same;
      writable = says.writable ∙ l.invariant.writable;
      behind = says.behind ∙ l.invariant.behind;
      quiet = says.counts ∙ l.invariant.quiet;
    }

pub returns-in-Ok-Mark-clause-spaced : goal.returns-in-Ok-Mark-clause-spaced
returns-in-Ok-Mark-clause-spaced g c = λ tells.
    let l = c.loop-passed in
    let arm = c.in-Ok-Mark in
    space_mark (c.args.count - l.passed) (c.args.count - (l.passed + 1)) c.args.forward _ l.at l.passed _ arm.behind _
    (omega arith) arm.field-0-is (rw l.invariant.same at (arm.ensures.item tells)) (l.invariant.spaced tells)

pub returns-in-Ok-EndOfMedium-clause-spaced : goal.returns-in-Ok-EndOfMedium-clause-spaced
returns-in-Ok-EndOfMedium-clause-spaced g c = λ tells.
    let l = c.loop-passed in
    let arm = c.in-Ok-EndOfMedium in
    space_medium (c.args.count - l.passed) (c.args.count - (l.passed + 1)) c.args.forward _ l.at l.passed _ _
    (omega arith) arm.field-0-is (rw l.invariant.same at (arm.ensures.item tells)) (l.invariant.spaced tells)

pub returns-in-Ok-LoadPoint-clause-spaced : goal.returns-in-Ok-LoadPoint-clause-spaced
returns-in-Ok-LoadPoint-clause-spaced g c = λ tells.
    let l = c.loop-passed in
    let arm = c.in-Ok-LoadPoint in
    space_load_point (c.args.count - l.passed) (c.args.count - (l.passed + 1)) c.args.forward _ l.at l.passed _ _
    (omega arith) arm.field-0-is (rw l.invariant.same at (arm.ensures.item tells)) (l.invariant.spaced tells)

pub returns-in-Err-clause-spaced : goal.returns-in-Err-clause-spaced
returns-in-Err-clause-spaced g c = λ tells.
    let l = c.loop-passed in
    let arm = c.in-Err in
    space_fault (c.args.count - l.passed) (c.args.count - (l.passed + 1)) c.args.forward _ l.at l.passed arm.fault
    c.args.place c.args.count (omega arith) (omega arith) (l.invariant.made tells) (rw l.invariant.same at (arm.ensures.item tells))
    (l.invariant.spaced tells)

pub returns-clause-spaced : goal.returns-clause-spaced
returns-clause-spaced g c = λ tells.
    let l = c.loop-passed in
    space_done (c.args.count - l.passed) c.args.forward _ l.at l.passed _ (omega arith) (l.invariant.spaced tells)
