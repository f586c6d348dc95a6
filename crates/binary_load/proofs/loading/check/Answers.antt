use Rattle.std.proofs.Common.{length, refl}
use Rattle.binary_load.proofs.ReadingLemmas.{found_passed, passed_within, found_start, found_end}
use Rattle.binary_load.proofs.ReadingLemmas.{answer_behind, answer_end, answer_fault, left_within, left_whole, left_place}
use Rattle.binary_load.proofs.loading.check.Goals as goal

pub loop-passed-preserved : goal.loop-passed-preserved
loop-passed-preserved c =
    let rest = c.loop-passed.rest.now in
    let passed = c.in-Ok-Passed.passed in
    let within = c.loop-passed.invariant.within in
    let item = found_passed rest _ _ passed _ c.in-Ok-Passed.field-0-is c.in-Ok-Passed.ensures.item in
    let here = passed_within c.args.size rest _ _ passed c.in-Ok-Passed.field-0-is c.in-Ok-Passed.ensures.within in
    record {
      within = left_within (length c.args.bytes.now) _ passed rest within;
      answers = answer_behind c.args.size _ _ passed rest _ _ _ item
          (left_whole _ passed rest refl)
          (left_place (length c.args.bytes.now) _ passed rest refl within here)
          c.loop-passed.invariant.answers;
    }

pub returns-in-Ok-Start : goal.returns-in-Ok-Start
returns-in-Ok-Start c =
    let rest = c.loop-passed.rest.now in
    let item = found_start rest _ c.in-Ok-Start.origin _ c.in-Ok-Start.field-0-is c.in-Ok-Start.ensures.item in
    answer_end c.args.size _ rest _ c.start_at.result _ item c.loop-passed.invariant.answers c.start_at.ensures

pub returns-in-Ok-End : goal.returns-in-Ok-End
returns-in-Ok-End c =
    let rest = c.loop-passed.rest.now in
    let item = found_end rest _ _ c.in-Ok-End.field-0-is c.in-Ok-End.ensures.item in
    answer_end c.args.size _ rest _ _ _ item c.loop-passed.invariant.answers refl

pub returns-in-Err : goal.returns-in-Err
returns-in-Err c =
    answer_fault c.args.size _ c.loop-passed.rest.now c.in-Err.fault _ c.in-Err.ensures.item c.loop-passed.invariant.answers
