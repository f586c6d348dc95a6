use Rattle.std.proofs.Common.{◌<◌, sym, ap, ◌∙◌, arith}
use Rattle.scp_examine.specs.Places.{cells}
use Rattle.scp_examine.specs.Checks.{values_fault}
use Rattle.scp_examine.proofs.FaultLemmas.{words_fault-none, words_fault-code}
use Rattle.scp_examine.proofs.check.words_value_fault.Goals as goal

pub returns-then-count-eq0 : goal.returns-then-count-eq0
returns-then-count-eq0 c = λ from.
    sym (ap (λ n. values_fault c.args.value (cells from n)) c.if-count-eq0.true ∙ words_fault-none c.args.value from)

pub returns-else-count-eq0 : goal.returns-else-count-eq0
returns-else-count-eq0 c = λ from.
    let some : 0 < c.args.count = omega arith in
    words_fault-code c.args.value from c.args.count _ c.out_of_range_unless.ensures some
