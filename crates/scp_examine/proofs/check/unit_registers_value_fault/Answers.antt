use Rattle.std.proofs.Common.{◌≡◌, ap, sym, ◌∙◌, arith}
use Rattle.scp_examine.specs.Places.{unit_registers}
use Rattle.scp_examine.specs.Checks.{values_fault}
use Rattle.scp_examine.proofs.FaultLemmas.{unit_fault-none, unit_fault-more, unit_fault-found}
use Rattle.scp_examine.proofs.check.unit_registers_value_fault.Goals as goal

pub loop-number-init : goal.loop-number-init
loop-number-init c = unit_fault-none c.args.value c.args.kind

pub loop-number-preserved : goal.loop-number-preserved
loop-number-preserved c = unit_fault-more c.args.value c.args.kind c.loop-number.number c.loop-number.invariant (sym c.in-None.ensures)

pub returns-in-Some : goal.returns-in-Some
returns-in-Some c =
    sym (unit_fault-found c.args.value c.args.kind c.args.count c.loop-number.number _ c.loop-number-test.true c.loop-number.invariant (sym c.in-Some.ensures))

pub returns : goal.returns
returns c =
    let e : c.args.count ≡ c.loop-number.number = omega arith in
    sym (ap (λ n. values_fault c.args.value (unit_registers c.args.kind n)) e ∙ c.loop-number.invariant)
