use Rattle.std.proofs.Common.{◌≡◌, length, sym, arith}
use Rattle.scp_examine.proofs.FaultLemmas.{registers_fault-more, registers_fault-found, registers_fault-all}
use Rattle.scp_examine.proofs.check.registers_value_fault.Goals as goal

pub returns-in-Some : goal.returns-in-Some
returns-in-Some c =
    sym (registers_fault-found c.args.value c.args.registers.now _ _ _ c.loop-register-test.true c.loop-register.invariant (sym c.in-Some.ensures))

pub loop-register-preserved : goal.loop-register-preserved
loop-register-preserved c = registers_fault-more c.args.value c.args.registers.now _ _ c.loop-register-test.true c.loop-register.invariant (sym c.in-None.ensures)

pub returns : goal.returns
returns c =
    let e : c.loop-register.register-index ≡ length c.args.registers.now = omega arith in
    registers_fault-all c.args.value c.args.registers.now _ e c.loop-register.invariant
