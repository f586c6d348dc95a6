use Rattle.std.proofs.Common.{sym, ◌∙◌, arith}
use Rattle.scp_examine.proofs.UnitLemmas.{register_count-found, register_count-more, few_registers}
use Rattle.scp_examine.proofs.registers.register_count.Goals as goal

pub returns-then-not-has_unit_register : goal.returns-then-not-has_unit_register
returns-then-not-has_unit_register c =
    register_count-found c.args.kind c.loop-number.number c.loop-number.invariant (sym c.has_unit_register.ensures ∙ c.if-not-has_unit_register.true)

pub loop-number-preserved : goal.loop-number-preserved
loop-number-preserved c =
    register_count-more c.args.kind c.loop-number.number (sym c.has_unit_register.ensures ∙ c.if-not-has_unit_register.false)

pub returns : goal.returns
returns c =
    let most = few_registers c.args.kind in
    absurd (omega (arith, most, c.loop-number.invariant, c.loop-number-test.false))
