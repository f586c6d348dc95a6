use Rattle.std.proofs.Common.{rules, arith, ◌<◌, ◌^◌, sym, ◌∙◌}
use Rattle.scp_examine.specs.Places.{Register, UnitRegister}
use Rattle.scp_examine.proofs.FillLemmas.{word_fits, filled_no_cells, filled-one, one_fits, state_refuses}
use Rattle.scp_examine.proofs.fill.fill_named.Goals as goal

pub overflow_cast-value : goal.overflow_cast-value
overflow_cast-value g c =
    let some : 0 < c.in-Words.count = omega arith in
    let h : c.args.value < 2 ^ 16 = word_fits c.args.value c.in-Words.from c.in-Words.count some (rw c.in-Words.is at c.requires.value) in
    search rules

pub fill_register-requires : goal.fill_register-requires
fill_register-requires g c = one_fits c.args.value (Register c.in-Register.register) (rw c.in-Register.is at c.requires.value)

pub returns-else-count-gt0 : goal.returns-else-count-gt0
returns-else-count-gt0 g c =
    rw c.in-Words.is (filled_no_cells c.args.value c.args.machine.now c.in-Words.from c.in-Words.count (omega arith))

pub returns-in-Register : goal.returns-in-Register
returns-in-Register g c =
    rw c.in-Register.is (c.fill_register.ensures ∙ sym (filled-one c.args.value c.args.machine.now (Register c.in-Register.register)))

pub returns-in-State : goal.returns-in-State
returns-in-State g c = absurd (state_refuses c.args.value (rw c.in-State.is at c.requires.value))

pub fill_unit_register-requires-clause-value : goal.fill_unit_register-requires-clause-value
fill_unit_register-requires-clause-value g c =
    one_fits c.args.value (UnitRegister c.in-UnitRegister.kind c.in-UnitRegister.number) (rw c.in-UnitRegister.is at c.requires.value)

pub returns-in-UnitRegister : goal.returns-in-UnitRegister
returns-in-UnitRegister g c =
    rw c.in-UnitRegister.is (c.fill_unit_register.ensures ∙ sym (filled-one c.args.value c.args.machine.now (UnitRegister c.in-UnitRegister.kind c.in-UnitRegister.number)))
