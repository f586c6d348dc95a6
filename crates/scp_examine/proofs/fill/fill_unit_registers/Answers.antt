use Rattle.std.proofs.Common.{sym, ap, ◌∙◌, arith}
use Rattle.scp_examine.specs.Places.{UnitRegister, unit_registers}
use Rattle.scp_examine.specs.Effect.{filled}
use Rattle.scp_examine.proofs.ShowLemmas.{numbered-none}
use Rattle.scp_examine.proofs.FillLemmas.{filled-none, filled-more, still_there, unit_register_fits}
use Rattle.scp_examine.proofs.fill.fill_unit_registers.Goals as goal

pub loop-number-init : goal.loop-number-init
loop-number-init g c =
    sym (ap (λ ps. filled c.args.value c.args.machine.now ps) (numbered-none (UnitRegister c.args.kind) 0) ∙ filled-none c.args.value c.args.machine.now)

pub fill_unit_register-requires-clause-there : goal.fill_unit_register-requires-clause-there
fill_unit_register-requires-clause-there g c =
    still_there c.args.value c.args.kind c.args.machine.now c.loop-number.machine (unit_registers c.args.kind c.loop-number.number) c.requires.there c.loop-number.invariant

pub fill_unit_register-requires-clause-value : goal.fill_unit_register-requires-clause-value
fill_unit_register-requires-clause-value g c =
    unit_register_fits c.args.value c.args.kind c.args.count c.loop-number.number c.loop-number-test.true c.requires.value

pub loop-number-preserved : goal.loop-number-preserved
loop-number-preserved g c =
    filled-more (UnitRegister c.args.kind) c.args.value c.args.machine.now c.loop-number.machine c.fill_unit_register.new.machine 0 c.loop-number.number c.loop-number.number (omega arith)
    c.loop-number.invariant c.fill_unit_register.ensures
