use Rattle.std.proofs.Common.{refl, arith}
use Rattle.tape_unit.proofs.Drives.{takes-place}
use Rattle.tape_unit.proofs.control.ControlUnit.set_reg.Goals as goal

pub returns-in-9-to-16-0-to-67108864-clause-fits :
    goal.returns-in-9-to-16-0-to-67108864-clause-fits
returns-in-9-to-16-0-to-67108864-clause-fits c =
    (λ set. takes-place c.args.i c.args.value (omega arith) (omega arith) (omega arith), λ fits. refl)
