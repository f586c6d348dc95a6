use Rattle.std.proofs.Common.{ap, sym, ◌∙◌}
use Rattle.scp_examine.specs.Places.{UnitRegister}
use Rattle.scp_examine.specs.Checks.{values_fault}
use Rattle.scp_examine.specs.Named.{places_in}
use Rattle.scp_examine.proofs.FaultLemmas.{values_fault-one}
use Rattle.scp_examine.proofs.check.value_fault.Goals as goal

pub returns-in-UnitRegister : goal.returns-in-UnitRegister
returns-in-UnitRegister c =
    c.unit_register_value_fault.ensures ∙ sym (values_fault-one c.args.value (UnitRegister c.in-UnitRegister.kind c.in-UnitRegister.number))
    ∙ ap (λ named. values_fault c.args.value (places_in named)) (sym c.in-UnitRegister.is)
