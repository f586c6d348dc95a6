use Rattle.std.proofs.Common.{ap, sym, ◌∙◌}
use Rattle.scp_examine.specs.Shape.{has_named, shape_of}
use Rattle.scp_examine.proofs.UnitLemmas.{has_unit-kind}
use Rattle.scp_examine.proofs.registers.has_named.Goals as goal

pub returns-in-Device : goal.returns-in-Device
returns-in-Device g c =
    c.has_unit.ensures ∙ has_unit-kind c.in-Device.kind c.args.machine.now.units ∙ ap (has_named (shape_of c.args.machine.now)) (sym c.in-Device.is)
