use Rattle.std.proofs.Common.{is_some, ap, sym, ◌∙◌}
use Rattle.scp_examine.specs.Places.{named_register}
use Rattle.scp_examine.proofs.UnitLemmas.{is_named-unit}
use Rattle.scp_examine.proofs.registers.has_register.Goals as goal

pub returns-in-Device : goal.returns-in-Device
returns-in-Device c =
    c.has_unit_register.ensures ∙ sym (is_named-unit c.in-Device.kind c.args.number) ∙ ap (λ d. is_some (named_register d c.args.number)) (sym c.in-Device.is)
