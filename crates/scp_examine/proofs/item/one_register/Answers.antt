use Rattle.std.proofs.Common.{option_to_list, sym, ap, ◌∙◌}
use Rattle.scp_examine.specs.Places.{Cell, named_register}
use Rattle.scp_examine.proofs.ShowLemmas.{numbered-none}
use Rattle.scp_examine.proofs.UnitLemmas.{unit-listed, unit-unlisted}
use Rattle.scp_examine.proofs.item.one_register.Goals as goal

pub returns-then-has_unit_register-clause-places : goal.returns-then-has_unit_register-clause-places
returns-then-has_unit_register-clause-places c =
    unit-listed c.in-Device.kind c.args.number (sym c.has_unit_register.ensures ∙ c.if-has_unit_register.true)
    ∙ ap (λ d. option_to_list (named_register d c.args.number)) (sym c.in-Device.is)

pub returns-else-has_unit_register-clause-places : goal.returns-else-has_unit_register-clause-places
returns-else-has_unit_register-clause-places c =
    numbered-none Cell 0 ∙ unit-unlisted c.in-Device.kind c.args.number (sym c.has_unit_register.ensures ∙ c.if-has_unit_register.false)
    ∙ ap (λ d. option_to_list (named_register d c.args.number)) (sym c.in-Device.is)
