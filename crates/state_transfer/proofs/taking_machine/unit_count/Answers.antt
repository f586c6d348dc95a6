use Rattle.std.proofs.Common.{sym, ◌∙◌}
use Rattle.state_transfer.proofs.TakingLemmas.{many-with, many-without}
use Rattle.state_transfer.proofs.taking_machine.unit_count.Goals as goal

pub returns-then-has_unit : goal.returns-then-has_unit
returns-then-has_unit g c =
    sym (many-with c.args.machine.now.units c.requires (sym c.has_unit.ensures ∙ c.if-has_unit.true))

pub returns-else-has_unit : goal.returns-else-has_unit
returns-else-has_unit g c =
    sym (many-without c.args.machine.now.units c.requires (sym c.has_unit.ensures ∙ c.if-has_unit.false))
