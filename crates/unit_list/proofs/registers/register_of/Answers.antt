use Rattle.std.proofs.Common.{◌≡◌, Some, sym, ap, ◌∙◌}
use Rattle.unit_trait.specs.Registers.{register_at}
use Rattle.unit_list.proofs.Held.{limits_of, held}
use Rattle.unit_list.proofs.registers.register_of.Goals as goal

pub returns-in-Some : goal.returns-in-Some
returns-in-Some g c =
    let there : Some c.in-Some._limits ≡ limits_of (register_at c.kind.result c.args.i) = sym c.in-Some.is ∙ c.reg_limit.ensures in
    ap Some c.reg.ensures ∙ sym (held (g.U.Unit.unit_state c.args.unit.now) c.kind.result c.args.i c.in-Some._limits c.kind.ensures.fits c.kind.ensures.kind there)
