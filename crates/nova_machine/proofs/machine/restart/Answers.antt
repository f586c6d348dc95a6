use Rattle.std.proofs.Common.{map}
use Rattle.nova_machine.proofs.Listed.{listed-restarted}
use Rattle.nova_machine.proofs.machine.restart.Goals as goal

pub returns-clause-listed : goal.returns-clause-listed
returns-clause-listed g c =
    listed-restarted (map g.U.Unit.unit_state c.args.units.now) (map g.U.Unit.unit_state c.reset_all.new.units) c.clear.new.self c.reset_all.new.events
    c.clear.ensures c.reset_all.ensures.events c.reset_all.ensures.kinds
