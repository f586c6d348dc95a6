use Rattle.std.proofs.Common.{IsTrue, is_some, map, rules}
use Rattle.unit_trait.specs.Kinds.{code_of}
use Rattle.unit_list.specs.Bus.{unit_at}
use Rattle.nova_machine.proofs.Asked.{listed-asked}
use Rattle.nova_machine.proofs.machine.Machine.activate.Goals as goal

pub invariant_of-self : goal.invariant_of-self
invariant_of-self g c =
    let unit = c.args.unit in
    let units = map g.U.Unit.unit_state c.self.inside.units.items in
    let there : IsTrue (is_some (unit_at (code_of unit.kind) units)) = search rules in
    let was = c.self.invariant in
    let listed = listed-asked units unit c.args.remaining c.self.inside.events c.activate.new.self there c.activate.ensures.activated was.3 in
    (was.0, was.1, was.2, listed, was.4, was.5)
