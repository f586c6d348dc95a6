use Rattle.std.proofs.Common.{◌≡◌, option_map, rules}
use Rattle.unit_list.specs.Bus.{unit_at}
use Rattle.nova_machine.proofs.Listed.{among-said}
use Rattle.nova_machine.proofs.machine.Machine.call_unit.Goals as goal

pub returns-clause-listed : goal.returns-clause-listed
returns-clause-listed g c =
    let found : option_map (λ a. a.kind) c.io_at.result ≡ option_map (λ u. u.kind) (unit_at c.args.code c.args.self.now.units) = search rules in
    among-said c.args.code c.args.self.now.units c.io_at.result found
