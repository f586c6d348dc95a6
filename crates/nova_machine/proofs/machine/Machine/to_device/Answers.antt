use Rattle.std.proofs.Common.{◌≡◌, true, is_some, ap, sym, ◌∙◌, rules}
use Rattle.unit_list.specs.Bus.{unit_at}
use Rattle.nova_machine.specs.Turned.{begun, ticked}
use Rattle.nova_machine.specs.Transfer.{to_unit}
use Rattle.nova_machine.proofs.Devices.{device-there}
use Rattle.nova_machine.proofs.machine.Machine.to_device.Goals as goal

pub returns-then-to_unit-clause-machine : goal.returns-then-to_unit-clause-machine
returns-then-to_unit-clause-machine g c =
    let m = c.args.self.now in
    let there : is_some (unit_at c.args.code m.units) ≡ true = search rules in
    let done : c.to_unit.new.self ≡ to_unit c.args.code c.args.word m = search rules in
    let behind : c.tick.new.self ≡ ticked (begun c.to_unit.new.self) = search rules in
    behind ∙ ap (λ x. ticked (begun x)) done ∙ sym (device-there c.args.code c.args.word m there)
