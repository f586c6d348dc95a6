use Rattle.std.proofs.Common.{◌≡◌, take}
use Rattle.std.specs.Prelude.{map}
use Rattle.saved_session.specs.Parts.{unit_in}
use Rattle.state_transfer.specs.Session.{saved_unit}
use Rattle.state_transfer.proofs.taking_machine.taken_units.Given as goal

abbrev pub invariant-loop-position : goal.invariant-loop-position
invariant-loop-position g l = map unit_in l.units.items ≡ take l.position (map saved_unit l.machine.units)
