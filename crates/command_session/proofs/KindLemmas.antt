-- The kinds of a machine's units stand behind what commands do to it.
use Rattle.std.proofs.Common.{◌≡◌, ◌∙◌, refl, ℕ, Bool, true, false, Option, Some, None}
use Rattle.unit_list.specs.Bus.{kinds_of}
use Rattle.unit_list.proofs.Resets.{reset-kinds}
use Rattle.nova_machine.specs.Machine.{MachineState, reset_machine, reset_devices}
use Rattle.command_session.specs.RunEffects.{starting_at, reset_where}

pub where-kinds : (resets : Bool) (m : MachineState) → kinds_of (reset_where resets m).units ≡ kinds_of m.units
unfolding reset_machine reset_devices
where-kinds true m = reset-kinds m.units
where-kinds false m = refl

pub starting-kinds : (address : Option ℕ) (m : MachineState) → kinds_of (starting_at address m).units ≡ kinds_of m.units
starting-kinds None m = refl
starting-kinds (Some a) m = refl

-- where a machine is readied for a run
pub started-kinds : (resets : Bool) (address : Option ℕ) (m : MachineState) → kinds_of (starting_at address (reset_where resets m)).units ≡ kinds_of m.units
started-kinds resets address m = starting-kinds address (reset_where resets m) ∙ where-kinds resets m
