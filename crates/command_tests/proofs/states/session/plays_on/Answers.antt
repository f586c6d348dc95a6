use Rattle.std.proofs.Common.{◌≡◌, List, inl, inr, map, refl, sym, ap, subst, ◌∙◌}
use Rattle.unit_trait.specs.Calls.{UnitState}
use Rattle.command_words.specs.Standard.{IsStandard}
use Rattle.command_words.proofs.StandardLemmas.{in-bus-order}
use Rattle.unit_list.specs.Bus.{kinds_of}
use Rattle.unit_list.proofs.Resets.{reset-kinds}
use Rattle.unit_files.specs.Buffer.{nothing_attached}
use Rattle.nova_machine.specs.Machine.{MachineState, attached_files, new_machine, reset_devices, reset_machine}
use Rattle.state_transfer.specs.SavedValid.{AreStandard}
use Rattle.command_tests.proofs.states.session.plays_on.Goals as goal

-- a new machine with standard units is a standard one, and has no files
new-standard : (units : List UnitState) → IsStandard units → AreStandard (new_machine units).units
unfolding new_machine reset_machine reset_devices
new-standard units (inl is) = inl (reset-kinds units ∙ ap kinds_of is)
new-standard units (inr is) = inr (reset-kinds units ∙ ap kinds_of is)

new-nothing : (units : List UnitState) → attached_files (new_machine units) ≡ nothing_attached
unfolding new_machine reset_machine reset_devices
new-nothing units = refl

pub with_machine-requires-clause-standard : goal.with_machine-requires-clause-standard
with_machine-requires-clause-standard g c =
    subst (λ (m : MachineState). AreStandard m.units) (sym c.in_ok-machine.ensures.machine)
    (new-standard (map g.U.Unit.unit_state c.args.units.items) c.requires.units)

pub with_machine-requires-clause-nothing : goal.with_machine-requires-clause-nothing
with_machine-requires-clause-nothing g c =
    ap attached_files c.in_ok-machine.ensures.machine ∙ new-nothing (map g.U.Unit.unit_state c.args.units.items)

pub new-requires : goal.new-requires
new-requires g c = in-bus-order (map g.U.Unit.unit_state c.args.units.items) c.requires.units
