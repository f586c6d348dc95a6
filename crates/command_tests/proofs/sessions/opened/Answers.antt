use Rattle.std.proofs.Common.{◌≡◌, ◌∙◌, ap, inl, inr, map, List, Result, Ok, Err, IfOk}
use Rattle.unit_trait.specs.Calls.{UnitState}
use Rattle.command_words.specs.Standard.{IsStandard}
use Rattle.command_words.proofs.StandardLemmas.{in-bus-order}
use Rattle.unit_list.specs.Bus.{kinds_of}
use Rattle.unit_list.proofs.Resets.{reset-kinds}
use Rattle.nova_machine.specs.Machine.{MachineState, new_machine, reset_machine, reset_devices}
use Rattle.state_transfer.specs.SavedValid.{AreStandard}
use Rattle.command_session.specs.Live.{CommandState}
use Rattle.command_tests.proofs.sessions.opened.Goals as goal

new-kinds : (units : List UnitState) → kinds_of (new_machine units).units ≡ kinds_of units
unfolding new_machine reset_machine reset_devices
new-kinds units = reset-kinds units

new-standard : {E : Type 0} (units : List UnitState) (r : Result CommandState E) → IsStandard units
    → IfOk r (λ s. s.machine ≡ new_machine units) → IfOk r (λ s. AreStandard s.machine.units)
new-standard units (Ok s) (inl are) made = inl (ap (λ (m : MachineState). kinds_of m.units) made ∙ new-kinds units ∙ ap kinds_of are)
new-standard units (Ok s) (inr are) made = inr (ap (λ (m : MachineState). kinds_of m.units) made ∙ new-kinds units ∙ ap kinds_of are)
new-standard units (Err fault) are made = tt

pub returns-clause-standard : goal.returns-clause-standard
returns-clause-standard g c = new-standard (map g.U.Unit.unit_state c.args.units.items) c.new.result c.requires c.new.ensures.machine

pub new-requires : goal.new-requires
new-requires g c = in-bus-order (map g.U.Unit.unit_state c.args.units.items) c.requires
