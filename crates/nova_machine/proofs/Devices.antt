-- A word to a unit leaves HOLD alone: HOLD may be cleared behind it.
use Rattle.std.proofs.Common.{◌≡◌, ℕ, ◌==◌, Bool, true, false, is_some, refl, ap, sym, ◌∙◌, if◌then◌else◌}
use Rattle.nova_word.specs.Bits.{bits}
use Rattle.unit_list.specs.Bus.{unit_at}
use Rattle.nova_processor.specs.Processor.{ProcessorState}
use Rattle.nova_processor.specs.InputOutput.{tested, unanswered}
use Rattle.nova_machine.specs.declared.machine.Stop.TheVariants.{UnknownDevice}
use Rattle.nova_machine.specs.Machine.{MachineState, on_processor}
use Rattle.nova_machine.specs.Turned.{goes_on, stops, begun, ticked, executed}
use Rattle.nova_machine.specs.Transfer.{flags_in, asked_unit, to_unit, to_device}

late-if : (b : Bool) (x y x' y' : MachineState) → begun x ≡ x' → begun y ≡ y' → begun (if b then x else y) ≡ (if b then x' else y')
late-if true x y x' y' first second = first
late-if false x y x' y' first second = second

late-on : (f : ProcessorState → ProcessorState) (m : MachineState) → begun (on_processor f m) ≡ on_processor f (begun m)
unfolding begun
late-on f m = refl

late-asked : (code w : ℕ) (m : MachineState) → begun (asked_unit code w m) ≡ asked_unit code w (begun m)
unfolding begun asked_unit
late-asked code w m = refl

late-unit : (code w : ℕ) (m : MachineState) → begun (to_unit code w m) ≡ to_unit code w (begun m)
unfolding begun to_unit
late-unit code w m =
    let test = tested (bits 8 9 w) (flags_in code m).busy (flags_in code m).done in
    late-if (bits 5 7 w == 7) (on_processor test m) (asked_unit code w m) _ _ (late-on test m) (late-asked code w m)

pub device-there : (code w : ℕ) (m : MachineState) → is_some (unit_at code m.units) ≡ true → (to_device code w m).machine ≡ ticked (begun (to_unit code w m))
unfolding to_device
device-there code w m there =
    ap (λ (b : Bool). (if b then goes_on (ticked (to_unit code w (begun m))) else if m.stop_dev then stops UnknownDevice m else goes_on (executed (unanswered w) m)).machine) there
    ∙ ap ticked (sym (late-unit code w m))
