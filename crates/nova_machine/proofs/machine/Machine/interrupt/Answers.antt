use Rattle.std.proofs.Common.{◌∙◌, ap, sym}
use Rattle.unit_list.specs.Bus.{kinds_of}
use Rattle.nova_machine.specs.Machine.{MachineState}
use Rattle.nova_machine.proofs.Leaves.{leaves-enter}
use Rattle.nova_machine.proofs.InstructionCauses.{entered-cause}
use Rattle.nova_machine.proofs.machine.Machine.interrupt.Goals as goal

pub returns-then-is_interrupted-clause-cause : goal.returns-then-is_interrupted-clause-cause
returns-then-is_interrupted-clause-cause g c =
    entered-cause c.args.self.now c.enter.new.self c.enter.result (sym c.is_interrupted.ensures ∙ c.if-is_interrupted.true) c.enter.ensures.stop c.enter.ensures.machine

pub returns-then-is_interrupted-clause-kinds : goal.returns-then-is_interrupted-clause-kinds
returns-then-is_interrupted-clause-kinds g c = ap (λ (m : MachineState). kinds_of m.units) c.enter.ensures.machine ∙ (leaves-enter c.args.self.now).kinds
