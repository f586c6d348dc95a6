use Rattle.std.proofs.Common.{◌≡◌, ap, ◌∙◌, rules}
use Rattle.unit_list.specs.Bus.{kinds_of}
use Rattle.nova_machine.specs.Machine.{MachineState}
use Rattle.nova_machine.specs.StopLaws.{fetched}
use Rattle.nova_machine.proofs.Turns.{turns-execute}
use Rattle.nova_machine.proofs.Leaves.{leaves-execute}
use Rattle.nova_machine.proofs.InstructionCauses.{instruction-cause, taken-execute}
use Rattle.nova_machine.proofs.machine.Machine.fetch.Goals as goal

pub returns-clause-slots : goal.returns-clause-slots
returns-clause-slots g c = ap (λ (m : MachineState). m.slots) c.execute.ensures.machine ∙ (turns-execute c.read-word.result c.args.self.now).unchanged.slots

pub returns-clause-kinds : goal.returns-clause-kinds
returns-clause-kinds g c = ap (λ (m : MachineState). kinds_of m.units) c.execute.ensures.machine ∙ (leaves-execute c.read-word.result c.args.self.now).kinds

pub returns-clause-lines : goal.returns-clause-lines
returns-clause-lines g c = ap (λ (m : MachineState). m.lines) c.execute.ensures.machine ∙ (leaves-execute c.read-word.result c.args.self.now).lines

pub returns-clause-taken : goal.returns-clause-taken
returns-clause-taken g c = ap (λ (m : MachineState). m.taken) c.execute.ensures.machine ∙ taken-execute c.read-word.result c.args.self.now

pub returns-clause-cause : goal.returns-clause-cause
returns-clause-cause g c =
    let word : c.read-word.result ≡ fetched c.args.self.now = search rules in
    instruction-cause c.read-word.result c.execute.result c.args.self.now c.execute.new.self word c.execute.ensures.answer c.execute.ensures.machine
