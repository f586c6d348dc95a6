use Rattle.std.proofs.Common.{◌≡◌, ℕ, Bool, Option, Result, slice_get, option_map, option_to_list, ap, sym, ◌∙◌}
use Rattle.unit_trait.specs.declared.processor.CpuReg.{CpuReg}
use Rattle.unit_trait.specs.Processor.{all_registers}
use Rattle.nova_machine.specs.Machine.{MachineState}
use Rattle.operand_forms.specs.declared.listing.Name.{Name}
use Rattle.operand_forms.specs.declared.listing.Name.TheVariants as whose
use Rattle.operand_forms.specs.declared.listing.Condition.{Condition}
use Rattle.scp_examine.specs.declared.fault.ExamineFault.{ExamineFault}
use Rattle.scp_examine.specs.Places.{Register, named_register}
use Rattle.scp_examine.specs.Effect.{test_of}
use Rattle.scp_examine.proofs.UnitLemmas.{named-processor}
use Rattle.scp_examine.proofs.assert_command.test_register.Goals as goal

of_processor : (m : MachineState) (c : Condition) (device : Name) (i : ℕ) (register : Option CpuReg) (answer : Result Bool ExamineFault) → device ≡ whose.Cpu
    → register ≡ slice_get all_registers i → answer ≡ test_of m c (option_to_list (option_map (λ r. Register r) register))
    → answer ≡ test_of m c (option_to_list (named_register device i))
of_processor m c device i register answer is named tested =
    tested ∙ ap (λ r. test_of m c (option_to_list (option_map (λ x. Register x) r))) named
    ∙ ap (λ o. test_of m c (option_to_list o)) (sym (named-processor i)) ∙ ap (λ d. test_of m c (option_to_list (named_register d i))) (sym is)

pub returns-in-Cpu : goal.returns-in-Cpu
returns-in-Cpu g c =
    of_processor c.args.machine.now c.args.condition c.args.device c.args.number c.processor_register.result c.test_processor_register.result c.in-Cpu.is
    c.processor_register.ensures c.test_processor_register.ensures
