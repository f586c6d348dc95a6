use Rattle.std.proofs.Common.{◌≡◌, ℕ, false, List, ap, sym, subst}
use Rattle.nova_processor.specs.Processor.{ProcessorState}
use Rattle.nova_processor.specs.Burst.{IsBurst}
use Rattle.expect_actions.specs.declared.breaks.Break.{Break}
use Rattle.expect_actions.specs.Breaks.{has_break}
use Rattle.nova_machine.specs.Machine.{MachineState}
use Rattle.nova_machine.proofs.machine.Machine.step_to_break.Goals as goal

pub returns-then-is_empty-clause-told : goal.returns-then-is_empty-clause-told
returns-then-is_empty-clause-told g c =
    let same : c.self.inside.processor ≡ c.args.self.now.processor = ap (λ (m : MachineState). m.processor) c.self.view_is in
    let P : List Break → Type 0 =
    λ list. IsBurst (λ address. has_break address list) c.args.self.now.processor c.args.budget c.burst.result.done c.burst.result.end c.burst.new.self in
    let Q : ProcessorState → Type 0 = λ p. IsBurst (λ (address : ℕ). false) p c.args.budget c.burst.result.done c.burst.result.end c.burst.new.self in
    subst P (sym (c.is_empty.ensures.0 c.if-is_empty.true)) (subst Q same c.burst.ensures)

pub returns-else-is_empty-clause-told : goal.returns-else-is_empty-clause-told
returns-else-is_empty-clause-told g c =
    let same : c.self.inside.processor ≡ c.args.self.now.processor = ap (λ (m : MachineState). m.processor) c.self.view_is in
    let Q : ProcessorState → Type 0 =
    λ p. IsBurst (λ address. has_break address c.args.breaks.now.list) p c.args.budget c.burst-else-is_empty.result.done c.burst-else-is_empty.result.end c.burst-else-is_empty.new.self in
    subst Q same c.burst-else-is_empty.ensures
