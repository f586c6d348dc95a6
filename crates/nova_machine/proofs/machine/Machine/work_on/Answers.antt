use Rattle.std.proofs.Common.{◌≡◌, ◌+◌, List, ap, refl, subst, ◌∙◌, arith, rules}
use Rattle.expect_actions.specs.declared.breaks.Break.{Break}
use Rattle.expect_actions.specs.Breaks.{has_break}
use Rattle.expect_actions.specs.Watch.{WatchState}
use Rattle.nova_processor.specs.Burst.{IsBurst}
use Rattle.nova_machine.specs.Machine.{MachineState, attached_files}
use Rattle.nova_machine.specs.Looks.{idled_by, idle_end}
use Rattle.nova_machine.proofs.Idling.{idle-told, idled-slots, idled-lines, idled-units, idled-time, idled-taken, end-slots, end-lines, end-units, end-time}
use Rattle.nova_machine.proofs.InstructionCauses.{any-idle-cause}
use Rattle.nova_machine.proofs.Copies.{end-attached, idled-attached}
use Rattle.nova_machine.proofs.machine.Machine.work_on.Goals as goal

pub returns-clause-told : goal.returns-clause-told
returns-clause-told g c =
    let old = c.args.self.now in
    let q = c.step_to_break-burst.new.self.processor in
    let done = c.step_to_break-burst.result.done in
    let end = c.step_to_break-burst.result.end in
    let period = c.args.looks.period in
    let list : c.watch.inside.breaks.list ≡ c.args.watch.now.breaks.list = ap (λ (w : WatchState). w.breaks.list) c.watch.view_is in
    let P : List Break → Type 0 = λ breaks. IsBurst (λ address. has_break address breaks) old.processor c.idle_budget-budget.result done end q in
    let burst : P c.args.watch.now.breaks.list = subst P list c.step_to_break-burst.ensures.told in
    let passed : c.pass_looks.new.self ≡ idled_by period done (record old { processor = q }) = search rules in
    let is : c.end_looks.new.self ≡ idle_end end period (idled_by period done (record old { processor = q })) = c.end_looks.ensures ∙ ap (idle_end end period) passed in
    idle-told period (λ address. has_break address c.args.watch.now.breaks.list) c.args.watch.now c.args.keys.now c.args.most done c.idle_budget-budget.result end old c.end_looks.new.self q
    (λ address. refl) c.idle_budget-budget.ensures.idle c.idle_budget-budget.ensures.end c.idle_budget-budget.ensures.few burst is

pub returns-clause-slots : goal.returns-clause-slots
returns-clause-slots g c =
    let old = c.args.self.now in
    let q = c.step_to_break-burst.new.self.processor in
    let done = c.step_to_break-burst.result.done in
    let end = c.step_to_break-burst.result.end in
    let period = c.args.looks.period in
    let passed : c.pass_looks.new.self ≡ idled_by period done (record old { processor = q }) = search rules in
    ap (λ (m : MachineState). m.slots) c.end_looks.ensures ∙ end-slots end period c.pass_looks.new.self
    ∙ ap (λ (m : MachineState). m.slots) passed ∙ idled-slots period done (record old { processor = q })

pub returns-clause-attached : goal.returns-clause-attached
returns-clause-attached g c =
    let old = c.args.self.now in
    let q = c.step_to_break-burst.new.self.processor in
    let done = c.step_to_break-burst.result.done in
    let end = c.step_to_break-burst.result.end in
    let period = c.args.looks.period in
    let passed : c.pass_looks.new.self ≡ idled_by period done (record old { processor = q }) = search rules in
    ap attached_files c.end_looks.ensures ∙ end-attached end period c.pass_looks.new.self
    ∙ ap attached_files passed ∙ idled-attached period done (record old { processor = q })

pub returns-clause-lines : goal.returns-clause-lines
returns-clause-lines g c =
    let old = c.args.self.now in
    let q = c.step_to_break-burst.new.self.processor in
    let done = c.step_to_break-burst.result.done in
    let end = c.step_to_break-burst.result.end in
    let period = c.args.looks.period in
    let passed : c.pass_looks.new.self ≡ idled_by period done (record old { processor = q }) = search rules in
    ap (λ (m : MachineState). m.lines) c.end_looks.ensures ∙ end-lines end period c.pass_looks.new.self
    ∙ ap (λ (m : MachineState). m.lines) passed ∙ idled-lines period done (record old { processor = q })

pub returns-clause-units : goal.returns-clause-units
returns-clause-units g c =
    let old = c.args.self.now in
    let q = c.step_to_break-burst.new.self.processor in
    let done = c.step_to_break-burst.result.done in
    let end = c.step_to_break-burst.result.end in
    let period = c.args.looks.period in
    let passed : c.pass_looks.new.self ≡ idled_by period done (record old { processor = q }) = search rules in
    ap (λ (m : MachineState). m.units) c.end_looks.ensures ∙ end-units end period c.pass_looks.new.self
    ∙ ap (λ (m : MachineState). m.units) passed ∙ idled-units period done (record old { processor = q })

pub returns-clause-later : goal.returns-clause-later
returns-clause-later g c =
    let old = c.args.self.now in
    let q = c.step_to_break-burst.new.self.processor in
    let done = c.step_to_break-burst.result.done in
    let end = c.step_to_break-burst.result.end in
    let period = c.args.looks.period in
    let passed : c.pass_looks.new.self ≡ idled_by period done (record old { processor = q }) = search rules in
    let time : c.end_looks.new.self.time ≡ old.time + done =
    ap (λ (m : MachineState). m.time) c.end_looks.ensures ∙ end-time end period c.pass_looks.new.self
    ∙ ap (λ (m : MachineState). m.time) passed ∙ idled-time period done (record old { processor = q }) in
    omega (arith, time)

pub returns-clause-time : goal.returns-clause-time
returns-clause-time g c =
    let old = c.args.self.now in
    let q = c.step_to_break-burst.new.self.processor in
    let done = c.step_to_break-burst.result.done in
    let end = c.step_to_break-burst.result.end in
    let period = c.args.looks.period in
    let passed : c.pass_looks.new.self ≡ idled_by period done (record old { processor = q }) = search rules in
    ap (λ (m : MachineState). m.time) c.end_looks.ensures ∙ end-time end period c.pass_looks.new.self
    ∙ ap (λ (m : MachineState). m.time) passed ∙ idled-time period done (record old { processor = q })

pub returns-clause-taken : goal.returns-clause-taken
returns-clause-taken g c =
    let old = c.args.self.now in
    let q = c.step_to_break-burst.new.self.processor in
    let done = c.step_to_break-burst.result.done in
    let end = c.step_to_break-burst.result.end in
    let period = c.args.looks.period in
    let passed : c.pass_looks.new.self ≡ idled_by period done (record old { processor = q }) = search rules in
    ap (λ (m : MachineState). m.taken) (c.end_looks.ensures ∙ ap (idle_end end period) passed) ∙ idled-taken end period done (record old { processor = q })

pub returns-clause-cause : goal.returns-clause-cause
returns-clause-cause g c =
    let old = c.args.self.now in
    let q = c.step_to_break-burst.new.self.processor in
    let done = c.step_to_break-burst.result.done in
    let end = c.step_to_break-burst.result.end in
    let period = c.args.looks.period in
    let list : c.watch.inside.breaks.list ≡ c.args.watch.now.breaks.list = ap (λ (w : WatchState). w.breaks.list) c.watch.view_is in
    let P : List Break → Type 0 = λ breaks. IsBurst (λ address. has_break address breaks) old.processor c.idle_budget-budget.result done end q in
    let burst : P c.args.watch.now.breaks.list = subst P list c.step_to_break-burst.ensures.told in
    let passed : c.pass_looks.new.self ≡ idled_by period done (record old { processor = q }) = search rules in
    let is : c.end_looks.new.self ≡ idle_end end period (idled_by period done (record old { processor = q })) = c.end_looks.ensures ∙ ap (idle_end end period) passed in
    any-idle-cause (λ address. has_break address c.args.watch.now.breaks.list) c.args.most c.idle_budget-budget.result done period end old c.end_looks.new.self q
    c.idle_budget-budget.ensures.few c.idle_budget-budget.ensures.end burst is
