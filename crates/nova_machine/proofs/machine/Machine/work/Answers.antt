use Rattle.std.proofs.Common.{◌≡◌, ◌+◌, ◌≤◌, List, ap, refl, subst, ◌∙◌, arith, rules}
use Rattle.expect_actions.specs.declared.breaks.Break.{Break}
use Rattle.expect_actions.specs.Watch.{WatchState}
use Rattle.nova_machine.specs.Machine.{MachineState, attached_files}
use Rattle.nova_machine.specs.Run.{last_time}
use Rattle.nova_processor.specs.Burst.{IsBurst}
use Rattle.expect_actions.specs.Breaks.{has_break}
use Rattle.nova_machine.specs.Bursts.{IsCalm, passed_by}
use Rattle.nova_machine.proofs.Bursts.{burst-told, calm-less, passed-slots, passed-lines, passed-units, passed-time}
use Rattle.nova_machine.proofs.InstructionCauses.{passed-taken, any-burst-cause}
use Rattle.nova_machine.proofs.Copies.{passed-attached}
use Rattle.nova_machine.proofs.machine.Machine.work.Goals as goal

pub returns-clause-told : goal.returns-clause-told
returns-clause-told g c = λ keys.
    let old = c.args.self.now in
    let budget = c.min-budget.result in
    let within : budget ≤ c.calm.result = search rules in
    let calm : IsCalm budget old = calm-less budget c.calm.result old within c.calm.ensures.calm in
    let last : old.time + budget ≤ last_time = search rules in
    let few : budget ≤ c.args.most = search rules in
    let list : c.watch.inside.breaks.list ≡ c.args.watch.now.breaks.list = ap (λ (w : WatchState). w.breaks.list) c.watch.view_is in
    let P : List Break → Type 0 =
    λ breaks. IsBurst (λ address. has_break address breaks) old.processor budget c.step_to_break-burst.result.done c.step_to_break-burst.result.end c.step_to_break-burst.new.self.processor in
    let burst : P c.args.watch.now.breaks.list = subst P list c.step_to_break-burst.ensures.told in
    let is : c.pass_time.new.self ≡ passed_by c.step_to_break-burst.result.done (record old { processor = c.step_to_break-burst.new.self.processor }) = search rules in
    burst-told (λ address. has_break address c.args.watch.now.breaks.list) c.args.watch.now keys c.args.most c.step_to_break-burst.result.done budget c.step_to_break-burst.result.end old c.pass_time.new.self c.step_to_break-burst.new.self.processor (λ address. refl) calm last few burst is

pub returns-clause-slots : goal.returns-clause-slots
returns-clause-slots g c =
    let old = c.args.self.now in
    let is : c.pass_time.new.self ≡ passed_by c.step_to_break-burst.result.done (record old { processor = c.step_to_break-burst.new.self.processor }) = search rules in
    ap (λ (m : MachineState). m.slots) is ∙ passed-slots c.step_to_break-burst.result.done (record old { processor = c.step_to_break-burst.new.self.processor })

pub returns-clause-attached : goal.returns-clause-attached
returns-clause-attached g c =
    let old = c.args.self.now in
    let is : c.pass_time.new.self ≡ passed_by c.step_to_break-burst.result.done (record old { processor = c.step_to_break-burst.new.self.processor }) = search rules in
    ap attached_files is ∙ passed-attached c.step_to_break-burst.result.done (record old { processor = c.step_to_break-burst.new.self.processor })

pub returns-clause-lines : goal.returns-clause-lines
returns-clause-lines g c =
    let old = c.args.self.now in
    let is : c.pass_time.new.self ≡ passed_by c.step_to_break-burst.result.done (record old { processor = c.step_to_break-burst.new.self.processor }) = search rules in
    ap (λ (m : MachineState). m.lines) is ∙ passed-lines c.step_to_break-burst.result.done (record old { processor = c.step_to_break-burst.new.self.processor })

pub returns-clause-units : goal.returns-clause-units
returns-clause-units g c =
    let old = c.args.self.now in
    let is : c.pass_time.new.self ≡ passed_by c.step_to_break-burst.result.done (record old { processor = c.step_to_break-burst.new.self.processor }) = search rules in
    ap (λ (m : MachineState). m.units) is ∙ passed-units c.step_to_break-burst.result.done (record old { processor = c.step_to_break-burst.new.self.processor })

pub returns-clause-later : goal.returns-clause-later
returns-clause-later g c =
    let old = c.args.self.now in
    let is : c.pass_time.new.self ≡ passed_by c.step_to_break-burst.result.done (record old { processor = c.step_to_break-burst.new.self.processor }) = search rules in
    let time : c.pass_time.new.self.time ≡ old.time + c.step_to_break-burst.result.done =
    ap (λ (m : MachineState). m.time) is ∙ passed-time c.step_to_break-burst.result.done (record old { processor = c.step_to_break-burst.new.self.processor }) in
    omega (arith, time)

pub returns-clause-time : goal.returns-clause-time
returns-clause-time g c =
    let old = c.args.self.now in
    let is : c.pass_time.new.self ≡ passed_by c.step_to_break-burst.result.done (record old { processor = c.step_to_break-burst.new.self.processor }) = search rules in
    ap (λ (m : MachineState). m.time) is ∙ passed-time c.step_to_break-burst.result.done (record old { processor = c.step_to_break-burst.new.self.processor })

pub returns-clause-taken : goal.returns-clause-taken
returns-clause-taken g c =
    let old = c.args.self.now in
    let is : c.pass_time.new.self ≡ passed_by c.step_to_break-burst.result.done (record old { processor = c.step_to_break-burst.new.self.processor }) = search rules in
    ap (λ (m : MachineState). m.taken) is ∙ passed-taken c.step_to_break-burst.result.done (record old { processor = c.step_to_break-burst.new.self.processor })

pub returns-clause-cause : goal.returns-clause-cause
returns-clause-cause g c =
    let old = c.args.self.now in
    let budget = c.min-budget.result in
    let last : old.time + budget ≤ last_time = search rules in
    let few : budget ≤ c.args.most = search rules in
    let list : c.watch.inside.breaks.list ≡ c.args.watch.now.breaks.list = ap (λ (w : WatchState). w.breaks.list) c.watch.view_is in
    let P : List Break → Type 0 =
    λ breaks. IsBurst (λ address. has_break address breaks) old.processor budget c.step_to_break-burst.result.done c.step_to_break-burst.result.end c.step_to_break-burst.new.self.processor in
    let burst : P c.args.watch.now.breaks.list = subst P list c.step_to_break-burst.ensures.told in
    let is : c.pass_time.new.self ≡ passed_by c.step_to_break-burst.result.done (record old { processor = c.step_to_break-burst.new.self.processor }) = search rules in
    any-burst-cause (λ address. has_break address c.args.watch.now.breaks.list) c.args.most budget c.step_to_break-burst.result.done c.step_to_break-burst.result.end old c.pass_time.new.self c.step_to_break-burst.new.self.processor few last burst is
