use Rattle.std.proofs.Common.{◌≡◌, ◌+◌, ◌≤◌, ap, ◌∙◌, arith, rules}
use Rattle.nova_machine.specs.Machine.{MachineState, on_processor, attached_files}
use Rattle.nova_machine.specs.Run.{last_time}
use Rattle.nova_machine.specs.Bursts.{IsCalm, passed_by}
use Rattle.nova_machine.specs.Waits.{halfway}
use Rattle.nova_machine.proofs.Bursts.{calm-less, passed-slots, passed-lines, passed-units, passed-time}
use Rattle.nova_machine.proofs.Waits.{waits-told}
use Rattle.nova_machine.proofs.InstructionCauses.{passed-taken}
use Rattle.nova_machine.proofs.Copies.{passed-attached}
use Rattle.nova_machine.proofs.machine.Machine.pass_rounds.Goals as goal

pub returns-clause-told : goal.returns-clause-told
returns-clause-told g c = λ keys.
    let old = c.args.self.now in
    let budget = c.min-budget.result in
    let within : budget ≤ c.calm.result = search rules in
    let calm : IsCalm budget old = calm-less budget c.calm.result old within c.calm.ensures.calm in
    let last : old.time + budget ≤ last_time = search rules in
    let few : budget ≤ c.args.most = search rules in
    let is : c.pass_time.new.self ≡ passed_by budget (on_processor (halfway budget) old) = search rules in
    waits-told c.args.watch.now keys c.args.most budget old c.pass_time.new.self c.requires.unbroken c.requires.waiting calm last few is

pub returns-clause-slots : goal.returns-clause-slots
returns-clause-slots g c =
    let old = c.args.self.now in
    let budget = c.min-budget.result in
    let is : c.pass_time.new.self ≡ passed_by budget (on_processor (halfway budget) old) = search rules in
    ap (λ (m : MachineState). m.slots) is ∙ passed-slots budget (on_processor (halfway budget) old)

pub returns-clause-attached : goal.returns-clause-attached
returns-clause-attached g c =
    let old = c.args.self.now in
    let budget = c.min-budget.result in
    let is : c.pass_time.new.self ≡ passed_by budget (on_processor (halfway budget) old) = search rules in
    ap attached_files is ∙ passed-attached budget (on_processor (halfway budget) old)

pub returns-clause-lines : goal.returns-clause-lines
returns-clause-lines g c =
    let old = c.args.self.now in
    let budget = c.min-budget.result in
    let is : c.pass_time.new.self ≡ passed_by budget (on_processor (halfway budget) old) = search rules in
    ap (λ (m : MachineState). m.lines) is ∙ passed-lines budget (on_processor (halfway budget) old)

pub returns-clause-units : goal.returns-clause-units
returns-clause-units g c =
    let old = c.args.self.now in
    let budget = c.min-budget.result in
    let is : c.pass_time.new.self ≡ passed_by budget (on_processor (halfway budget) old) = search rules in
    ap (λ (m : MachineState). m.units) is ∙ passed-units budget (on_processor (halfway budget) old)

pub returns-clause-later : goal.returns-clause-later
returns-clause-later g c =
    let old = c.args.self.now in
    let budget = c.min-budget.result in
    let is : c.pass_time.new.self ≡ passed_by budget (on_processor (halfway budget) old) = search rules in
    let time = ap (λ (m : MachineState). m.time) is ∙ passed-time budget (on_processor (halfway budget) old) in
    omega (arith, time)

pub returns-clause-time : goal.returns-clause-time
returns-clause-time g c =
    let old = c.args.self.now in
    let budget = c.min-budget.result in
    let is : c.pass_time.new.self ≡ passed_by budget (on_processor (halfway budget) old) = search rules in
    ap (λ (m : MachineState). m.time) is ∙ passed-time budget (on_processor (halfway budget) old)

pub returns-clause-taken : goal.returns-clause-taken
returns-clause-taken g c =
    let old = c.args.self.now in
    let budget = c.min-budget.result in
    let is : c.pass_time.new.self ≡ passed_by budget (on_processor (halfway budget) old) = search rules in
    ap (λ (m : MachineState). m.taken) is ∙ passed-taken budget (on_processor (halfway budget) old)
