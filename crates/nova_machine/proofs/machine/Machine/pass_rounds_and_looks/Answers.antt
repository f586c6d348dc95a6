use Rattle.std.proofs.Common.{◌≡◌, ap, ◌∙◌, arith, rules}
use Rattle.nova_machine.specs.Machine.{MachineState, on_processor, attached_files}
use Rattle.nova_machine.specs.Looks.{idled_by}
use Rattle.nova_machine.specs.Waits.{halfway}
use Rattle.nova_machine.proofs.Idling.{idled-slots, idled-lines, idled-units, idled-time, passed-keys}
use Rattle.nova_machine.proofs.IdleWaits.{idle-waits}
use Rattle.nova_machine.proofs.Copies.{idled-attached}
use Rattle.nova_machine.proofs.machine.Machine.pass_rounds_and_looks.Goals as goal

pub returns-clause-told : goal.returns-clause-told
returns-clause-told g c =
    let old = c.args.self.now in
    let budget = c.idle_budget-budget.result in
    idle-waits c.args.looks.period c.args.watch.now c.args.keys.now c.args.most budget old c.pass_looks.new.self c.requires.unbroken c.requires.waiting
    c.idle_budget-budget.ensures.idle c.idle_budget-budget.ensures.end c.idle_budget-budget.ensures.few (search rules)

pub returns-clause-slots : goal.returns-clause-slots
returns-clause-slots g c =
    let old = c.args.self.now in
    let budget = c.idle_budget-budget.result in
    let is : c.pass_looks.new.self ≡ idled_by c.args.looks.period budget (on_processor (halfway budget) old) = search rules in
    ap (λ (m : MachineState). m.slots) is ∙ idled-slots c.args.looks.period budget (on_processor (halfway budget) old)

pub returns-clause-attached : goal.returns-clause-attached
returns-clause-attached g c =
    let old = c.args.self.now in
    let budget = c.idle_budget-budget.result in
    let is : c.pass_looks.new.self ≡ idled_by c.args.looks.period budget (on_processor (halfway budget) old) = search rules in
    ap attached_files is ∙ idled-attached c.args.looks.period budget (on_processor (halfway budget) old)

pub returns-clause-lines : goal.returns-clause-lines
returns-clause-lines g c =
    let old = c.args.self.now in
    let budget = c.idle_budget-budget.result in
    let is : c.pass_looks.new.self ≡ idled_by c.args.looks.period budget (on_processor (halfway budget) old) = search rules in
    ap (λ (m : MachineState). m.lines) is ∙ idled-lines c.args.looks.period budget (on_processor (halfway budget) old)

pub returns-clause-units : goal.returns-clause-units
returns-clause-units g c =
    let old = c.args.self.now in
    let budget = c.idle_budget-budget.result in
    let is : c.pass_looks.new.self ≡ idled_by c.args.looks.period budget (on_processor (halfway budget) old) = search rules in
    ap (λ (m : MachineState). m.units) is ∙ idled-units c.args.looks.period budget (on_processor (halfway budget) old)

pub returns-clause-later : goal.returns-clause-later
returns-clause-later g c =
    let old = c.args.self.now in
    let budget = c.idle_budget-budget.result in
    let is : c.pass_looks.new.self ≡ idled_by c.args.looks.period budget (on_processor (halfway budget) old) = search rules in
    let time = ap (λ (m : MachineState). m.time) is ∙ idled-time c.args.looks.period budget (on_processor (halfway budget) old) in
    omega (arith, time)

pub returns-clause-time : goal.returns-clause-time
returns-clause-time g c =
    let old = c.args.self.now in
    let budget = c.idle_budget-budget.result in
    let is : c.pass_looks.new.self ≡ idled_by c.args.looks.period budget (on_processor (halfway budget) old) = search rules in
    ap (λ (m : MachineState). m.time) is ∙ idled-time c.args.looks.period budget (on_processor (halfway budget) old)

pub returns-clause-taken : goal.returns-clause-taken
returns-clause-taken g c =
    let old = c.args.self.now in
    let budget = c.idle_budget-budget.result in
    let is : c.pass_looks.new.self ≡ idled_by c.args.looks.period budget (on_processor (halfway budget) old) = search rules in
    ap (λ (m : MachineState). m.taken) is ∙ passed-keys c.args.looks.period budget (on_processor (halfway budget) old)
