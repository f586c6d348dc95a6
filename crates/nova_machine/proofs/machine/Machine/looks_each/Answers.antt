use Rattle.std.proofs.Common.{◌≡◌, List, ap, subst, ◌∙◌, rules}
use Rattle.event_queue.specs.EventList.{Event}
use Rattle.event_queue.specs.Idle.{AreOthersLater, AreLaterThanTwo}
use Rattle.nova_machine.specs.Machine.{MachineState}
use Rattle.nova_machine.proofs.Idling.{looking-one, looking-two}
use Rattle.nova_machine.proofs.machine.Machine.looks_each.Goals as goal

pub returns-then-twin_looks-clause-looks : goal.returns-then-twin_looks-clause-looks
returns-then-twin_looks-clause-looks g c =
    let old = c.args.self.now in
    let others = c.later_than_two.result in
    let events : c.self.inside.events ≡ old.events = ap (λ (m : MachineState). m.events) (c.self.view_is ∙ c.twin_looks.ensures.same) in
    let later : AreLaterThanTwo others old.events = subst (λ (es : List Event). AreLaterThanTwo others es) events c.later_than_two.ensures in
    looking-two c.args.period others old c.requires.quiet c.requires.some c.requires.first (c.twin_looks.ensures.looks (search rules)) later

pub returns-clause-looks : goal.returns-clause-looks
returns-clause-looks g c =
    let old = c.args.self.now in
    let others = c.others_later.result in
    let events : c.self.inside.events ≡ old.events = ap (λ (m : MachineState). m.events) (c.self.view_is ∙ c.twin_looks.ensures.same) in
    let later : AreOthersLater others old.events = subst (λ (es : List Event). AreOthersLater others es) events c.others_later.ensures in
    looking-one c.args.period others old c.requires.quiet c.requires.some c.requires.first later
