use Rattle.std.proofs.Common.{◌≡◌, ◌∙◌, List, Option, Some, IfSome, ap, refl, subst, rules}
use Rattle.unit_trait.specs.declared.kind.UnitName.{UnitName}
use Rattle.unit_list.specs.Bus.{kinds_of}
use Rattle.event_queue.specs.EventList.{Event, due, dues, served, activated}
use Rattle.nova_machine.specs.Core.{IsAmong}
use Rattle.nova_machine.specs.Machine.{MachineState}
use Rattle.nova_machine.specs.Looks.{keyboard}
use Rattle.nova_machine.specs.LineLooks.{second_keyboard}
use Rattle.nova_machine.proofs.LineLooks.{second-due, none-left, key-kinds}
use Rattle.nova_machine.proofs.machine.Machine.take_key_of_line.Goals as goal

pub answer-requires-clause-listed : goal.answer-requires-clause-listed
answer-requires-clause-listed g c =
    let m = c.args.self.now in
    let events : c.wish.new.self.events ≡ activated keyboard c.args.period (served m.events) =
    ap (λ (x : MachineState). x.events) c.wish.ensures.machine ∙ ap (λ (x : MachineState). activated keyboard c.args.period x.events) c.take_due.ensures.taken in
    let is : c.take_due-2.result ≡ Some second_keyboard = c.take_due-2.ensures.unit ∙ ap (λ (es : List Event). due es) events ∙ second-due c.args.period m c.requires.looking in
    subst (λ (o : Option UnitName). IfSome o (λ u. IsAmong u.kind (kinds_of c.take_due-2.new.self.units))) is c.take_due-2.ensures.listed

pub returns-clause-dues : goal.returns-clause-dues
returns-clause-dues g c =
    let m = c.args.self.now in
    let events : c.wish.new.self.events ≡ activated keyboard c.args.period (served m.events) =
    ap (λ (x : MachineState). x.events) c.wish.ensures.machine ∙ ap (λ (x : MachineState). activated keyboard c.args.period x.events) c.take_due.ensures.taken in
    c.answer.ensures.dues ∙ ap (λ (x : MachineState). dues x.events) c.take_due-2.ensures.taken ∙ ap (λ (es : List Event). dues (served es)) events
    ∙ none-left c.args.period m c.requires.looking

pub returns-clause-kinds : goal.returns-clause-kinds
returns-clause-kinds g c = key-kinds c.args.period c.args.key c.args.self.now c.args.self.now c.answer.new.self refl (search rules)
