use Rattle.std.proofs.Common.{◌∙◌, ℕ, List, Option, ap, subst}
use Rattle.unit_files.specs.Attachments.{Held, attachments_of, attachment_at}
use Rattle.unit_trait.specs.declared.calls.Want.TheVariants as wants
use Rattle.nova_machine.specs.Machine.{MachineState}
use Rattle.nova_machine.specs.Comes.{AreTold}
use Rattle.expect_actions.specs.Expects.{ExpectTable}
use Rattle.nova_machine.specs.Hosting.{IsHosted}
use Rattle.nova_machine.specs.StopCauses.{IsMadeOf}
use Rattle.nova_machine.specs.Steps.{IsTapeAnswer}
use Rattle.nova_machine.proofs.machine.Machine.move_tape.Goals as goal

pub returns-clause-said : goal.returns-clause-said
returns-clause-said g c = λ told key expects.
    let files = (g.F.Files.state c.args.files.now).files in
    subst (λ (slots : List (Option Held)). AreTold g.F.Files.tells slots → (key : Option ℕ) (expects : ExpectTable) → IsHosted (wants.Tape c.args.order) (attachment_at (attachments_of slots) c.args.unit) files key expects c.operate_drive.result)
    (ap (λ i. i.attached.slots) c.self-inside.view_is ∙ ap (λ (m : MachineState). m.slots) c.self.view_is) c.operate_drive.ensures.said told key expects

pub returns-clause-made : goal.returns-clause-made
returns-clause-made g c = λ key expects.
    subst (λ (slots : List (Option Held)). IsMadeOf (wants.Tape c.args.order) c.args.unit.kind (attachment_at (attachments_of slots) c.args.unit) key expects c.operate_drive.result)
    (ap (λ i. i.attached.slots) c.self-inside.view_is ∙ ap (λ (m : MachineState). m.slots) c.self.view_is) (c.operate_drive.ensures.made key expects)

pub returns-clause-answer : goal.returns-clause-answer
returns-clause-answer g c =
    subst (λ (slots : List (Option Held)). IsTapeAnswer c.args.order (attachment_at (attachments_of slots) c.args.unit) c.operate_drive.result)
    (ap (λ i. i.attached.slots) c.self-inside.view_is ∙ ap (λ (m : MachineState). m.slots) c.self.view_is) c.operate_drive.ensures.answer
