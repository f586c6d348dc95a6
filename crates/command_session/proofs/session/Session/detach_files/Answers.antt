use Rattle.std.proofs.Common.{ap, sym, subst, ◌∙◌}
use Rattle.unit_files.specs.Attachments.{attachments_of}
use Rattle.unit_files.specs.Buffer.{AttachedFiles}
use Rattle.unit_files.specs.InStep.{InStep}
use Rattle.file_commands.specs.AllUnits.{attachable, filed_of, keeper, Empties}
use Rattle.nova_machine.specs.Machine.{attached_files}
use Rattle.nova_machine.specs.Seen.{seen, beside}
use Rattle.command_session.proofs.SeenLemmas.{attached-erased}
use Rattle.command_session.proofs.CloseLemmas.{closes-of, left-is, keeps-of}
use Rattle.command_session.proofs.session.Session.detach_files.Goals as goal

pub returns-clause-closes : goal.returns-clause-closes
returns-clause-closes g c =
    let m = c.self.inside.machine in
    let held = c.attached_mut.result.now in
    let old = g.F.Files.state c.args.files.now in
    let new = g.F.Files.state c.detach_all.new.files in
    let k = keeper c.detach_all.result in
    let was = c.attached_mut.ensures.value in
    let before = c.self.inside.notes.items in
    let after = c.detach_all.new.notes.items in
    let step = InStep (attached_files m) old.files in
    let empties : Empties step c.self.inside.command c.time.result attachable (filed_of held old.files) (filed_of c.detach_all.new.attached new.files) k before after old new =
    subst (λ (x : AttachedFiles). Empties (InStep x old.files) c.self.inside.command c.time.result attachable (filed_of held old.files) (filed_of c.detach_all.new.attached new.files) k before after old new)
    was c.detach_all.ensures.empties in
    λ lines whole.
    let live = seen (beside c.self.inside.watch c.self.inside.keys old.files lines) whole m in
    rw (← c.self.view_is)
    (closes-of step c.self.inside.command c.time.result live (filed_of held old.files) (filed_of c.detach_all.new.attached new.files) k before after old new c.time.ensures.time
    (λ i. record {
      attached = (ap (λ (a : AttachedFiles). attachments_of a.slots) was ∙ sym (attached-erased m)) i;
      disk = (ap (λ (a : AttachedFiles). a.disk) was) i;
      files = old.files;
    })
    empties _
    (left-is step c.self.inside.command c.time.result c.self.inside.watch c.self.inside.keys old.files new.files lines whole m c.detach_all.new.attached held k before after old new was empties))

pub returns-clause-keeps : goal.returns-clause-keeps
returns-clause-keeps g c =
    let held = c.attached_mut.result.now in
    let old = g.F.Files.state c.args.files.now in
    let new = g.F.Files.state c.detach_all.new.files in
    rw (← c.self.view_is)
    (keeps-of (InStep held old.files) c.self.inside.command c.time.result c.self.inside.machine.time g.F.Files.tells (filed_of held old.files) (filed_of c.detach_all.new.attached new.files) (keeper c.detach_all.result)
    c.self.inside.notes.items c.detach_all.new.notes.items old new c.time.ensures.time c.detach_all.ensures.empties)

pub returns-clause-step : goal.returns-clause-step
returns-clause-step g c =
    let old = (g.F.Files.state c.args.files.now).files in
    rw (← c.self.view_is) (λ step.
    c.detach_all.ensures.step (subst (λ (x : AttachedFiles). InStep x old) (sym c.attached_mut.ensures.value) step))
