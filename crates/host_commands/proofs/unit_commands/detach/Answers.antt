use Rattle.std.proofs.Common.{Bool, List, Option, Some, None, is_none, Err, ◌≡◌, refl, ap, sym, subst, ◌∙◌, if◌then◌else◌}
use Rattle.unit_files.specs.Attachments.{Attachment, attachments_of, attachment_at}
use Rattle.file_commands.specs.Notes.{notes_said, failure_now}
use Rattle.file_commands.specs.declared.note.Subject.TheVariants as subject
use Rattle.file_commands.specs.Kept.{fault_of_detach, own_of}
use Rattle.unit_files.specs.Buffer.{AttachedFiles}
use Rattle.unit_files.specs.InStep.{InStep}
use Rattle.nova_machine.specs.Machine.{with_attached_files}
use Rattle.nova_machine.specs.Seen.{seen, beside, attached_in}
use Rattle.command_session.specs.declared.fault.CommandFault.TheVariants.{NoSuchName, NotAttached}
use Rattle.command_session.specs.Reply.{Answer}
use Rattle.command_session.specs.Answers.{IsByTables, OfUnit}
use Rattle.command_session.proofs.SeenLemmas.{attached-erased}
use Rattle.command_session.proofs.BehindLemmas.{stamp_in}
use Rattle.host_commands.proofs.DetachLemmas.{detach_result, detached-live, detach-done, detach-lacking, detach-keeps, detach-tables, detach-can}
use Rattle.host_commands.proofs.unit_commands.detach.Goals as goal
use Rattle.host_commands.proofs.unit_commands.detach.Goals.{in-Ok, in-Err}

pub returns-then-lacks_unit-clause-told : goal.returns-then-lacks_unit-clause-told
returns-then-lacks_unit-clause-told g c = λ step lines whole tells text.
    rw (← c.session.view_is)
    (detach-lacking c.session.inside.command (seen (beside c.session.inside.watch c.session.inside.keys (g.F.Files.state c.args.files.now).files lines) whole c.session.inside.machine) c.args.unit tells text
    (notes_said c.session.inside.notes.items) (sym c.lacks_unit.ensures ∙ c.if-lacks_unit.true))

pub returns-clause-told : goal.returns-clause-told
returns-clause-told g c =
    let answered : c.match-detach_unit.result ≡ detach_result c.detach_unit.result = elim c.match-detach_unit.branch [
      | in-Ok w ↦ w.result-is ∙ sym (ap detach_result w.in-Ok.is)
      | in-Err w ↦ w.result-is ∙ ap Err w.of_detach.ensures ∙ sym (ap detach_result w.in-Err.is)
    ] in
    let s = c.session.inside in
    let before = g.F.Files.state c.args.files.now in
    let after = g.F.Files.state c.detach_unit.new.files in
    let new = c.detach_unit.new in
    let held = c.attached_mut.result.now in
    let are = ap (λ (a : AttachedFiles). attachments_of a.slots) c.attached_mut.ensures.value ∙ sym (attached-erased s.machine) in
    rw (← c.session.view_is) (λ step lines whole tells text.
    detach-done s.command c.stamp_of-stamp.result (seen (beside s.watch s.keys before.files lines) whole s.machine) (seen (beside s.watch s.keys after.files lines) whole (with_attached_files s.machine new.attached)) (attachments_of held.slots) held.disk
    c.args.unit c.detach_unit.result c.match-detach_unit.result tells text s.notes.items new.notes.items
    (c.stamp_of-stamp.ensures ∙ ap stamp_in (sym c.session.view_is)) are (ap (λ (a : AttachedFiles). a.disk) c.attached_mut.ensures.value) answered (sym c.lacks_unit.ensures ∙ c.if-lacks_unit.false)
    (record { said = c.detach_unit.ensures.said; left = c.detach_unit.ensures.files (subst (λ (a : AttachedFiles). InStep a before.files) (sym c.attached_mut.ensures.value) step); noted = c.detach_unit.ensures.notes })
    (detached-live s.watch s.keys after.files lines whole s.machine new.attached held c.args.unit c.detach_unit.result c.attached_mut.ensures.value
    c.detach_unit.ensures.attached c.detach_unit.ensures.disk c.detach_unit.ensures.refused)
    c.detach_unit.ensures.own)

pub returns-clause-keeps : goal.returns-clause-keeps
returns-clause-keeps g c =
    let answered : c.match-detach_unit.result ≡ detach_result c.detach_unit.result = elim c.match-detach_unit.branch [
      | in-Ok w ↦ w.result-is ∙ sym (ap detach_result w.in-Ok.is)
      | in-Err w ↦ w.result-is ∙ ap Err w.of_detach.ensures ∙ sym (ap detach_result w.in-Err.is)
    ] in
    let s = c.session.inside in
    rw (← c.session.view_is)
    (detach-keeps s.command s.machine.time c.stamp_of-stamp.result g.F.Files.tells c.args.unit (attachments_of c.attached_mut.result.now.slots) c.attached_mut.result.now.disk c.detach_unit.result c.match-detach_unit.result
    s.notes.items c.detach_unit.new.notes.items (g.F.Files.state c.args.files.now) (g.F.Files.state c.detach_unit.new.files)
    (c.stamp_of-stamp.ensures ∙ ap stamp_in (sym c.session.view_is)) answered c.detach_unit.ensures.notes c.detach_unit.ensures.counted c.detach_unit.ensures.all c.detach_unit.ensures.said c.detach_unit.ensures.own)

pub returns-then-lacks_unit-clause-step : goal.returns-then-lacks_unit-clause-step
returns-then-lacks_unit-clause-step g c = rw (← c.session.view_is) (λ step. step)

pub returns-clause-step : goal.returns-clause-step
returns-clause-step g c =
    rw (← c.session.view_is) (λ step.
    c.detach_unit.ensures.step
    (subst (λ (a : AttachedFiles). InStep a (g.F.Files.state c.args.files.now).files) (sym c.attached_mut.ensures.value) step))

-- ---- the answer, whatever files tell

pub returns-then-lacks_unit-clause-tables : goal.returns-then-lacks_unit-clause-tables
returns-then-lacks_unit-clause-tables g c =
    rw (← c.session.view_is)
    (subst (λ (b : Bool). IsByTables (if b then Some NoSuchName else if is_none (attachment_at (attached_in c.session.inside.machine) c.args.unit) then Some NotAttached else None) (Err NoSuchName))
    (sym (sym c.lacks_unit.ensures ∙ c.if-lacks_unit.true)) refl)

pub returns-clause-tables : goal.returns-clause-tables
returns-clause-tables g c =
    let answered : c.match-detach_unit.result ≡ detach_result c.detach_unit.result = elim c.match-detach_unit.branch [
      | in-Ok w ↦ w.result-is ∙ sym (ap detach_result w.in-Ok.is)
      | in-Err w ↦ w.result-is ∙ ap Err w.of_detach.ensures ∙ sym (ap detach_result w.in-Err.is)
    ] in
    let s = c.session.inside in
    let unit = c.args.unit in
    let r = c.detach_unit.result in
    let held = c.attached_mut.result.now in
    let time = c.stamp_of-stamp.result.time in
    let are = ap (λ (a : AttachedFiles). attachments_of a.slots) c.attached_mut.ensures.value in
    rw (← c.session.view_is)
    (subst (λ (b : Bool). IsByTables (if b then Some NoSuchName else if is_none (attachment_at (attached_in s.machine) unit) then Some NotAttached else None) c.match-detach_unit.result)
    (sym (sym c.lacks_unit.ensures ∙ c.if-lacks_unit.false))
    (subst (λ (a : Answer). IsByTables (if is_none (attachment_at (attached_in s.machine) unit) then Some NotAttached else None) a) (sym answered)
    (subst (λ (l : List (Option Attachment)). IsByTables (if is_none (attachment_at l unit) then Some NotAttached else None) (detach_result r)) are
    (detach-tables (failure_now time (subject.Unit unit) (own_of time (fault_of_detach r))) unit (attachments_of held.slots) held.disk r c.detach_unit.ensures.said))))

pub returns-clause-answers : goal.returns-clause-answers
returns-clause-answers g c =
    let answered : c.match-detach_unit.result ≡ detach_result c.detach_unit.result = elim c.match-detach_unit.branch [
      | in-Ok w ↦ w.result-is ∙ sym (ap detach_result w.in-Ok.is)
      | in-Err w ↦ w.result-is ∙ ap Err w.of_detach.ensures ∙ sym (ap detach_result w.in-Err.is)
    ] in
    subst (λ (a : Answer). OfUnit c.args.unit a) (sym answered) (detach-can c.args.unit c.detach_unit.result c.detach_unit.ensures.own)
