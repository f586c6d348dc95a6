use Rattle.std.proofs.Common.{Ok, Err, ◌≡◌, ℕ, refl, ap, sym, ◌∙◌, subst, ◌≤◌, ◌^◌}
use Rattle.unit_files.specs.Attachments.{attachments_of}
use Rattle.file_commands.specs.Notes.{notes_said}
use Rattle.unit_files.specs.Buffer.{AttachedFiles}
use Rattle.nova_machine.specs.Machine.{MachineState, attached_files, with_attached_files}
use Rattle.nova_machine.specs.Seen.{seen, beside}
use Rattle.command_session.specs.declared.next.Next.TheVariants.{Go}
use Rattle.unit_files.specs.declared.modes.AttachMode.{AttachMode}
use Rattle.unit_files.specs.Causes.{CountsAttach}
use Rattle.command_session.specs.Live.{CommandState}
use Rattle.command_session.specs.FileEffects.{mode_of}
use Rattle.command_session.specs.Doing.{OpensForUnit, KeepsAs}
use Rattle.command_session.proofs.SeenLemmas.{attached-erased}
use Rattle.command_session.proofs.BehindLemmas.{stamp_in}
use Rattle.host_commands.proofs.AttachLemmas.{begins-within, attach-lacking, attach-done, becomes-attached, becomes-refused, attach-untried, attach-keeps}
use Rattle.unit_list.specs.Bus.{kinds_of}
use Rattle.host_commands.proofs.FileKinds.{positioned-kinds}
use Rattle.host_commands.proofs.AttachTables.{lacking-by-tables, attach-tables, opened-by-cause}
use Rattle.host_commands.proofs.FileWorkLemmas.{attached-works}
use Rattle.host_commands.proofs.StepLemmas.{attached-step, held-step}
use Rattle.host_commands.proofs.unit_commands.attach.Goals as goal

pub returns-then-lacks_unit-clause-told : goal.returns-then-lacks_unit-clause-told
returns-then-lacks_unit-clause-told g c = λ lines whole tells text told.
    let s = c.session.inside in
    rw (← c.session.view_is)
    (attach-lacking s.command (seen (beside s.watch s.keys (g.F.Files.state c.args.files.now).files lines) whole s.machine) c.args.option c.args.unit c.args.name.now tells text
    (notes_said s.notes.items) (sym c.lacks_unit.ensures ∙ c.if-lacks_unit.true))

pub set_position-requires-clause-place : goal.set_position-requires-clause-place
set_position-requires-clause-place g c =
    subst (λ (place : ℕ). place ≤ 8 ^ 8) (sym c.first_place.ensures.place)
    (begins-within c.session.inside.machine c.args.unit c.in-Ok.count (sym c.lacks_unit.ensures ∙ c.if-lacks_unit.false) c.in-Ok.ensures.bound)

pub returns-in-Ok-clause-told : goal.returns-in-Ok-clause-told
returns-in-Ok-clause-told g c = λ lines whole tells text told.
    let s = c.session.inside in
    let before = g.F.Files.state c.args.files.now in
    let after = g.F.Files.state c.attach_unit.new.files in
    let new = c.attach_unit.new in
    let held = c.attached_mut.result.now in
    let done = c.in-Ok.ensures in
    rw (← c.session.view_is)
    (attach-done s.command c.stamp_of-stamp.result c.mode_of-mode.result (seen (beside s.watch s.keys before.files lines) whole s.machine) (seen (beside s.watch s.keys after.files lines) whole c.set_position.new.machine) (attachments_of held.slots)
    c.args.option c.args.unit c.args.name.now (Ok c.in-Ok.count) (Ok Go) tells text s.notes.items new.notes.items
    (c.stamp_of-stamp.ensures ∙ ap stamp_in (sym c.session.view_is)) c.mode_of-mode.ensures (ap (λ (a : AttachedFiles). attachments_of a.slots) c.attached_mut.ensures.value ∙ sym (attached-erased s.machine))
    refl (sym c.lacks_unit.ensures ∙ c.if-lacks_unit.false) tt
    (record {
      said = done.said told;
      left = done.files told;
      becomes = becomes-attached s.watch s.keys before.files after.files lines whole s.machine c.set_position.new.machine new.attached held c.mode_of-mode.result c.args.unit c.args.name.now c.in-Ok.count c.first_place.result
          c.attached_mut.ensures.value done.attached (done.disk told) c.first_place.ensures.place c.set_position.ensures;
      noted = done.notes;
    }))

pub returns-in-Err-clause-told : goal.returns-in-Err-clause-told
returns-in-Err-clause-told g c = λ lines whole tells text told.
    let s = c.session.inside in
    let before = g.F.Files.state c.args.files.now in
    let after = g.F.Files.state c.attach_unit.new.files in
    let new = c.attach_unit.new in
    let held = c.attached_mut.result.now in
    let done = c.in-Err.ensures in
    rw (← c.session.view_is)
    (attach-done s.command c.stamp_of-stamp.result c.mode_of-mode.result (seen (beside s.watch s.keys before.files lines) whole s.machine) (seen (beside s.watch s.keys after.files lines) whole (with_attached_files s.machine new.attached)) (attachments_of held.slots)
    c.args.option c.args.unit c.args.name.now (Err c.in-Err.fault) (Err c.of_attach.result) tells text s.notes.items new.notes.items
    (c.stamp_of-stamp.ensures ∙ ap stamp_in (sym c.session.view_is)) c.mode_of-mode.ensures (ap (λ (a : AttachedFiles). attachments_of a.slots) c.attached_mut.ensures.value ∙ sym (attached-erased s.machine))
    (ap Err c.of_attach.ensures) (sym c.lacks_unit.ensures ∙ c.if-lacks_unit.false) done.own
    (record {
      said = done.said told;
      left = done.files told;
      becomes = becomes-refused s.watch s.keys before.files after.files lines whole s.machine new.attached held c.mode_of-mode.result c.args.unit c.args.name.now c.in-Err.fault
          c.attached_mut.ensures.value done.refused;
      noted = done.notes;
    }))

pub returns-then-lacks_unit-clause-keeps : goal.returns-then-lacks_unit-clause-keeps
returns-then-lacks_unit-clause-keeps g c =
    let s = c.session.inside in
    rw (← c.session.view_is)
    (attach-untried (mode_of c.args.option) s.command s.machine.time g.F.Files.tells s.notes.items s.notes.items (g.F.Files.state c.args.files.now) refl)

pub returns-in-Ok-clause-keeps : goal.returns-in-Ok-clause-keeps
returns-in-Ok-clause-keeps g c =
    let s = c.session.inside in
    let before = g.F.Files.state c.args.files.now in
    let after = g.F.Files.state c.attach_unit.new.files in
    let notes = c.attach_unit.new.notes.items in
    let done = c.in-Ok.ensures in
    let time_is : c.set_position.new.machine.time ≡ s.machine.time = ap (λ (m : MachineState). m.time) c.set_position.ensures in
    rw (← c.session.view_is)
    (subst (λ (time : ℕ). KeepsAs (OpensForUnit (mode_of c.args.option)) s.command time g.F.Files.tells (Ok Go) s.notes.items notes before after) (sym time_is)
    (attach-keeps (mode_of c.args.option) s.command s.machine.time c.stamp_of-stamp.result g.F.Files.tells c.args.unit (Ok c.in-Ok.count) (Ok Go) s.notes.items notes before after
    (c.stamp_of-stamp.ensures ∙ ap stamp_in (sym c.session.view_is)) refl done.notes done.counted done.own done.missing done.cause
    (subst (λ (mode : AttachMode). CountsAttach mode g.F.Files.tells (Ok c.in-Ok.count) before after) c.mode_of-mode.ensures done.exact) done.whose.ids))

pub returns-in-Err-clause-keeps : goal.returns-in-Err-clause-keeps
returns-in-Err-clause-keeps g c =
    let s = c.session.inside in
    let done = c.in-Err.ensures in
    rw (← c.session.view_is)
    (attach-keeps (mode_of c.args.option) s.command s.machine.time c.stamp_of-stamp.result g.F.Files.tells c.args.unit (Err c.in-Err.fault) (Err c.of_attach.result) s.notes.items c.attach_unit.new.notes.items
    (g.F.Files.state c.args.files.now) (g.F.Files.state c.attach_unit.new.files)
    (c.stamp_of-stamp.ensures ∙ ap stamp_in (sym c.session.view_is)) (ap Err c.of_attach.ensures) done.notes done.counted done.own done.missing done.cause
    (subst (λ (mode : AttachMode). CountsAttach mode g.F.Files.tells (Err c.in-Err.fault) (g.F.Files.state c.args.files.now) (g.F.Files.state c.attach_unit.new.files)) c.mode_of-mode.ensures done.exact)
    done.whose.ids)

pub returns-in-Ok-clause-kinds : goal.returns-in-Ok-clause-kinds
returns-in-Ok-clause-kinds g c =
    rw (← c.session.view_is)
    (ap (λ (m : MachineState). kinds_of m.units) c.set_position.ensures ∙ positioned-kinds c.args.unit c.first_place.result c.session.inside.machine.units)

pub returns-then-lacks_unit-clause-tables : goal.returns-then-lacks_unit-clause-tables
returns-then-lacks_unit-clause-tables g c = λ some.
    rw (← c.session.view_is)
    (lacking-by-tables c.session.inside.machine c.args.option c.args.unit (sym c.lacks_unit.ensures ∙ c.if-lacks_unit.true))

pub returns-in-Ok-clause-tables : goal.returns-in-Ok-clause-tables
returns-in-Ok-clause-tables g c = λ some.
    let s = c.session.inside in
    rw (← c.session.view_is)
    (attach-tables s.machine c.args.option c.args.unit c.mode_of-mode.result (attachments_of c.attached_mut.result.now.slots) (Ok c.in-Ok.count) (Ok Go)
    (ap (λ (a : AttachedFiles). attachments_of a.slots) c.attached_mut.ensures.value) c.mode_of-mode.ensures (sym c.lacks_unit.ensures ∙ c.if-lacks_unit.false) c.in-Ok.ensures.first refl some)

pub returns-in-Err-clause-tables : goal.returns-in-Err-clause-tables
returns-in-Err-clause-tables g c = λ some.
    let s = c.session.inside in
    rw (← c.session.view_is)
    (attach-tables s.machine c.args.option c.args.unit c.mode_of-mode.result (attachments_of c.attached_mut.result.now.slots) (Err c.in-Err.fault) (Err c.of_attach.result)
    (ap (λ (a : AttachedFiles). attachments_of a.slots) c.attached_mut.ensures.value) c.mode_of-mode.ensures (sym c.lacks_unit.ensures ∙ c.if-lacks_unit.false) c.in-Err.ensures.first (ap Err c.of_attach.ensures) some)

pub returns-in-Err-clause-opened : goal.returns-in-Err-clause-opened
returns-in-Err-clause-opened g c =
    opened-by-cause g.F.Files.tells (Err c.in-Err.fault) c.args.unit (Err c.of_attach.result) (g.F.Files.state c.args.files.now) (g.F.Files.state c.attach_unit.new.files) c.in-Err.ensures.cause (ap Err c.of_attach.ensures)

pub returns-in-Ok-clause-works : goal.returns-in-Ok-clause-works
returns-in-Ok-clause-works g c =
    let s = c.session.inside in
    let held = c.attached_mut.result.now in
    let done = c.in-Ok.ensures in
    rw (← c.session.view_is)
    (attached-works c.args.option c.args.unit c.args.name.now c.in-Ok.count c.mode_of-mode.result c.first_place.result s.machine c.set_position.new.machine held c.attach_unit.new.attached
    c.attached_mut.ensures.value c.mode_of-mode.ensures done.attached done.other c.first_place.ensures.place c.set_position.ensures)

pub returns-in-Err-clause-works : goal.returns-in-Err-clause-works
returns-in-Err-clause-works g c =
    let s = c.session.inside in
    rw (← c.session.view_is) (ap (with_attached_files s.machine) (c.in-Err.ensures.refused ∙ c.attached_mut.ensures.value))

pub returns-then-lacks_unit-clause-step : goal.returns-then-lacks_unit-clause-step
returns-then-lacks_unit-clause-step g c = rw (← c.session.view_is) (λ told step lines lines' whole whole' alone. step)

pub returns-in-Ok-clause-step : goal.returns-in-Ok-clause-step
returns-in-Ok-clause-step g c = λ told.
    let s = c.session.inside in
    let done = c.in-Ok.ensures in
    let new : CommandState = record { machine = c.set_position.new.machine; watch = s.watch; keys = s.keys; limit = s.limit; notes = c.attach_unit.new.notes.items; command = s.command; spare = 0 } in
    attached-step c.mode_of-mode.result c.args.unit c.args.name.now c.in-Ok.count c.args.session.now new c.attach_unit.new.attached c.attached_mut.result.now
    (g.F.Files.state c.args.files.now).files (g.F.Files.state c.attach_unit.new.files).files
    (c.attached_mut.ensures.value ∙ ap (λ (x : CommandState). attached_files x.machine) c.session.view_is) (ap attached_files c.set_position.ensures) done.attached
    (done.step told) done.other done.other_marks

pub returns-in-Err-clause-step : goal.returns-in-Err-clause-step
returns-in-Err-clause-step g c = λ told.
    let s = c.session.inside in
    let left = with_attached_files s.machine c.attach_unit.new.attached in
    let new : CommandState = record { machine = left; watch = s.watch; keys = s.keys; limit = s.limit; notes = c.attach_unit.new.notes.items; command = s.command; spare = 0 } in
    held-step c.args.session.now new (g.F.Files.state c.args.files.now).files (g.F.Files.state c.attach_unit.new.files).files
    (c.in-Err.ensures.refused ∙ c.attached_mut.ensures.value ∙ ap (λ (x : CommandState). attached_files x.machine) c.session.view_is)
