use Rattle.std.proofs.Common.{◌≡◌, ◌++◌, ℕ, List, Option, None, Err, refl, ap, sym, ◌∙◌, subst, append-nil, true}
use Rattle.file_traits.specs.Lists.{NamedBytes}
use Rattle.unit_files.specs.Attachments.{Attachment}
use Rattle.file_commands.specs.declared.note.Subject.TheVariants as subject
use Rattle.file_commands.specs.declared.note.FaultNote.{FaultNote}
use Rattle.file_commands.specs.declared.stamp.Stamp.{Stamp}
use Rattle.nova_machine.specs.Machine.{MachineState}
use Rattle.nova_machine.specs.Seen.{seen, beside}
use Rattle.saved_session.specs.declared.saved.Saved.{Saved}
use Rattle.saved_session.specs.Parts.{state_in}
use Rattle.saved_files.specs.Taking.{first_unsaved, save_claim}
use Rattle.state_text.specs.Text.{text as text_of}
use Rattle.command_session.specs.Live.{Live}
use Rattle.command_session.specs.Remains.{MachineRemains, Remains}
use Rattle.state_commands.specs.StateEffects.{save_notes}
use Rattle.command_session.specs.WholeCalls.{write_notes}
use Rattle.command_session.specs.Doing.{KeepsOwn}
use Rattle.command_session.proofs.BehindLemmas.{stamp_in}
use Rattle.command_session.proofs.SeenLemmas.{attached-erased}
use Rattle.state_commands.proofs.SaveLemmas.{saved-step, saved-did, refused-did, quiet-keeps, refused-keeps, copy-left, flushed-live, flushed-remains, unless, unless-both, time-kept, remains-by}
use Rattle.command_session.proofs.WholeLemmas.{write-keeps, none-written}
use Rattle.state_commands.proofs.save_command.save.Goals as goal

pub returns-in-Ok-clause-told : goal.returns-in-Ok-clause-told
returns-in-Ok-clause-told g c =
    let s = c.session.inside in
    let before = g.F.Files.state c.args.files.now in
    let mid = g.F.Files.state c.take_state.new.files in
    let after = g.F.Files.state c.write_saved-written.new.files in
    let m = c.take_state.new.machine in
    let w = c.write_saved-written.result in
    let write = c.write_saved-written.ensures in
    let taken = c.in-Ok.ensures in
    let stamped = c.stamp_of-stamp.ensures ∙ ap stamp_in (sym c.session.view_is) in
    rw (← c.session.view_is) (λ told step lines whole tells out.
    let live = seen (beside s.watch s.keys before.files lines) whole s.machine in
    let behind = seen (beside s.watch s.keys mid.files lines) whole m in
    saved-did live behind c.args.name.now w (flushed-live None s.watch s.keys before.files mid.files lines whole s.machine m taken.machine (taken.files step))
    (ap (λ (l : List (Option Attachment)). first_unsaved None l s.machine.disk before.files) (attached-erased s.machine) ∙ taken.first told step)
    s.command (seen (beside s.watch s.keys after.files lines) whole m) (text_of (state_in c.in-Ok.saved)) after.files c.written_answer.result tells out s.notes.items c.note_writing.new.notes.items
    (ap text_of (taken.told told s.keys lines whole)) c.written_answer.ensures refl (write.made told) write.shape.fits (write.said told)
    (c.note_writing.ensures.notes ∙ ap (λ (t : Stamp). s.notes.items ++ write_notes subject.State t w) stamped))

pub returns-in-Ok-clause-undone : goal.returns-in-Ok-clause-undone
returns-in-Ok-clause-undone g c = λ out is.
    let s = c.session.inside in
    let m = c.take_state.new.machine in
    let before = g.F.Files.state c.args.files.now in
    let mid = g.F.Files.state c.take_state.new.files in
    let write = c.write_saved-written.ensures in
    let taken = c.in-Ok.ensures in
    let none =
    none-written subject.State c.stamp_of-stamp.result (text_of (state_in c.in-Ok.saved)) c.write_saved-written.result write.shape (sym c.written_answer.ensures ∙ is) in
    rw (← c.session.view_is)
    (record {
      left = record { machine = subst (λ (x : MachineState). MachineRemains true s.machine x) (sym taken.machine) (copy-left None s.machine); watch = refl };
      notes = c.note_writing.ensures.notes ∙ ap (λ (l : List FaultNote). s.notes.items ++ l) none.0 ∙ append-nil s.notes.items;
      written = refl;
      lines = ap (λ (x : MachineState). x.lines) taken.machine;
      live = λ _ step lines whole.
          let live = seen (beside s.watch s.keys before.files lines) whole s.machine in
          subst (λ (l : Live). Remains true live l)
          (flushed-live None s.watch s.keys before.files mid.files lines whole s.machine m taken.machine (taken.files step)
          ∙ ap (λ (l : List NamedBytes). seen (beside s.watch s.keys l lines) whole m) (sym (write.unmade none.1)))
          (flushed-remains live);
    })

pub returns-in-Ok-clause-keeps : goal.returns-in-Ok-clause-keeps
returns-in-Ok-clause-keeps g c =
    let s = c.session.inside in
    let before = g.F.Files.state c.args.files.now in
    let mid = g.F.Files.state c.take_state.new.files in
    let after = g.F.Files.state c.write_saved-written.new.files in
    let w = c.write_saved-written.result in
    let write = c.write_saved-written.ensures in
    let taken = c.in-Ok.ensures in
    let stamped = c.stamp_of-stamp.ensures ∙ ap stamp_in (sym c.session.view_is) in
    let time : c.take_state.new.machine.time ≡ s.machine.time = ap (λ (x : MachineState). x.time) taken.machine in
    rw (← c.session.view_is)
    (subst (λ (t : ℕ). KeepsOwn s.command t g.F.Files.tells c.written_answer.result s.notes.items c.note_writing.new.notes.items before after) (sym time)
    (quiet-keeps s.command s.machine.time g.F.Files.tells c.written_answer.result s.notes.items c.note_writing.new.notes.items before mid after taken.cause
    (write-keeps subject.State s.command s.machine.time g.F.Files.tells (text_of (state_in c.in-Ok.saved)) w c.written_answer.result s.notes.items
    c.note_writing.new.notes.items mid after c.written_answer.ensures write.shape tt (record { counts = write.counts; openings = write.openings; ids = write.ids; one = write.one })
    (c.note_writing.ensures.notes ∙ ap (λ (t : Stamp). s.notes.items ++ write_notes subject.State t w) stamped))))

pub returns-in-Err-clause-told : goal.returns-in-Err-clause-told
returns-in-Err-clause-told g c =
    let s = c.session.inside in
    let before = g.F.Files.state c.args.files.now in
    let mid = g.F.Files.state c.take_state.new.files in
    let m = c.take_state.new.machine in
    let f = c.in-Err.fault in
    let taken = c.in-Err.ensures in
    let stamped = c.stamp_of-stamp.ensures ∙ ap stamp_in (sym c.session.view_is) in
    rw (← c.session.view_is) (λ told step lines whole tells out.
    refused-did s.command (seen (beside s.watch s.keys before.files lines) whole s.machine) (seen (beside s.watch s.keys mid.files lines) whole m) c.args.name.now f (Err c.fault_of_save.result) tells out
    s.notes.items c.note_saving.new.notes.items
    (unless f (λ e. ap (λ (l : List (Option Attachment)). first_unsaved (save_claim {T = Saved} (Err f)) l s.machine.disk before.files) (attached-erased s.machine) ∙ e) (taken.first told step))
    (unless-both f (λ machine files. sym (flushed-live (save_claim {T = Saved} (Err f)) s.watch s.keys before.files mid.files lines whole s.machine m machine files)) taken.machine (taken.files step))
    (c.note_saving.ensures.notes ∙ ap (λ (t : Stamp). s.notes.items ++ save_notes t f) stamped) (ap Err c.fault_of_save.ensures))

pub returns-in-Err-clause-keeps : goal.returns-in-Err-clause-keeps
returns-in-Err-clause-keeps g c =
    let s = c.session.inside in
    let before = g.F.Files.state c.args.files.now in
    let mid = g.F.Files.state c.take_state.new.files in
    let f = c.in-Err.fault in
    let taken = c.in-Err.ensures in
    let stamped = c.stamp_of-stamp.ensures ∙ ap stamp_in (sym c.session.view_is) in
    let time = time-kept _ f s.machine c.take_state.new.machine (save_claim {T = Saved} (Err f)) taken.machine taken.no_memory in
    rw (← c.session.view_is)
    (subst (λ (t : ℕ). KeepsOwn s.command t g.F.Files.tells (Err c.fault_of_save.result) s.notes.items c.note_saving.new.notes.items before mid) (sym time)
    (refused-keeps s.command s.machine.time g.F.Files.tells f (Err c.fault_of_save.result) s.machine.slots s.notes.items c.note_saving.new.notes.items before mid taken.cause
    (c.note_saving.ensures.notes ∙ ap (λ (t : Stamp). s.notes.items ++ save_notes t f) stamped) (ap Err c.fault_of_save.ensures)))

pub returns-in-Ok-clause-machine : goal.returns-in-Ok-clause-machine
returns-in-Ok-clause-machine g c =
    let s = c.session.inside in
    rw (← c.session.view_is) (subst (λ (x : MachineState). MachineRemains true s.machine x) (sym c.in-Ok.ensures.machine) (copy-left None s.machine))

pub returns-in-Err-clause-machine : goal.returns-in-Err-clause-machine
returns-in-Err-clause-machine g c =
    let s = c.session.inside in
    let taken = c.in-Err.ensures in
    rw (← c.session.view_is) (remains-by _ c.in-Err.fault s.machine c.take_state.new.machine (save_claim {T = Saved} (Err c.in-Err.fault)) taken.machine taken.no_memory)

pub returns-in-Ok-clause-step : goal.returns-in-Ok-clause-step
returns-in-Ok-clause-step g c =
    let s = c.session.inside in
    let taken = c.in-Ok.ensures in
    rw (← c.session.view_is) (λ told.
    saved-step s.watch s.keys s.machine c.take_state.new.machine (g.F.Files.state c.args.files.now).files (g.F.Files.state c.take_state.new.files).files
    (g.F.Files.state c.write_saved-written.new.files).files taken.machine taken.step)

pub returns-in-Err-clause-step : goal.returns-in-Err-clause-step
returns-in-Err-clause-step g c = rw (← c.session.view_is) (λ told step lines lines' whole whole' alone. c.in-Err.ensures.step step)
