use Rattle.std.proofs.Common.{◌≡◌, ◌++◌, List, refl, ap, sym, ◌∙◌, append-nil, arith}
use Rattle.file_traits.specs.Lists.{NamedBytes}
use Rattle.file_commands.specs.declared.note.Subject.TheVariants as subject
use Rattle.file_commands.specs.declared.note.FaultNote.{FaultNote}
use Rattle.file_commands.specs.declared.stamp.Stamp.{Stamp}
use Rattle.nova_machine.specs.Seen.{seen, beside}
use Rattle.command_session.specs.WholeCalls.{write_notes}
use Rattle.command_session.proofs.BehindLemmas.{stamp_in}
use Rattle.command_session.proofs.WholeLemmas.{write-claims, dump-is, write-did, write-keeps, none-written, write-own}
use Rattle.command_session.proofs.OwnFileLemmas.{whole-own}
use Rattle.host_commands.proofs.dump_command.write_tape.Goals as goal

pub returns-clause-told : goal.returns-clause-told
returns-clause-told g c = λ lines whole tells text told.
    let s = c.session.inside in
    let before = g.F.Files.state c.args.files.now in
    let after = g.F.Files.state c.write_file-written.new.files in
    let w = c.write_file-written.result in
    let write = c.write_file-written.ensures in
    let live = seen (beside s.watch s.keys before.files lines) whole s.machine in
    let stamped = c.stamp_of-stamp.ensures ∙ ap stamp_in (sym c.session.view_is) in
    rw (← c.session.view_is)
    (write-did subject.Dump (λ (l : List NamedBytes). record live { files = l }) s.command s.machine.time (seen (beside s.watch s.keys after.files lines) whole s.machine)
    c.args.name.now c.args.tape.now before.files after.files w c.written_answer.result tells text s.notes.items c.note_writing.new.notes.items
    dump-is c.written_answer.ensures refl (write.made told) write.shape.fits (write.said told)
    (c.note_writing.ensures.notes ∙ ap (λ (t : Stamp). s.notes.items ++ write_notes subject.Dump t w) stamped))

pub returns-clause-keeps : goal.returns-clause-keeps
returns-clause-keeps g c =
    let s = c.session.inside in
    let w = c.write_file-written.result in
    let write = c.write_file-written.ensures in
    let stamped = c.stamp_of-stamp.ensures ∙ ap stamp_in (sym c.session.view_is) in
    rw (← c.session.view_is)
    (write-keeps subject.Dump s.command s.machine.time g.F.Files.tells c.args.tape.now w c.written_answer.result s.notes.items
    c.note_writing.new.notes.items (g.F.Files.state c.args.files.now) (g.F.Files.state c.write_file-written.new.files)
    c.written_answer.ensures write.shape (omega (arith, write.shape.done, c.requires.size)) (record { counts = write.counts; openings = write.openings; ids = write.ids; one = write.one })
    (c.note_writing.ensures.notes ∙ ap (λ (t : Stamp). s.notes.items ++ write_notes subject.Dump t w) stamped))

pub returns-clause-undone : goal.returns-clause-undone
returns-clause-undone g c = λ text is.
    let s = c.session.inside in
    let write = c.write_file-written.ensures in
    let none =
    none-written subject.Dump c.stamp_of-stamp.result c.args.tape.now c.write_file-written.result write.shape (sym c.written_answer.ensures ∙ is) in
    let kept : c.note_writing.new.notes.items ≡ s.notes.items =
    c.note_writing.ensures.notes ∙ ap (λ (l : List FaultNote). s.notes.items ++ l) none.0 ∙ append-nil s.notes.items in
    rw (← c.session.view_is)
    (record {
      left = record { machine = refl; watch = refl };
      notes = kept;
      written = refl;
      lines = refl;
      live = λ _ steps lines whole. ap (λ (l : List NamedBytes). seen (beside s.watch s.keys l lines) whole s.machine) (write.unmade none.1);
    })

pub returns-clause-own : goal.returns-clause-own
returns-clause-own g c = (write-own subject.Dump c.write_file-written.result.answer c.written_answer.result c.written_answer.ensures).0

pub returns-clause-exit : goal.returns-clause-exit
returns-clause-exit g c = (write-own subject.Dump c.write_file-written.result.answer c.written_answer.result c.written_answer.ensures).1

pub returns-clause-whose : goal.returns-clause-whose
returns-clause-whose g c =
    let s = c.session.inside in
    let w = c.write_file-written.result in
    let write = c.write_file-written.ensures in
    rw (← c.session.view_is)
    (whole-own subject.Dump c.stamp_of-stamp.result w.done w.failed w.closing s.machine.slots s.machine.slots s.notes.items c.note_writing.new.notes.items
    (g.F.Files.state c.args.files.now) (g.F.Files.state c.write_file-written.new.files) refl (write-claims c.args.tape.now w write.shape) write.failed write.closing write.ids
    c.note_writing.ensures.notes)
