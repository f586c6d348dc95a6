use Rattle.std.proofs.Common.{◌++◌, List, refl, ap, sym, ◌∙◌}
use Rattle.file_traits.specs.Lists.{NamedBytes}
use Rattle.file_commands.specs.declared.note.Subject.TheVariants as subject
use Rattle.file_commands.specs.declared.stamp.Stamp.{Stamp}
use Rattle.nova_machine.specs.Seen.{seen, beside}
use Rattle.host_commands.specs.DoEffects.{script_of}
use Rattle.command_session.specs.WholeCalls.{read_notes}
use Rattle.command_session.proofs.BehindLemmas.{stamp_in}
use Rattle.host_commands.proofs.DoLemmas.{do-did}
use Rattle.command_session.proofs.WholeLemmas.{read-claims, read-keeps, short-read, read-own, unread-cause}
use Rattle.command_session.proofs.OwnFileLemmas.{whole-own}
use Rattle.host_commands.proofs.FileWorkLemmas.{do-works}
use Rattle.host_commands.proofs.do_command.do_script.Goals as goal

pub returns-clause-told : goal.returns-clause-told
returns-clause-told g c = λ lines whole tells text told.
    let s = c.session.inside in
    let before = g.F.Files.state c.args.files.now in
    let after = g.F.Files.state c.read_file-whole.new.files in
    let stamped = c.stamp_of-stamp.ensures ∙ ap stamp_in (sym c.session.view_is) in
    rw (← c.session.view_is)
    (do-did s.command (seen (beside s.watch s.keys before.files lines) whole s.machine) (seen (beside s.watch s.keys after.files lines) whole s.machine) c.args.echo c.args.strict c.args.name.now c.read_file-whole.result c.script_answer.result tells text
    s.notes.items c.note_reading.new.notes.items c.script_answer.ensures (ap (λ (l : List NamedBytes). seen (beside s.watch s.keys l lines) whole s.machine) (c.read_file-whole.ensures.files told)) (c.read_file-whole.ensures.said told)
    (c.note_reading.ensures.notes ∙ ap (λ (t : Stamp). s.notes.items ++ read_notes subject.Script t c.read_file-whole.result) stamped))

pub returns-clause-keeps : goal.returns-clause-keeps
returns-clause-keeps g c =
    let s = c.session.inside in
    let read = c.read_file-whole.ensures in
    let stamped = c.stamp_of-stamp.ensures ∙ ap stamp_in (sym c.session.view_is) in
    rw (← c.session.view_is)
    (read-keeps subject.Script s.command s.machine.time g.F.Files.tells (script_of c.args.echo c.args.strict) c.read_file-whole.result c.script_answer.result s.notes.items c.note_reading.new.notes.items
    (g.F.Files.state c.args.files.now) (g.F.Files.state c.read_file-whole.new.files) (λ bytes kept shut. shut) c.script_answer.ensures read.shape
    (record { counts = read.counts; openings = read.openings; ids = read.ids; one = read.one })
    (c.note_reading.ensures.notes ∙ ap (λ (t : Stamp). s.notes.items ++ read_notes subject.Script t c.read_file-whole.result) stamped))

pub returns-clause-undone : goal.returns-clause-undone
returns-clause-undone g c = λ text is.
    let s = c.session.inside in
    let read = c.read_file-whole.ensures in
    let stamped = c.stamp_of-stamp.ensures ∙ ap stamp_in (sym c.session.view_is) in
    rw (← c.session.view_is)
    (record {
      left = record { machine = refl; watch = refl };
      notes = short-read subject.Script s.command s.machine.time (script_of c.args.echo c.args.strict) c.read_file-whole.result s.notes.items c.note_reading.new.notes.items
          (λ bytes. tt) (sym c.script_answer.ensures ∙ is) read.shape
          (c.note_reading.ensures.notes ∙ ap (λ (t : Stamp). s.notes.items ++ read_notes subject.Script t c.read_file-whole.result) stamped);
      written = refl;
      lines = refl;
      live = λ told steps lines whole. ap (λ (l : List NamedBytes). seen (beside s.watch s.keys l lines) whole s.machine) (read.files told);
    })

pub returns-clause-own : goal.returns-clause-own
returns-clause-own g c =
    (read-own subject.Script (script_of c.args.echo c.args.strict) c.read_file-whole.result.bytes c.script_answer.result (λ bytes. (tt, tt)) c.script_answer.ensures).0

pub returns-clause-exit : goal.returns-clause-exit
returns-clause-exit g c =
    (read-own subject.Script (script_of c.args.echo c.args.strict) c.read_file-whole.result.bytes c.script_answer.result (λ bytes. (tt, tt)) c.script_answer.ensures).1

pub returns-clause-whose : goal.returns-clause-whose
returns-clause-whose g c =
    let s = c.session.inside in
    let w = c.read_file-whole.result in
    let read = c.read_file-whole.ensures in
    rw (← c.session.view_is)
    (whole-own subject.Script c.stamp_of-stamp.result 0 w.failed w.closing s.machine.slots s.machine.slots s.notes.items c.note_reading.new.notes.items
    (g.F.Files.state c.args.files.now) (g.F.Files.state c.read_file-whole.new.files) refl (read-claims w read.shape) read.failed read.closing read.ids c.note_reading.ensures.notes)

pub returns-clause-whole : goal.returns-clause-whole
returns-clause-whole g c =
    unread-cause subject.Script (script_of c.args.echo c.args.strict) g.F.Files.tells c.args.name.now c.read_file-whole.result.bytes c.script_answer.result
    (g.F.Files.state c.args.files.now) (g.F.Files.state c.read_file-whole.new.files) (λ bytes. tt) c.script_answer.ensures c.read_file-whole.ensures.cause

pub returns-clause-works : goal.returns-clause-works
returns-clause-works g c =
    do-works c.args.echo c.args.strict c.read_file-whole.result.bytes c.script_answer.result (g.F.Files.state c.args.files.now) (g.F.Files.state c.read_file-whole.new.files) c.script_answer.ensures
    c.read_file-whole.ensures.taken
