use Rattle.std.proofs.Common.{◌≡◌, ◌++◌, ◌<◌, ◌≤◌, arith, ℕ, Bool, true, List, Option, None, Result, Ok, Err, IfOk, length, refl, ap, sym, ◌∙◌, subst, append-nil}
use Rattle.file_traits.specs.Lists.{NamedBytes, bytes_of}
use Rattle.host_lines.specs.Told.{ahead_of}
use Rattle.file_commands.specs.declared.note.Subject.TheVariants as subject
use Rattle.file_commands.specs.declared.note.FaultNote.{FaultNote}
use Rattle.file_commands.specs.declared.stamp.Stamp.{Stamp}
use Rattle.file_commands.proofs.OwnFiles.{own-both, unnoted}
use Rattle.std.specs.Global.{Vec}
use Rattle.whole_files.specs.declared.whole.WholeFault.{WholeFault}
use Rattle.whole_files.specs.Claims.{WholeCause}
use Rattle.nova_machine.specs.Machine.{MachineState, attached_files}
use Rattle.nova_machine.specs.Seen.{seen, beside}
use Rattle.unit_files.specs.Attachments.{no_attachments}
use Rattle.unit_files.specs.InStep.{InStep}
use Rattle.saved_session.specs.Ranges.{has_multiplexer}
use Rattle.state_transfer.specs.Ports.{ports_wanted}
use Rattle.state_transfer.specs.Listening.{LeavesLines}
use Rattle.saved_session.specs.Parts.{state_in}
use Rattle.state_transfer.specs.Putting.{with_machine_of}
use Rattle.telnet_lines.specs.Line.{LineOf}
use Rattle.state_transfer.specs.PutBack.{put_back}
use Rattle.unit_trait.specs.declared.kind.UnitName.{UnitName}
use Rattle.saved_files.specs.Putting.{FileRefusal, claim_in, first_refused, SaysFirst}
use Rattle.command_session.specs.declared.next.Next.TheVariants.{Go}
use Rattle.command_session.specs.declared.fault.CommandFault.TheVariants.{AlreadyAttached}
use Rattle.command_session.specs.declared.fault.CommandFault.{CommandFault}
use Rattle.command_session.specs.LinesLeft.{Unlistened}
use Rattle.state_commands.specs.StateEffects.{restore_notes, restore_reply, restored_by}
use Rattle.state_text.specs.declared.fault.StateFault.{StateFault}
use Rattle.state_text.specs.declared.fault.StateFault.TheVariants as state
use Rattle.file_traits.specs.State.{FileState}
use Rattle.state_commands.specs.StateFaults.{state_fault}
use Rattle.command_session.specs.WholeCalls.{read_notes, whole_answer}
use Rattle.state_text.specs.declared.state_reader.StateReader.{StateReader}
use Rattle.state_commands.specs.StateReading.{WasFed, words_read, bytes_for, whole_of}
use Rattle.state_commands.proofs.StateReadingLemmas.{says_unread, says_read, fed_with}
use Rattle.command_session.proofs.BehindLemmas.{stamp_in}
use Rattle.command_session.proofs.DidLemmas.{refused-did}
use Rattle.command_session.proofs.KeptLemmas.{lines-kept, keeps-none, keeps-own}
use Rattle.command_session.proofs.OwnFileLemmas.{whole-own}
use Rattle.state_commands.proofs.RestoreLemmas.{occupied-reply, occupied-seen, unread-by, unfit-by, back-did}
use Rattle.state_commands.proofs.RestoreLines.{restore-done, restore-refused, restore-unasked, back-ends, refused-by}
use Rattle.state_commands.proofs.RestoreNotes.{restore-keeps, read-shut-notes, refused-restore-keeps, done-restore-keeps, restore-own, whole-fault, want-fault, want-why, no-notes}
use Rattle.command_session.proofs.WholeLemmas.{own_both, read-claims, read-keeps, short-read, TakesClosings}
use Rattle.saved_files.proofs.ValidFiles.{few-files}
use Rattle.state_commands.proofs.RestoredCan.{restored-can}
use Rattle.state_commands.proofs.StateWorkLemmas.{unread-works, unfit-works, refused-works}
use Rattle.state_commands.proofs.restore_command.restore.Goals as goal

pub returns-then-is_occupied-clause-told : goal.returns-then-is_occupied-clause-told
returns-then-is_occupied-clause-told g c = λ told telling apart whole first tells out.
    let s = c.session.inside in
    let ports = g.L.Lines.state c.args.lines.now in
    let live = seen (beside s.watch s.keys (g.F.Files.state c.args.files.now).files ports) whole s.machine in
    rw (← c.session.view_is)
    (refused-did (λ own. restore_reply own live c.args.force c.args.name.now) AlreadyAttached s.command live tells out _ tt
    (λ own. occupied-reply own live c.args.force c.args.name.now (occupied-seen ports s.machine ∙ sym c.is_occupied.ensures.test ∙ c.if-is_occupied.true)))

pub returns-then-is_occupied-clause-keeps : goal.returns-then-is_occupied-clause-keeps
returns-then-is_occupied-clause-keeps g c =
    let s = c.args.session.now in
    let state = g.F.Files.state c.args.files.now in
    restore-keeps s.command s.machine.time s.machine.time g.F.Files.tells (Err AlreadyAttached) s.notes s.notes state state
    (keeps-own s.command s.machine.time g.F.Files.tells (Err AlreadyAttached) s.notes s.notes state state
    (keeps-none s.command s.machine.time g.F.Files.tells (Err AlreadyAttached) s.notes s.notes state refl tt))

pub returns-then-is_occupied-clause-left : goal.returns-then-is_occupied-clause-left
returns-then-is_occupied-clause-left g c = lines-kept g.L.Lines.tells (g.L.Lines.state c.args.lines.now) c.args.session.now.machine.lines c.args.session.now.machine.lines refl

pub returns-in-Err-clause-told : goal.returns-in-Err-clause-told
returns-in-Err-clause-told g c = λ told telling apart whole first tells out.
    let s = c.session.inside in
    let ports = g.L.Lines.state c.args.lines.now in
    let before = g.F.Files.state c.args.files.now in
    let after = g.F.Files.state c.read_state_file-read.new.files in
    let w = whole_of c.read_state_file-read.result in
    let live = seen (beside s.watch s.keys before.files ports) whole s.machine in
    let stamped = c.stamp_of-stamp.ensures ∙ ap stamp_in (sym c.session.view_is) in
    rw (← c.session.view_is)
    (unread-by live c.args.force c.args.name.now w s.command tells out s.notes.items c.note_state_reading.new.notes.items c.in-Err.fault (Err c.of_whole.result)
    (seen (beside s.watch s.keys after.files ports) whole s.machine) (occupied-seen ports s.machine ∙ sym c.is_occupied.ensures.test ∙ c.if-is_occupied.false) (ap bytes_for c.in-Err.ensures.reader)
    (ap Err c.of_whole.ensures) (ap (λ (l : List NamedBytes). seen (beside s.watch s.keys l ports) whole s.machine) (c.read_state_file-read.ensures.files told))
    (says_unread c.args.name.now before.files c.read_state_file-read.result c.in-Err.fault c.in-Err.ensures.reader (c.read_state_file-read.ensures.said told))
    (c.note_state_reading.ensures.notes ∙ ap (λ (t : Stamp). s.notes.items ++ read_notes subject.State t w) stamped))

pub returns-in-Err-clause-left : goal.returns-in-Err-clause-left
returns-in-Err-clause-left g c =
    rw (← c.session.view_is) (lines-kept g.L.Lines.tells (g.L.Lines.state c.args.lines.now) c.session.inside.machine.lines c.session.inside.machine.lines refl)

pub returns-in-Err-clause-undone : goal.returns-in-Err-clause-undone
returns-in-Err-clause-undone g c = λ out is.
    let s = c.session.inside in
    let w = whole_of c.read_state_file-read.result in
    let read = c.read_state_file-read.ensures in
    let stamped = c.stamp_of-stamp.ensures ∙ ap stamp_in (sym c.session.view_is) in
    rw (← c.session.view_is)
    (record {
      left = record { machine = refl; watch = refl };
      notes = short-read subject.State s.command s.machine.time (λ bytes. Ok Go) w s.notes.items c.note_state_reading.new.notes.items (λ bytes. tt)
          (want-fault w.bytes c.in-Err.fault (ap bytes_for c.in-Err.ensures.reader) (ap Err (sym c.of_whole.ensures) ∙ is)) read.shape
          (c.note_state_reading.ensures.notes ∙ ap (λ (t : Stamp). s.notes.items ++ read_notes subject.State t w) stamped);
      written = refl;
      lines = refl;
      live = λ told steps lines whole. ap (λ (l : List NamedBytes). seen (beside s.watch s.keys l lines) whole s.machine) (read.files told);
    })

pub returns-in-Err-clause-measured : goal.returns-in-Err-clause-measured
returns-in-Err-clause-measured g c = λ is.
    subst (λ (b : Result (Vec ℕ) WholeFault). WholeCause g.F.Files.tells c.args.name.now b (g.F.Files.state c.args.files.now) (g.F.Files.state c.read_state_file-read.new.files))
    (ap bytes_for c.in-Err.ensures.reader ∙ ap Err (want-why c.in-Err.fault (ap Err (sym c.of_whole.ensures) ∙ is))) c.read_state_file-read.ensures.cause

pub returns-in-Err-clause-keeps : goal.returns-in-Err-clause-keeps
returns-in-Err-clause-keeps g c =
    let s = c.session.inside in
    let before = g.F.Files.state c.args.files.now in
    let mid = g.F.Files.state c.read_state_file-read.new.files in
    let w = whole_of c.read_state_file-read.result in
    let read = c.read_state_file-read.ensures in
    let stamped = c.stamp_of-stamp.ensures ∙ ap stamp_in (sym c.session.view_is) in
    rw (← c.session.view_is)
    (restore-keeps s.command s.machine.time s.machine.time g.F.Files.tells (Err c.of_whole.result) s.notes.items c.note_state_reading.new.notes.items before mid
    (read-keeps subject.State s.command s.machine.time g.F.Files.tells (λ bytes. Ok Go) w (Err c.of_whole.result) s.notes.items c.note_state_reading.new.notes.items before mid
    (λ bytes kept shut. shut) (ap Err c.of_whole.ensures ∙ sym (whole-fault w.bytes c.in-Err.fault (ap bytes_for c.in-Err.ensures.reader))) read.shape (record { counts = read.counts; openings = read.openings; ids = read.ids; one = read.one })
    (c.note_state_reading.ensures.notes ∙ ap (λ (t : Stamp). s.notes.items ++ read_notes subject.State t w) stamped)))

pub returns-in-Err-saved_in-clause-told : goal.returns-in-Err-saved_in-clause-told
returns-in-Err-saved_in-clause-told g c = λ told telling apart whole first tells out.
    let s = c.session.inside in
    let ports = g.L.Lines.state c.args.lines.now in
    let before = g.F.Files.state c.args.files.now in
    let after = g.F.Files.state c.read_state_file-read.new.files in
    let w = whole_of c.read_state_file-read.result in
    let live = seen (beside s.watch s.keys before.files ports) whole s.machine in
    let stamped = c.stamp_of-stamp.ensures ∙ ap stamp_in (sym c.session.view_is) in
    rw (← c.session.view_is)
    (unfit-by live c.args.force c.args.name.now w s.command tells out s.notes.items c.note_state_reading.new.notes.items (bytes_of before.files c.args.name.now) c.in-Err-saved_in.fault (Err c.fault_of_state.result)
    (seen (beside s.watch s.keys after.files ports) whole s.machine) (occupied-seen ports s.machine ∙ sym c.is_occupied.ensures.test ∙ c.if-is_occupied.false)
    (c.in-Err-saved_in.ensures.exact (bytes_of before.files c.args.name.now) (fed_with c.args.name.now before.files c.read_state_file-read.result c.in-Ok.reader c.in-Ok.ensures.reader (c.read_state_file-read.ensures.said told)))
    (ap Err c.fault_of_state.ensures) (ap (λ (l : List NamedBytes). seen (beside s.watch s.keys l ports) whole s.machine) (c.read_state_file-read.ensures.files told))
    (says_read c.args.name.now before.files c.read_state_file-read.result c.in-Ok.reader c.in-Ok.ensures.reader (c.read_state_file-read.ensures.said told))
    (c.note_state_reading.ensures.notes ∙ ap (λ (t : Stamp). s.notes.items ++ read_notes subject.State t w) stamped))

pub returns-in-Err-saved_in-clause-left : goal.returns-in-Err-saved_in-clause-left
returns-in-Err-saved_in-clause-left g c =
    rw (← c.session.view_is) (lines-kept g.L.Lines.tells (g.L.Lines.state c.args.lines.now) c.session.inside.machine.lines c.session.inside.machine.lines refl)

pub returns-in-Err-saved_in-clause-undone : goal.returns-in-Err-saved_in-clause-undone
returns-in-Err-saved_in-clause-undone g c = λ out is.
    let s = c.session.inside in
    let w = whole_of c.read_state_file-read.result in
    let read = c.read_state_file-read.ensures in
    let stamped = c.stamp_of-stamp.ensures ∙ ap stamp_in (sym c.session.view_is) in
    rw (← c.session.view_is)
    (record {
      left = record { machine = refl; watch = refl };
      notes = (
        read_notes subject.State (record { command = s.command; time = s.machine.time }) w,
        c.note_state_reading.ensures.notes ∙ ap (λ (t : Stamp). s.notes.items ++ read_notes subject.State t w) stamped,
        read-shut-notes s.command s.machine.time w (words_read c.in-Ok.reader) (ap bytes_for c.in-Ok.ensures.reader) read.shape,
      );
      written = refl;
      lines = refl;
      live = λ told steps lines whole. ap (λ (l : List NamedBytes). seen (beside s.watch s.keys l lines) whole s.machine) (read.files told);
    })

pub returns-in-Err-saved_in-clause-measured : goal.returns-in-Err-saved_in-clause-measured
returns-in-Err-saved_in-clause-measured g c = λ is more.
    subst (λ (b : Result (Vec ℕ) WholeFault). WholeCause g.F.Files.tells c.args.name.now b (g.F.Files.state c.args.files.now) (g.F.Files.state c.read_state_file-read.new.files))
    (ap bytes_for c.in-Ok.ensures.reader) c.read_state_file-read.ensures.cause

-- ---- the session was put back

pub returns-in-Ok-set_state-clause-told : goal.returns-in-Ok-set_state-clause-told
returns-in-Ok-set_state-clause-told g c = λ told telling apart whole first tells out.
    let s = c.session.inside in
    let ports = g.L.Lines.state c.args.lines.now in
    let ports' = g.L.Lines.state c.set_state.new.lines in
    let before = g.F.Files.state c.args.files.now in
    let mid = g.F.Files.state c.read_state_file-read.new.files in
    let after = g.F.Files.state c.set_state.new.files in
    let w = whole_of c.read_state_file-read.result in
    let set = c.in-Ok-set_state.ensures in
    let st = state_in c.in-Ok-saved_in.saved in
    let live = seen (beside s.watch s.keys before.files ports) whole s.machine in
    let new = seen (beside c.set_state.new.watch s.keys after.files ports') whole c.set_state.new.machine in
    let stamped = c.stamp_of-stamp.ensures ∙ ap stamp_in (sym c.session.view_is) in
    let used = length (own_both subject.State s.machine.time 0 w.failed w.closing) in
    let none : first_refused None c.args.force st.files no_attachments before.files ≡ None =
    ap (λ (l : List NamedBytes). first_refused None c.args.force st.files no_attachments l) (sym (c.read_state_file-read.ensures.files told)) ∙ set.told told in
    let left : LeavesLines true (ports_wanted st.ports s.machine.lines) (Ok tt) ports ports' =
    subst (λ (b : Bool). LeavesLines b (ports_wanted st.ports s.machine.lines) (Ok tt) ports ports') telling set.lines in
    let back : new ≡ record (put_back st live) { ahead = ahead_of ports'.told whole } =
    set.back told s.keys (c.is_occupied.ensures.closed c.if-is_occupied.false) refl whole
    ∙ ap (λ (l : List NamedBytes). record (put_back st (seen (beside s.watch s.keys l ports) whole s.machine)) { ahead = ahead_of ports'.told whole }) (c.read_state_file-read.ensures.files told) in
    rw (← c.session.view_is)
    (back-did live c.args.force c.args.name.now w (occupied-seen ports s.machine ∙ sym c.is_occupied.ensures.test ∙ c.if-is_occupied.false) s.command tells out
    s.notes.items c.note_state_reading.new.notes.items (bytes_of before.files c.args.name.now) st
    (c.in-Ok-saved_in.ensures.exact (bytes_of before.files c.args.name.now) (fed_with c.args.name.now before.files c.read_state_file-read.result c.in-Ok.reader c.in-Ok.ensures.reader (c.read_state_file-read.ensures.said told)))
    (says_read c.args.name.now before.files c.read_state_file-read.result c.in-Ok.reader c.in-Ok.ensures.reader (c.read_state_file-read.ensures.said told)) set.missing
    (Ok Go) new new tt
    (ap (λ (o : Option (UnitName × FileRefusal)). restored_by o used st live) none
    ∙ back-ends used st live new ports ports' whole s.machine.lines refl refl left first back)
    refl
    (c.note_state_reading.ensures.notes ∙ ap (λ (t : Stamp). s.notes.items ++ read_notes subject.State t w) stamped))

pub returns-in-Ok-set_state-clause-left : goal.returns-in-Ok-set_state-clause-left
returns-in-Ok-set_state-clause-left g c =
    let s = c.session.inside in
    let set = c.in-Ok-set_state.ensures in
    rw (← c.session.view_is)
    (restore-done g.L.Lines.tells (has_multiplexer (length (state_in c.in-Ok-saved_in.saved).machine.units)) c.in-Ok-saved_in.saved.ports s.machine.lines c.set_state.new.machine.lines
    (g.L.Lines.state c.args.lines.now) (g.L.Lines.state c.set_state.new.lines) c.in-Ok-saved_in.ensures.valid.ports (c.is_occupied.ensures.there c.if-is_occupied.false)
    (c.is_occupied.ensures.closed c.if-is_occupied.false) set.lines set.ports)

pub returns-in-Ok-set_state-clause-keeps : goal.returns-in-Ok-set_state-clause-keeps
returns-in-Ok-set_state-clause-keeps g c =
    let s = c.session.inside in
    let w = whole_of c.read_state_file-read.result in
    let read = c.read_state_file-read.ensures in
    let stamped = c.stamp_of-stamp.ensures ∙ ap stamp_in (sym c.session.view_is) in
    rw (← c.session.view_is)
    (done-restore-keeps s.command s.machine.time c.set_state.new.machine.time g.F.Files.tells w (words_read c.in-Ok.reader) (ap bytes_for c.in-Ok.ensures.reader) read.shape (g.F.Files.state c.args.files.now)
    (g.F.Files.state c.read_state_file-read.new.files) (g.F.Files.state c.set_state.new.files) (record { counts = read.counts; openings = read.openings; ids = read.ids; one = read.one })
    (state_in c.in-Ok-saved_in.saved).files (few-files (state_in c.in-Ok-saved_in.saved).files c.in-Ok-saved_in.ensures.valid.files) c.in-Ok-set_state.ensures.counts
    (g.met.F.Files.unused c.read_state_file-read.new.files) (g.met.F.Files.unused c.set_state.new.files) s.notes.items c.note_state_reading.new.notes.items c.in-Ok-set_state.ensures.cause.0 c.in-Ok-set_state.ensures.exact
    (c.note_state_reading.ensures.notes ∙ ap (λ (t : Stamp). s.notes.items ++ read_notes subject.State t w) stamped))

pub returns-in-Ok-set_state-clause-whose : goal.returns-in-Ok-set_state-clause-whose
returns-in-Ok-set_state-clause-whose g c =
    let s = c.session.inside in
    let w = whole_of c.read_state_file-read.result in
    let read = c.read_state_file-read.ensures in
    let set = c.in-Ok-set_state.ensures in
    let before = g.F.Files.state c.args.files.now in
    let mid = g.F.Files.state c.read_state_file-read.new.files in
    let after = g.F.Files.state c.set_state.new.files in
    rw (← c.session.view_is)
    (own-both s.machine.slots s.machine.slots c.set_state.new.machine.slots s.notes.items c.note_state_reading.new.notes.items c.note_state_reading.new.notes.items before mid after
    (whole-own subject.State c.stamp_of-stamp.result 0 w.failed w.closing s.machine.slots s.machine.slots s.notes.items c.note_state_reading.new.notes.items before mid
    refl (read-claims w read.shape) read.failed read.closing read.ids c.note_state_reading.ensures.notes)
    (unnoted s.machine.slots c.set_state.new.machine.slots c.note_state_reading.new.notes.items mid after set.from set.counts.ids))

pub returns-in-Ok-set_state-clause-back : goal.returns-in-Ok-set_state-clause-back
returns-in-Ok-set_state-clause-back g c =
    let s = c.session.inside in
    let w = whole_of c.read_state_file-read.result in
    let set = c.in-Ok-set_state.ensures in
    let before = (g.F.Files.state c.args.files.now).files in
    rw (← c.session.view_is)
    (record {
      saved = state_in c.in-Ok-saved_in.saved;
      valid = c.in-Ok-saved_in.ensures.valid;
      read = λ told. c.in-Ok-saved_in.ensures.exact (bytes_of before c.args.name.now)
          (fed_with c.args.name.now before c.read_state_file-read.result c.in-Ok.reader c.in-Ok.ensures.reader (c.read_state_file-read.ensures.said told));
      found = set.missing;
      machine = subst (λ (lines : List (LineOf ℕ)). c.set_state.new.machine ≡ record (with_machine_of s.machine (state_in c.in-Ok-saved_in.saved).machine) {
        slots = c.set_state.new.machine.slots;
        disk = c.set_state.new.machine.disk;
        aside = c.set_state.new.machine.aside;
        lines = lines;
      }) set.ports set.rest;
      attached = set.attached;
      watch = set.watch;
    })

-- ---- it was not

pub returns-clause-told : goal.returns-clause-told
returns-clause-told g c = λ told telling apart whole first tells out.
    let s = c.session.inside in
    let ports = g.L.Lines.state c.args.lines.now in
    let ports' = g.L.Lines.state c.set_state.new.lines in
    let before = g.F.Files.state c.args.files.now in
    let mid = g.F.Files.state c.read_state_file-read.new.files in
    let after = g.F.Files.state c.set_state.new.files in
    let w = whole_of c.read_state_file-read.result in
    let set = c.in-Err-set_state.ensures in
    let fault = c.in-Err-set_state.fault in
    let st = state_in c.in-Ok-saved_in.saved in
    let live = seen (beside s.watch s.keys before.files ports) whole s.machine in
    let stamped = c.stamp_of-stamp.ensures ∙ ap stamp_in (sym c.session.view_is) in
    let left : LeavesLines true (ports_wanted st.ports s.machine.lines) (Err fault) ports ports' =
    subst (λ (b : Bool). LeavesLines b (ports_wanted st.ports s.machine.lines) (Err fault) ports ports') telling set.lines in
    rw (← c.session.view_is)
    (refused-by live (seen (beside c.set_state.new.watch s.keys after.files ports') whole c.set_state.new.machine) c.args.force c.args.name.now w s.command tells out
    s.notes.items c.note_restoring.new.notes.items (bytes_of before.files c.args.name.now) st fault (Err c.fault_of_restore.result) ports ports' whole s.machine.lines
    (occupied-seen ports s.machine ∙ sym c.is_occupied.ensures.test ∙ c.if-is_occupied.false)
    (c.in-Ok-saved_in.ensures.exact (bytes_of before.files c.args.name.now) (fed_with c.args.name.now before.files c.read_state_file-read.result c.in-Ok.reader c.in-Ok.ensures.reader (c.read_state_file-read.ensures.said told)))
    (says_read c.args.name.now before.files c.read_state_file-read.result c.in-Ok.reader c.in-Ok.ensures.reader (c.read_state_file-read.ensures.said told)) refl refl set.missing
    (subst (λ (l : List NamedBytes). SaysFirst (Err fault) (first_refused (claim_in (Err fault)) c.args.force st.files no_attachments l)) (c.read_state_file-read.ensures.files told) (set.told told))
    left first
    ((λ i. seen (beside (set.unwatched i) s.keys ((set.files told ∙ c.read_state_file-read.ensures.files told) i) ports') whole (set.refused i)))
    (ap Err c.fault_of_restore.ensures)
    (c.note_restoring.ensures.notes
    ∙ (λ i. (c.note_state_reading.ensures.notes ∙ ap (λ (t : Stamp). s.notes.items ++ read_notes subject.State t w) stamped) i ++ restore_notes (stamped i) fault)))

pub returns-clause-left : goal.returns-clause-left
returns-clause-left g c =
    let s = c.session.inside in
    let set = c.in-Err-set_state.ensures in
    rw (← c.session.view_is)
    (restore-refused g.L.Lines.tells (ports_wanted c.in-Ok-saved_in.saved.ports s.machine.lines) s.machine.lines c.set_state.new.machine.lines c.in-Err-set_state.fault (g.L.Lines.state c.args.lines.now)
    (g.L.Lines.state c.set_state.new.lines) (c.is_occupied.ensures.closed c.if-is_occupied.false) set.lines (ap (λ (m : MachineState). m.lines) set.refused))

pub returns-clause-unasked : goal.returns-clause-unasked
returns-clause-unasked g c = λ refused never.
    restore-unasked c.in-Err-set_state.fault _ c.in-Err-set_state.ensures.unasked
    (λ un. never (subst (λ (f : CommandFault). Unlistened (Err f)) (sym c.fault_of_restore.ensures) un))

pub returns-clause-undone : goal.returns-clause-undone
returns-clause-undone g c = λ out is.
    let s = c.session.inside in
    let w = whole_of c.read_state_file-read.result in
    let read = c.read_state_file-read.ensures in
    let set = c.in-Err-set_state.ensures in
    let stamped = c.stamp_of-stamp.ensures ∙ ap stamp_in (sym c.session.view_is) in
    let none = no-notes c.in-Err-set_state.fault c.stamp_of-stamp.result (ap Err (sym c.fault_of_restore.ensures) ∙ is) in
    rw (← c.session.view_is)
    (record {
      left = record { machine = set.refused; watch = set.unwatched };
      notes = (
        read_notes subject.State (record { command = s.command; time = s.machine.time }) w,
        c.note_restoring.ensures.notes ∙ ap (λ (l : List FaultNote). c.note_state_reading.new.notes.items ++ l) none ∙ append-nil _
            ∙ c.note_state_reading.ensures.notes ∙ ap (λ (t : Stamp). s.notes.items ++ read_notes subject.State t w) stamped,
        read-shut-notes s.command s.machine.time w (words_read c.in-Ok.reader) (ap bytes_for c.in-Ok.ensures.reader) read.shape,
      );
      written = refl;
      lines = ap (λ (m : MachineState). m.lines) set.refused;
      live = λ told steps lines whole. (λ i. seen (beside (set.unwatched i) s.keys ((set.files told ∙ read.files told) i) lines) whole (set.refused i));
    })

pub returns-clause-measured : goal.returns-clause-measured
returns-clause-measured g c = λ is more.
    subst (λ (b : Result (Vec ℕ) WholeFault). WholeCause g.F.Files.tells c.args.name.now b (g.F.Files.state c.args.files.now) (g.F.Files.state c.read_state_file-read.new.files))
    (ap bytes_for c.in-Ok.ensures.reader) c.read_state_file-read.ensures.cause

pub returns-clause-keeps : goal.returns-clause-keeps
returns-clause-keeps g c =
    let s = c.session.inside in
    let w = whole_of c.read_state_file-read.result in
    let read = c.read_state_file-read.ensures in
    let set = c.in-Err-set_state.ensures in
    let stamped = c.stamp_of-stamp.ensures ∙ ap stamp_in (sym c.session.view_is) in
    rw (← c.session.view_is)
    (refused-restore-keeps s.command s.machine.time c.set_state.new.machine.time g.F.Files.tells w (words_read c.in-Ok.reader) (ap bytes_for c.in-Ok.ensures.reader) read.shape (g.F.Files.state c.args.files.now)
    (g.F.Files.state c.read_state_file-read.new.files) (g.F.Files.state c.set_state.new.files) (record { counts = read.counts; openings = read.openings; ids = read.ids; one = read.one })
    (state_in c.in-Ok-saved_in.saved).files (few-files (state_in c.in-Ok-saved_in.saved).files c.in-Ok-saved_in.ensures.valid.files) set.counts
    (g.met.F.Files.unused c.read_state_file-read.new.files) (g.met.F.Files.unused c.set_state.new.files) c.in-Err-set_state.fault (Err c.fault_of_restore.result) s.notes.items c.note_restoring.new.notes.items set.cause set.once set.exact (ap Err c.fault_of_restore.ensures)
    (c.note_restoring.ensures.notes
    ∙ (λ i. (c.note_state_reading.ensures.notes ∙ ap (λ (t : Stamp). s.notes.items ++ read_notes subject.State t w) stamped) i ++ restore_notes (stamped i) c.in-Err-set_state.fault)))

pub returns-clause-whose : goal.returns-clause-whose
returns-clause-whose g c =
    let s = c.session.inside in
    let w = whole_of c.read_state_file-read.result in
    let read = c.read_state_file-read.ensures in
    let set = c.in-Err-set_state.ensures in
    let before = g.F.Files.state c.args.files.now in
    let mid = g.F.Files.state c.read_state_file-read.new.files in
    let after = g.F.Files.state c.set_state.new.files in
    rw (← c.session.view_is)
    (own-both s.machine.slots s.machine.slots c.set_state.new.machine.slots s.notes.items c.note_state_reading.new.notes.items c.note_restoring.new.notes.items before mid after
    (whole-own subject.State c.stamp_of-stamp.result 0 w.failed w.closing s.machine.slots s.machine.slots s.notes.items c.note_state_reading.new.notes.items before mid
    refl (read-claims w read.shape) read.failed read.closing read.ids c.note_state_reading.ensures.notes)
    (restore-own c.stamp_of-stamp.result g.F.Files.tells c.in-Err-set_state.fault s.machine.slots c.set_state.new.machine.slots c.note_state_reading.new.notes.items c.note_restoring.new.notes.items
    mid after set.cause set.from set.counts c.note_restoring.ensures.notes))

pub saved_in-requires : goal.saved_in-requires
saved_in-requires g c = subst (λ (r : Result StateReader WholeFault). IfOk r (λ reader. WasFed reader)) c.in-Ok.ensures.reader c.read_state_file-read.ensures.was

takes-unfit : (fault : StateFault) (stamp : Stamp) (tells : Bool) (old new : FileState) → TakesClosings stamp tells (Err (state_fault fault)) old new
takes-unfit state.NotState stamp tells old new = λ kept shut. shut
takes-unfit (state.Version version) stamp tells old new = λ kept shut. shut
takes-unfit (state.BadDigest kept found) stamp tells old new = λ kept shut. shut
takes-unfit (state.BadField place) stamp tells old new = λ kept shut. shut
takes-unfit state.Truncated stamp tells old new = λ kept shut. shut
takes-unfit state.OutOfMemory stamp tells old new = λ kept shut. shut

pub returns-in-Err-saved_in-clause-keeps : goal.returns-in-Err-saved_in-clause-keeps
returns-in-Err-saved_in-clause-keeps g c =
    let s = c.session.inside in
    let before = g.F.Files.state c.args.files.now in
    let mid = g.F.Files.state c.read_state_file-read.new.files in
    let w = whole_of c.read_state_file-read.result in
    let read = c.read_state_file-read.ensures in
    let fault = c.in-Err-saved_in.fault in
    let stamped = c.stamp_of-stamp.ensures ∙ ap stamp_in (sym c.session.view_is) in
    rw (← c.session.view_is)
    (restore-keeps s.command s.machine.time s.machine.time g.F.Files.tells (Err c.fault_of_state.result) s.notes.items c.note_state_reading.new.notes.items before mid
    (read-keeps subject.State s.command s.machine.time g.F.Files.tells (λ bytes. Err (state_fault fault)) w (Err c.fault_of_state.result) s.notes.items c.note_state_reading.new.notes.items before mid
    (λ bytes. takes-unfit fault (record { command = s.command; time = s.machine.time }) g.F.Files.tells before mid)
    (ap Err c.fault_of_state.ensures ∙ sym (ap (whole_answer subject.State (λ bytes. Err (state_fault fault))) (ap bytes_for c.in-Ok.ensures.reader))) read.shape
    (record { counts = read.counts; openings = read.openings; ids = read.ids; one = read.one })
    (c.note_state_reading.ensures.notes ∙ ap (λ (t : Stamp). s.notes.items ++ read_notes subject.State t w) stamped)))

pub returns-clause-answers : goal.returns-clause-answers
returns-clause-answers g c = restored-can c.args.force c.in-Err-set_state.fault c.fault_of_restore.result c.in-Err-set_state.ensures.compared c.fault_of_restore.ensures

-- ---- whatever the files hold

pub returns-in-Err-clause-works : goal.returns-in-Err-clause-works
returns-in-Err-clause-works g c =
    let w = whole_of c.read_state_file-read.result in
    unread-works g.F.Files.tells c.args.name.now w.bytes c.in-Err.fault c.of_whole.result (g.F.Files.state c.args.files.now) (g.F.Files.state c.read_state_file-read.new.files)
    (ap bytes_for c.in-Err.ensures.reader) c.read_state_file-read.ensures.cause c.of_whole.ensures

pub returns-in-Err-saved_in-clause-works : goal.returns-in-Err-saved_in-clause-works
returns-in-Err-saved_in-clause-works g c =
    let before = g.F.Files.state c.args.files.now in
    let mid = g.F.Files.state c.read_state_file-read.new.files in
    let reader = c.in-Ok.ensures.reader in
    let fed : WasFed c.in-Ok.reader = subst (λ (r : Result StateReader WholeFault). IfOk r (λ x. WasFed x)) reader c.read_state_file-read.ensures.was in
    let opens : before.given < mid.given = subst (λ (r : Result StateReader WholeFault). IfOk r (λ x. before.given < mid.given)) reader c.read_state_file-read.ensures.taken in
    unfit-works fed.0 c.in-Err-saved_in.fault c.fault_of_state.result before mid opens (c.in-Err-saved_in.ensures.exact fed.0 fed.1) c.fault_of_state.ensures

pub returns-in-Ok-set_state-clause-works : goal.returns-in-Ok-set_state-clause-works
returns-in-Ok-set_state-clause-works g c =
    let before = g.F.Files.state c.args.files.now in
    let mid = g.F.Files.state c.read_state_file-read.new.files in
    let after = g.F.Files.state c.set_state.new.files in
    let opens : before.given < mid.given = subst (λ (r : Result StateReader WholeFault). IfOk r (λ x. before.given < mid.given)) c.in-Ok.ensures.reader c.read_state_file-read.ensures.taken in
    let more : mid.given ≤ after.given = c.in-Ok-set_state.ensures.counts.ids in
    omega (arith, opens, more)

pub returns-clause-works : goal.returns-clause-works
returns-clause-works g c =
    let before = g.F.Files.state c.args.files.now in
    let mid = g.F.Files.state c.read_state_file-read.new.files in
    let after = g.F.Files.state c.set_state.new.files in
    let opens : before.given < mid.given = subst (λ (r : Result StateReader WholeFault). IfOk r (λ x. before.given < mid.given)) c.in-Ok.ensures.reader c.read_state_file-read.ensures.taken in
    refused-works c.in-Err-set_state.fault c.fault_of_restore.result before mid after opens c.in-Err-set_state.ensures.counts.ids c.fault_of_restore.ensures

-- ---- the disk's file stays in step with the copy of it

pub returns-then-is_occupied-clause-step : goal.returns-then-is_occupied-clause-step
returns-then-is_occupied-clause-step g c = rw (← c.session.view_is) (λ told step. step)

pub returns-in-Err-clause-step : goal.returns-in-Err-clause-step
returns-in-Err-clause-step g c =
    let s = c.session.inside in
    rw (← c.session.view_is)
    (λ told step. subst (λ (l : List NamedBytes). InStep (attached_files s.machine) l) (sym (c.read_state_file-read.ensures.files told)) step)

pub returns-in-Err-saved_in-clause-step : goal.returns-in-Err-saved_in-clause-step
returns-in-Err-saved_in-clause-step g c =
    let s = c.session.inside in
    rw (← c.session.view_is)
    (λ told step. subst (λ (l : List NamedBytes). InStep (attached_files s.machine) l) (sym (c.read_state_file-read.ensures.files told)) step)

pub returns-in-Ok-set_state-clause-step : goal.returns-in-Ok-set_state-clause-step
returns-in-Ok-set_state-clause-step g c = λ told step. c.in-Ok-set_state.ensures.step told

pub returns-clause-step : goal.returns-clause-step
returns-clause-step g c =
    let s = c.session.inside in
    let set = c.in-Err-set_state.ensures in
    let read = c.read_state_file-read.ensures in
    rw (← c.session.view_is)
    (λ told step. subst (λ (x : MachineState × List NamedBytes). InStep (attached_files x.0) x.1)
    (λ i. (sym set.refused i, sym (set.files told ∙ read.files told) i)) step)
