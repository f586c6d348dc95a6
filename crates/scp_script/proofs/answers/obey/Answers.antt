use Rattle.std.proofs.Common.{◌≡◌, inl, [], ◌++◌, length, Ok, Err, refl, ap, sym, subst}
use Rattle.file_commands.specs.Notes.{notes_said}
use Rattle.nova_machine.specs.Comes.{output}
use Rattle.nova_machine.specs.LineChanges.{ports_of}
use Rattle.command_session.specs.Live.{CommandState, live_in, beyond, standing}
use Rattle.scp_commands.specs.Effect.{effect}
use Rattle.command_session.specs.Nature.{nature, IsUntold}
use Rattle.command_session.specs.declared.fault.CommandFault.{CommandFault}
use Rattle.command_session.specs.declared.fault.CommandFault.TheVariants as fault
use Rattle.command_session.specs.LinesLeft.{ListenCause}
use Rattle.command_session.proofs.RemainLemmas.{remains, notes-remain}
use Rattle.command_session.proofs.PortLemmas.{left-same}
use Rattle.scp_script.specs.declared.progress.Progress.TheVariants.{IsOver}
use Rattle.scp_script.specs.declared.progress.Finish.TheVariants.{OutOfMemory}
use Rattle.session_texts.specs.Actions.{Texts, coming}
use Rattle.scp_script.proofs.TextLemmas.{answers-of, answers-none, denied}
use Rattle.scp_script.proofs.UsedLemmas.{as-command, command-told, still-lines}
use Rattle.scp_script.proofs.UndoneLemmas.{says, short-notes, refused-short}
use Rattle.scp_script.proofs.PortLemmas.{IsUnasked, still-sent, short-stands}
use Rattle.scp_script.proofs.NoteLemmas.{never-short}
use Rattle.scp_script.proofs.GrowLemmas.{denied-grows, stays-same, steps-if}
use Rattle.scp_script.proofs.NextLemmas.{IsPlain, room-next, exit-next, untold-next, untold-plain}
use Rattle.scp_script.proofs.SpendingLemmas.{no-exit, opens-failed}
use Rattle.command_session.specs.Doing.{is_restore, opens_of}
use Rattle.command_session.proofs.GrowLemmas.{grows-same, grows-both}
use Rattle.host_lines.specs.Told.{record_in}
use Rattle.scp_script.proofs.KeptLemmas.{kept-none, kept-by, none-missing, plain-refused}
use Rattle.scp_script.proofs.answers.obey.Goals as goal

pub returns-then-is_too_deep-clause-told : goal.returns-then-is_too_deep-clause-told
returns-then-is_too_deep-clause-told g c = λ used apart step whole first.
    let session = c.args.session.now in
    let ports = g.L.Lines.state c.args.lines.now in
    let around = beyond (g.F.Files.state c.args.files.now).files ports whole in
    answers-none session.limit (live_in session around) (coming c.args.texts.now) (Ok c.args.command.now) session.command c.deny_line.result (coming c.deny_line.new.texts) g.S.Sink.tells
    (output (g.S.Sink.written c.args.out.now) ports.sent) (output (g.S.Sink.written c.deny_line.new.out) ports.sent) (notes_said session.notes)
    (λ behind. c.deny_line.ensures.told around ports.sent behind (Ok c.args.command.now) (c.is_too_deep.ensures.deep c.if-is_too_deep.true))

pub returns-in_default-clause-told : goal.returns-in_default-clause-told
returns-in_default-clause-told g c = λ used apart step whole first.
    let session = c.args.session.now in
    let ports = g.L.Lines.state c.args.lines.now in
    let before = output (g.S.Sink.written c.args.out.now) ports.sent in
    answers-none session.limit (live_in session (beyond (g.F.Files.state c.args.files.now).files ports whole)) (coming c.args.texts.now) (Ok c.args.command.now) session.command (IsOver OutOfMemory)
    (coming c.args.texts.now) g.S.Sink.tells before before (notes_said session.notes) (λ behind. tt)

pub returns-clause-told : goal.returns-clause-told
returns-clause-told g c = λ used apart step whole first.
    let session = c.args.session.now in
    let ports = g.L.Lines.state c.args.lines.now in
    let ports' = g.L.Lines.state c.execute.new.lines in
    let live = live_in session (beyond (g.F.Files.state c.args.files.now).files ports whole) in
    let new = live_in c.execute.new.session (beyond (g.F.Files.state c.execute.new.files).files ports' whole) in
    let texts = coming c.args.texts.now in
    let tells = g.S.Sink.tells in
    let before = output (g.S.Sink.written c.args.out.now) ports.sent in
    let mid = output (g.S.Sink.written c.execute.new.out) ports'.sent in
    answers-of session.limit live texts c.args.command.now session.command (Ok c.in-Ok-execute.next) c.follow.result new (coming c.follow.new.texts)
    tells before mid (output (g.S.Sink.written c.follow.new.out) ports'.sent) (notes_said session.notes) (notes_said c.execute.new.session.notes) (c.is_too_deep.ensures.fits c.if-is_too_deep.false)
    (c.in-Ok-execute.ensures.told (command-told g.F.Files.tells g.L.Lines.tells session.machine ports c.args.texts.now.scripts c.args.command.now (c.is_too_deep.ensures.fits c.if-is_too_deep.false) used apart) step whole first)
    (λ own used does. c.follow.ensures.told ports'.sent (effect session.limit own live c.args.command.now) (standing used new) before (sym (ap (λ (x : CommandState). x.watch) c.session.view_is))
    (room-next texts.scripts c.args.command.now c.in-Ok-execute.next (c.is_too_deep.ensures.room c.if-is_too_deep.false) (c.in-Ok-execute.ensures.answers (λ short. absurd (cc short))).1
    (untold-next session.limit own live c.args.command.now c.in-Ok-execute.next does.0)) does)

pub returns-in-Err-clause-told : goal.returns-in-Err-clause-told
returns-in-Err-clause-told g c = λ used apart step whole first.
    let session = c.args.session.now in
    let ports = g.L.Lines.state c.args.lines.now in
    let ports' = g.L.Lines.state c.execute.new.lines in
    let live = live_in session (beyond (g.F.Files.state c.args.files.now).files ports whole) in
    let texts = coming c.args.texts.now in
    let tells = g.S.Sink.tells in
    let before = output (g.S.Sink.written c.args.out.now) ports.sent in
    let mid = output (g.S.Sink.written c.execute.new.out) ports'.sent in
    let after = output (g.S.Sink.written c.refuse.new.out) ports'.sent in
    answers-of session.limit live texts c.args.command.now session.command (Err c.in-Err.fault) c.refuse.result
    (live_in c.execute.new.session (beyond (g.F.Files.state c.execute.new.files).files ports' whole)) (coming c.refuse.new.texts)
    tells before mid after (notes_said session.notes) (notes_said c.execute.new.session.notes) (c.is_too_deep.ensures.fits c.if-is_too_deep.false)
    (c.in-Err.ensures.told (command-told g.F.Files.tells g.L.Lines.tells session.machine ports c.args.texts.now.scripts c.args.command.now (c.is_too_deep.ensures.fits c.if-is_too_deep.false) used apart) step whole first)
    (λ own used does. denied texts (Ok c.args.command.now) (effect session.limit own live c.args.command.now) c.in-Err.fault c.refuse.result (coming c.refuse.new.texts) _ tells before mid after
    (g.S.Sink.fault_count c.execute.new.out) (g.S.Sink.fault_count c.refuse.new.out) c.refuse.ensures.texts refl does c.refuse.ensures.told)

pub returns-then-is_too_deep-clause-short : goal.returns-then-is_too_deep-clause-short
returns-then-is_too_deep-clause-short g c = λ used step whole first own is.
    let session = c.args.session.now in
    let ports = g.L.Lines.state c.args.lines.now in
    let live = live_in session (beyond (g.F.Files.state c.args.files.now).files ports whole) in
    never-short (Ok c.args.command.now) session.command c.deny_line.result live live own (output (g.S.Sink.written c.args.out.now) ports.sent) (output (g.S.Sink.written c.deny_line.new.out) ports.sent)
    c.deny_line.ensures.memory

pub returns-in_default-clause-short : goal.returns-in_default-clause-short
returns-in_default-clause-short g c = λ used step whole first own is.
    let session = c.args.session.now in
    let live = live_in session (beyond (g.F.Files.state c.args.files.now).files (g.L.Lines.state c.args.lines.now) whole) in
    let n = nature c.args.command.now in (
      inl (remains n.flushes live live refl),
      short-notes n.reads_whole session.command session.machine.time session.notes session.notes own
          (notes-remain n.reads_whole session.command session.machine.time session.notes session.notes refl) is,
      refl,
    )

pub returns-clause-short : goal.returns-clause-short
returns-clause-short g c = λ used step whole first own is.
    let session = c.args.session.now in
    let ports = g.L.Lines.state c.args.lines.now in
    let ports' = g.L.Lines.state c.execute.new.lines in
    never-short (Ok c.args.command.now) session.command c.follow.result (live_in session (beyond (g.F.Files.state c.args.files.now).files ports whole))
    (live_in c.execute.new.session (beyond (g.F.Files.state c.execute.new.files).files ports' whole)) own (output (g.S.Sink.written c.args.out.now) ports.sent)
    (output (g.S.Sink.written c.follow.new.out) ports'.sent) c.follow.ensures.memory

-- where memory ran out, no more is seen of the lines than before, but for the listenings of a RESTORE
pub returns-in-Err-clause-short : goal.returns-in-Err-clause-short
returns-in-Err-clause-short g c = λ used step whole first own is.
    let session = c.args.session.now in
    let new = c.execute.new.session in
    let r = c.args.command.now in
    let ports = g.L.Lines.state c.args.lines.now in
    let ports' = g.L.Lines.state c.execute.new.lines in
    let files = (g.F.Files.state c.args.files.now).files in
    let files' = (g.F.Files.state c.execute.new.files).files in
    let known = as-command g.F.Files.tells g.L.Lines.tells session.machine c.args.texts.now.scripts r (c.is_too_deep.ensures.fits c.if-is_too_deep.false) used in
    let undone = λ (short : c.in-Err.fault ≡ fault.OutOfMemory). c.in-Err.ensures.undone (ap Err short) in
    let unasked = λ (short : c.in-Err.fault ≡ fault.OutOfMemory).
    subst (λ (f : CommandFault). IsUnasked r (Err f) ports ports') short (λ is other. ap (λ l. g.L.Lines.state l) (c.in-Err.ensures.unasked is other)) in
    let cause = λ (short : c.in-Err.fault ≡ fault.OutOfMemory).
    subst (λ (f : CommandFault). ListenCause g.L.Lines.tells r (Err f) ports ports') short c.in-Err.ensures.listening in
    refused-short (Ok r) session.command c.in-Err.fault c.refuse.result g.S.Sink.tells (live_in session (beyond files ports whole))
    (live_in new (beyond files' ports' whole)) own (output (g.S.Sink.written c.args.out.now) ports.sent) (output (g.S.Sink.written c.execute.new.out) ports'.sent)
    (output (g.S.Sink.written c.refuse.new.out) ports'.sent) (g.S.Sink.fault_count c.execute.new.out) (g.S.Sink.fault_count c.refuse.new.out)
    (λ short. (
      short-stands g.L.Lines.tells r (ports_of session.machine.lines) session new files files' ports ports' whole known.1 (unasked short) (cause short) first
          ((undone short).live (says g.F.Files.tells r session.machine.slots known.0) (steps-if (nature r).flushes session.machine files step) ports whole),
      short-notes (nature r).reads_whole session.command session.machine.time session.notes new.notes own (undone short).notes is,
      (λ i. output ((undone short).written i) (still-sent g.L.Lines.tells r ports ports' (unasked short) (cause short) i)),
    ))
    refl c.refuse.ensures.told

pub returns-then-is_too_deep-clause-lines : goal.returns-then-is_too_deep-clause-lines
returns-then-is_too_deep-clause-lines g c = left-same g.L.Lines.tells (g.L.Lines.state c.args.lines.now) c.args.session.now.machine.lines

pub returns-in_default-clause-lines : goal.returns-in_default-clause-lines
returns-in_default-clause-lines g c = left-same g.L.Lines.tells (g.L.Lines.state c.args.lines.now) c.args.session.now.machine.lines

-- ---- lines that tell nothing

pub returns-clause-still : goal.returns-clause-still
returns-clause-still g c = λ used untold.
    let m = c.args.session.now.machine in
    let known = as-command g.F.Files.tells g.L.Lines.tells m c.args.texts.now.scripts c.args.command.now (c.is_too_deep.ensures.fits c.if-is_too_deep.false) used in
    still-lines g.L.Lines.tells (Ok c.in-Ok-execute.next) (g.L.Lines.state c.args.lines.now) (g.L.Lines.state c.execute.new.lines) m.lines c.execute.new.session.machine.lines untold c.args.command.now known.1
    (λ refused never. ap (λ l. g.L.Lines.state l) (c.in-Ok-execute.ensures.unasked refused never)) c.in-Ok-execute.ensures.line

pub returns-in-Err-clause-still : goal.returns-in-Err-clause-still
returns-in-Err-clause-still g c = λ used untold.
    let m = c.args.session.now.machine in
    let known = as-command g.F.Files.tells g.L.Lines.tells m c.args.texts.now.scripts c.args.command.now (c.is_too_deep.ensures.fits c.if-is_too_deep.false) used in
    still-lines g.L.Lines.tells (Err c.in-Err.fault) (g.L.Lines.state c.args.lines.now) (g.L.Lines.state c.execute.new.lines) m.lines c.execute.new.session.machine.lines untold c.args.command.now known.1
    (λ refused never. ap (λ l. g.L.Lines.state l) (c.in-Err.ensures.unasked refused never)) c.in-Err.ensures.line

-- ---- the notes

pub returns-then-is_too_deep-clause-keeps : goal.returns-then-is_too_deep-clause-keeps
returns-then-is_too_deep-clause-keeps g c = kept-none _ _ c.args.session.now.notes (g.F.Files.state c.args.files.now)

pub returns-in_default-clause-keeps : goal.returns-in_default-clause-keeps
returns-in_default-clause-keeps g c = kept-none _ _ c.args.session.now.notes (g.F.Files.state c.args.files.now)

pub returns-clause-keeps : goal.returns-clause-keeps
returns-clause-keeps g c =
    kept-by (is_restore c.args.command.now) (opens_of c.args.command.now) c.args.session.now.command c.args.session.now.machine.time c.execute.new.session.machine.time g.F.Files.tells
    (Ok c.in-Ok-execute.next) c.args.session.now.notes c.execute.new.session.notes (g.F.Files.state c.args.files.now) (g.F.Files.state c.execute.new.files) (λ none. refl) c.in-Ok-execute.ensures.keeps

-- a command that opens no file is refused for none that is missing: its answer is that of the definition where it works on no
-- file and no line
pub returns-in-Err-clause-keeps : goal.returns-in-Err-clause-keeps
returns-in-Err-clause-keeps g c =
    let session = c.args.session.now in
    let r = c.args.command.now in
    let why = c.in-Err.fault in
    let ports = g.L.Lines.state c.args.lines.now in
    let ports' = g.L.Lines.state c.execute.new.lines in
    let whole = record_in ports'.told in
    let live = live_in session (beyond (g.F.Files.state c.args.files.now).files ports whole) in
    let new = live_in c.execute.new.session (beyond (g.F.Files.state c.execute.new.files).files ports' whole) in
    let plain : IsUntold r → IsPlain (Err why) = λ untold.
    let did = c.in-Err.ensures.untold untold whole in
    let own = did.own in
    plain-refused (effect session.limit (own ++ []) live r) why (standing (length own) new) g.S.Sink.tells (output (g.S.Sink.written c.args.out.now) ports.sent)
    (output (g.S.Sink.written c.execute.new.out) ports'.sent) (did.does [] tt) (untold-plain session.limit (own ++ []) live r untold) in
    kept-by (is_restore r) (opens_of r) session.command session.machine.time c.execute.new.session.machine.time g.F.Files.tells (Err why) session.notes c.execute.new.session.notes
    (g.F.Files.state c.args.files.now) (g.F.Files.state c.execute.new.files) (none-missing r why (λ short. (c.in-Err.ensures.answers short).1) plain) c.in-Err.ensures.keeps

-- ---- an exit, and the scripts

pub returns-then-is_too_deep-clause-asked : goal.returns-then-is_too_deep-clause-asked
returns-then-is_too_deep-clause-asked g c = no-exit (Ok c.args.command.now) c.deny_line.result c.deny_line.ensures.stays

pub returns-in-Err-clause-asked : goal.returns-in-Err-clause-asked
returns-in-Err-clause-asked g c = no-exit (Ok c.args.command.now) c.refuse.result c.refuse.ensures.stays

pub returns-then-is_too_deep-clause-scripts : goal.returns-then-is_too_deep-clause-scripts
returns-then-is_too_deep-clause-scripts g c = opens-failed _ c.args.texts.now.scripts c.deny_line.new.texts.scripts c.deny_line.result c.deny_line.ensures.scripts

pub returns-in-Err-clause-scripts : goal.returns-in-Err-clause-scripts
returns-in-Err-clause-scripts g c =
    opens-failed _ c.args.texts.now.scripts c.refuse.new.texts.scripts c.refuse.result (ap (λ (t : Texts). t.scripts) c.refuse.ensures.texts)

-- a command that works on no file and no line does what is told of it, whatever the others tell
pub follow-requires-clause-asked : goal.follow-requires-clause-asked
follow-requires-clause-asked g c =
    let session = c.args.session.now in
    let r = c.args.command.now in
    let next = c.in-Ok-execute.next in
    let ports = g.L.Lines.state c.args.lines.now in
    let whole = record_in (g.L.Lines.state c.execute.new.lines).told in
    exit-next r next (c.in-Ok-execute.ensures.answers (λ short. absurd (cc short))).1
    (λ untold.
    let did = c.in-Ok-execute.ensures.untold untold whole in
    let own = did.own in
    let does = did.does [] tt in
    untold-next session.limit (own ++ []) (live_in session (beyond (g.F.Files.state c.args.files.now).files ports whole)) r next does.0 untold)

-- ---- the disk's file, and the console

pub returns-then-is_too_deep-clause-step : goal.returns-then-is_too_deep-clause-step
returns-then-is_too_deep-clause-step g c = λ used apart. stays-same c.args.session.now (g.F.Files.state c.args.files.now).files

pub returns-in_default-clause-step : goal.returns-in_default-clause-step
returns-in_default-clause-step g c = λ used apart. stays-same c.args.session.now (g.F.Files.state c.args.files.now).files

pub returns-clause-step : goal.returns-clause-step
returns-clause-step g c = λ used apart.
    c.in-Ok-execute.ensures.step
    (command-told g.F.Files.tells g.L.Lines.tells c.args.session.now.machine (g.L.Lines.state c.args.lines.now) c.args.texts.now.scripts c.args.command.now (c.is_too_deep.ensures.fits c.if-is_too_deep.false) used apart)

pub returns-in-Err-clause-step : goal.returns-in-Err-clause-step
returns-in-Err-clause-step g c = λ used apart.
    c.in-Err.ensures.step
    (command-told g.F.Files.tells g.L.Lines.tells c.args.session.now.machine (g.L.Lines.state c.args.lines.now) c.args.texts.now.scripts c.args.command.now (c.is_too_deep.ensures.fits c.if-is_too_deep.false) used apart)

pub returns-in_default-clause-grows : goal.returns-in_default-clause-grows
returns-in_default-clause-grows g c = grows-same g.S.Sink.tells (g.S.Sink.written c.args.out.now) (g.S.Sink.written c.args.out.now) refl

pub returns-clause-grows : goal.returns-clause-grows
returns-clause-grows g c =
    grows-both g.S.Sink.tells (g.S.Sink.written c.args.out.now) (g.S.Sink.written c.execute.new.out) (g.S.Sink.written c.follow.new.out) c.in-Ok-execute.ensures.grows c.follow.ensures.grows

pub returns-in-Err-clause-grows : goal.returns-in-Err-clause-grows
returns-in-Err-clause-grows g c =
    grows-both g.S.Sink.tells (g.S.Sink.written c.args.out.now) (g.S.Sink.written c.execute.new.out) (g.S.Sink.written c.refuse.new.out) c.in-Err.ensures.grows
    (denied-grows c.in-Err.fault g.S.Sink.tells c.refuse.result (g.S.Sink.written c.execute.new.out) (g.S.Sink.written c.refuse.new.out) (g.S.Sink.fault_count c.execute.new.out)
    (g.S.Sink.fault_count c.refuse.new.out) c.refuse.ensures.told)
