use Rattle.std.proofs.Common.{refl, ap, sym, ◌∙◌, subst, Some}
use Rattle.file_commands.specs.Notes.{notes_said}
use Rattle.host_lines.specs.Told.{Heard}
use Rattle.scp_parser.specs.Command.{request_of, Request, Save, Restore}
use Rattle.command_session.specs.Live.{live_in, beyond}
use Rattle.scp_commands.specs.Effect.{effect}
use Rattle.command_session.proofs.KeptLemmas.{lines-kept}
use Rattle.scp_commands.proofs.ObeyLemmas.{noted-did, save-named, restore-named, as-kept}
use Rattle.command_session.proofs.ListenLemmas.{unlistened, own-no-port}
use Rattle.command_session.specs.Nature.{nature, IsUntold}
use Rattle.command_session.specs.Doing.{says_files, IsTold, IsUndone, KeepsBy, is_restore, OpensOwn, opens_of, Did}
use Rattle.host_commands.proofs.HostLemmas.{kept-as}
use Rattle.command_session.specs.Remains.{AreLeft}
use Rattle.state_commands.specs.StateEffects.{save_reply, restore_reply}
use Rattle.state_commands.specs.StateAnswers.{PutsSessionBack}
use Rattle.command_session.specs.LinesLeft.{IsUnlistened, ListenCause}
use Rattle.command_session.specs.Refusals.{IsUnrefused, IsMeasured}
use Rattle.scp_commands.proofs.BackLemmas.{done-back}
use Rattle.scp_commands.proofs.KindLemmas.{kinds-left}
use Rattle.command_session.proofs.RemainLemmas.{undone-as}
use Rattle.command_session.proofs.StepLemmas.{stays-alone}
use Rattle.command_session.proofs.GrowLemmas.{grows-same}
use Rattle.file_commands.specs.declared.note.Subject.TheVariants as subject
use Rattle.nova_machine.specs.Comes.{output}
use Rattle.scp_commands.specs.LineAnswers.{LinesAnswer}
use Rattle.command_session.proofs.AskedAnswers.{by-asks, can-by}
use Rattle.scp_commands.proofs.CanLemmas.{save-tables}
use Rattle.command_session.proofs.PortAnswerLemmas.{stays}
use Rattle.scp_commands.proofs.WorkLemmas.{works-as}
use Rattle.scp_commands.specs.Effect.{IsStateless}
use Rattle.scp_commands.proofs.ObeyLemmas.{stateless-restore, stateless-back, IsNoState, is-stateless}
use Rattle.scp_commands.proofs.execute_command.obey.Goals as goal

pub returns-in-Save-clause-told : goal.returns-in-Save-clause-told
unfolding effect
returns-in-Save-clause-told g c = λ told step whole first.
    let s = c.args.session.now in
    let ports = g.L.Lines.state c.args.lines.now in
    let new = c.save.new.session in
    let live = live_in s (beyond (g.F.Files.state c.args.files.now).files ports whole) in
    let text = output (g.S.Sink.written c.args.out.now) ports.sent in
    let name = c.file_name.result.now in
    let is = save-named _ c.command.inside.verb _ c.args.command.now name (sym c.command.view_is) c.in-Save.is c.file_name.ensures.name in
    noted-did s.limit s.command live (live_in new (beyond (g.F.Files.state c.save.new.files).files ports whole)) c.args.command.now (Save name)
    (λ own. save_reply own live name) c.save.result g.S.Sink.tells text text (notes_said s.notes) (notes_said new.notes) is (λ own. refl)
    (c.save.ensures.told (subst (λ (r : Request). IsTold g.F.Files.tells s.machine.slots g.L.Lines.tells ports s.machine.lines r) is told) step ports whole g.S.Sink.tells text)

pub returns-in-Save-clause-lines : goal.returns-in-Save-clause-lines
returns-in-Save-clause-lines g c =
    lines-kept g.L.Lines.tells (g.L.Lines.state c.args.lines.now) c.args.session.now.machine.lines c.save.new.session.machine.lines c.save.ensures.terminals

pub returns-in-Save-clause-listening : goal.returns-in-Save-clause-listening
returns-in-Save-clause-listening g c =
    unlistened g.L.Lines.tells c.args.command.now c.save.result (g.L.Lines.state c.args.lines.now) (own-no-port c.save.result c.save.ensures.own)

pub returns-in-Save-clause-line : goal.returns-in-Save-clause-line
returns-in-Save-clause-line g c = λ some.
    subst (λ (r : Request). LinesAnswer g.L.Lines.tells r c.save.result (g.L.Lines.state c.args.lines.now) c.args.session.now.machine.lines (g.L.Lines.state c.args.lines.now) c.save.new.session.machine.lines)
    (sym (sym c.command.view_is ∙ ap (request_of _) c.in-Save.is)) (stays (g.L.Lines.state c.args.lines.now) c.args.session.now.machine.lines c.save.new.session.machine.lines c.save.ensures.terminals)

pub returns-in-Save-clause-undone : goal.returns-in-Save-clause-undone
returns-in-Save-clause-undone g c = λ is.
    let asks = sym c.command.view_is ∙ ap (request_of _) c.in-Save.is in
    subst (λ (r : Request). IsUndone (nature r).flushes (nature r).reads_whole (says_files g.F.Files.tells r) c.args.session.now c.save.new.session (g.S.Sink.written c.args.out.now)
    (g.S.Sink.written c.args.out.now) (g.F.Files.state c.args.files.now) (g.F.Files.state c.save.new.files)) (sym asks) (c.save.ensures.undone (g.S.Sink.written c.args.out.now) is)

pub returns-in-Save-clause-refused : goal.returns-in-Save-clause-refused
returns-in-Save-clause-refused g c = λ refused.
    let asks = sym c.command.view_is ∙ ap (request_of _) c.in-Save.is in
    subst (λ (r : Request). AreLeft (nature r).flushes c.args.session.now c.save.new.session) (sym asks)
    (c.save.ensures.refused refused)

pub returns-in-Save-clause-keeps : goal.returns-in-Save-clause-keeps
returns-in-Save-clause-keeps g c =
    as-kept c.args.command.now c.args.session.now.command c.args.session.now.machine.time c.save.new.session.machine.time g.F.Files.tells c.save.result
    c.args.session.now.notes c.save.new.session.notes (g.F.Files.state c.args.files.now) (g.F.Files.state c.save.new.files)
    (ap is_restore (sym c.command.view_is ∙ ap (request_of _) c.in-Save.is))
    (kept-as OpensOwn c.args.command.now c.args.session.now.command c.save.new.session.machine.time g.F.Files.tells c.save.result c.args.session.now.notes c.save.new.session.notes
    (g.F.Files.state c.args.files.now) (g.F.Files.state c.save.new.files) (ap opens_of (sym c.command.view_is ∙ ap (request_of _) c.in-Save.is)) c.save.ensures.keeps)

pub returns-in-Restore-clause-told : goal.returns-in-Restore-clause-told
unfolding effect
returns-in-Restore-clause-told g c = λ told step whole first.
    let s = c.args.session.now in
    let ports = g.L.Lines.state c.args.lines.now in
    let ports' = g.L.Lines.state c.restore.new.lines in
    let new = c.restore.new.session in
    let files' = (g.F.Files.state c.restore.new.files).files in
    let live = live_in s (beyond (g.F.Files.state c.args.files.now).files ports whole) in
    let text = output (g.S.Sink.written c.args.out.now) ports.sent in
    let what = c.in-Restore in
    let name = c.file_name-in-Restore.result.now in
    let is = restore-named _ c.command.inside.verb what.force _ c.args.command.now name (sym c.command.view_is) what.is c.file_name-in-Restore.ensures.name in
    let all = subst (λ (r : Request). IsTold g.F.Files.tells s.machine.slots g.L.Lines.tells ports s.machine.lines r) is told in
    subst (λ (h : Heard). Did (λ own. effect s.limit own live c.args.command.now) s.command c.restore.result (live_in new (beyond files' ports' whole)) g.S.Sink.tells
    text (output (g.S.Sink.written c.args.out.now) h) (notes_said s.notes) (notes_said new.notes)) (sym c.restore.ensures.sent)
    (noted-did s.limit s.command live (live_in new (beyond files' ports' whole)) c.args.command.now (Restore what.force name)
    (λ own. restore_reply own live what.force name) c.restore.result g.S.Sink.tells text text (notes_said s.notes) (notes_said new.notes)
    is (λ own. refl) (c.restore.ensures.told all.0 all.1 all.2 whole first g.S.Sink.tells text))

pub returns-in-Restore-clause-lines : goal.returns-in-Restore-clause-lines
returns-in-Restore-clause-lines g c = c.restore.ensures.left

pub returns-in-Restore-clause-unasked : goal.returns-in-Restore-clause-unasked
returns-in-Restore-clause-unasked g c = λ refused never.
    let asks = sym c.command.view_is ∙ ap (request_of _) c.in-Restore.is in
    c.restore.ensures.unasked refused (λ un. never (subst (λ (r : Request). IsUnlistened r c.restore.result) (sym asks) un))

pub returns-in-Restore-clause-listening : goal.returns-in-Restore-clause-listening
returns-in-Restore-clause-listening g c =
    let asks = sym c.command.view_is ∙ ap (request_of _) c.in-Restore.is in
    subst (λ (r : Request). ListenCause g.L.Lines.tells r c.restore.result (g.L.Lines.state c.args.lines.now) (g.L.Lines.state c.restore.new.lines)) (sym asks) c.restore.ensures.listening

pub returns-in-Restore-clause-line : goal.returns-in-Restore-clause-line
returns-in-Restore-clause-line g c = λ some.
    subst (λ (r : Request). LinesAnswer g.L.Lines.tells r c.restore.result (g.L.Lines.state c.args.lines.now) c.args.session.now.machine.lines (g.L.Lines.state c.restore.new.lines) c.restore.new.session.machine.lines)
    (sym (sym c.command.view_is ∙ ap (request_of _) c.in-Restore.is)) (c.restore.ensures.line some)

pub returns-in-Restore-clause-measured : goal.returns-in-Restore-clause-measured
returns-in-Restore-clause-measured g c =
    let what = c.in-Restore in
    let name = c.file_name-in-Restore.result.now in
    let is = restore-named _ c.command.inside.verb what.force _ c.args.command.now name (sym c.command.view_is) what.is c.file_name-in-Restore.ensures.name in
    subst (λ (r : Request). IsMeasured g.F.Files.tells r c.restore.result (g.F.Files.state c.args.files.now) (g.F.Files.state c.restore.new.files)) (sym is) c.restore.ensures.measured

pub returns-in-Restore-clause-undone : goal.returns-in-Restore-clause-undone
returns-in-Restore-clause-undone g c = λ is.
    let text = g.S.Sink.written c.args.out.now in
    let asks = sym c.command.view_is ∙ ap (request_of _) c.in-Restore.is in
    let says = ap (says_files g.F.Files.tells) asks in
    undone-as (nature c.args.command.now).flushes (Some subject.State) (nature c.args.command.now).reads_whole g.F.Files.tells (says_files g.F.Files.tells c.args.command.now) c.args.session.now c.restore.new.session text text
    (g.F.Files.state c.args.files.now) (g.F.Files.state c.restore.new.files) (ap (λ (r : Request). (nature r).reads_whole) asks) (λ told. sym says ∙ told) (c.restore.ensures.undone text is)

pub returns-in-Restore-clause-unrefused : goal.returns-in-Restore-clause-unrefused
returns-in-Restore-clause-unrefused g c = λ is.
    let name = c.file_name-in-Restore.result.now in
    let asks = restore-named _ c.command.inside.verb c.in-Restore.force _ c.args.command.now name (sym c.command.view_is) c.in-Restore.is c.file_name-in-Restore.ensures.name in
    subst (λ (r : Request). IsUnrefused r c.args.session.now.machine c.args.session.now.watch) (sym asks) (c.restore.ensures.unrefused is)

pub returns-in-Restore-clause-keeps : goal.returns-in-Restore-clause-keeps
returns-in-Restore-clause-keeps g c =
    subst (λ (r : Request). KeepsBy (is_restore r) (opens_of r) c.args.session.now.command c.args.session.now.machine.time c.restore.new.session.machine.time g.F.Files.tells c.restore.result
    c.args.session.now.notes c.restore.new.session.notes (g.F.Files.state c.args.files.now) (g.F.Files.state c.restore.new.files))
    (sym (sym c.command.view_is ∙ ap (request_of _) c.in-Restore.is)) c.restore.ensures.keeps

pub returns-in-Save-clause-back : goal.returns-in-Save-clause-back
returns-in-Save-clause-back g c =
    subst (λ (r : Request). PutsSessionBack g.F.Files.tells (g.F.Files.state c.args.files.now).files r c.save.result c.args.session.now c.save.new.session)
    (sym (sym c.command.view_is ∙ ap (request_of _) c.in-Save.is)) tt

pub returns-in-Restore-clause-back : goal.returns-in-Restore-clause-back
returns-in-Restore-clause-back g c =
    let name = c.file_name-in-Restore.result.now in
    let asks = restore-named _ c.command.inside.verb c.in-Restore.force _ c.args.command.now name (sym c.command.view_is) c.in-Restore.is c.file_name-in-Restore.ensures.name in
    subst (λ (r : Request). PutsSessionBack g.F.Files.tells (g.F.Files.state c.args.files.now).files r c.restore.result c.args.session.now c.restore.new.session) (sym asks)
    (done-back g.F.Files.tells (g.F.Files.state c.args.files.now).files c.in-Restore.force name c.restore.result c.args.session.now c.restore.new.session c.restore.ensures.back)

pub returns-in-Save-clause-tables : goal.returns-in-Save-clause-tables
returns-in-Save-clause-tables g c = λ some.
    by-asks c.args.session.now.machine c.save.result c.args.command.now _ (sym c.command.view_is ∙ ap (request_of _) c.in-Save.is) (save-tables c.save.result c.save.ensures.answers)

pub returns-in-Save-clause-answers : goal.returns-in-Save-clause-answers
returns-in-Save-clause-answers g c =
    can-by c.save.result c.args.command.now _ (sym c.command.view_is ∙ ap (request_of _) c.in-Save.is) c.save.ensures.answers

pub returns-in-Restore-clause-tables : goal.returns-in-Restore-clause-tables
returns-in-Restore-clause-tables g c = λ some.
    by-asks c.args.session.now.machine c.restore.result c.args.command.now _ (sym c.command.view_is ∙ ap (request_of _) c.in-Restore.is) c.restore.ensures.tables

pub returns-in-Restore-clause-answers : goal.returns-in-Restore-clause-answers
returns-in-Restore-clause-answers g c =
    can-by c.restore.result c.args.command.now _ (sym c.command.view_is ∙ ap (request_of _) c.in-Restore.is) c.restore.ensures.answers

pub returns-in-Save-clause-works : goal.returns-in-Save-clause-works
returns-in-Save-clause-works g c =
    let is = sym c.command.view_is ∙ ap (request_of _) c.in-Save.is in
    works-as c.args.command.now (_) c.save.result c.args.session.now c.save.new.session (g.F.Files.state c.args.files.now) (g.F.Files.state c.save.new.files) is (c.save.ensures.machine, c.save.ensures.watch)

pub returns-in-Restore-clause-works : goal.returns-in-Restore-clause-works
returns-in-Restore-clause-works g c =
    let is = sym c.command.view_is ∙ ap (request_of _) c.in-Restore.is in
    works-as c.args.command.now (_) c.restore.result c.args.session.now c.restore.new.session (g.F.Files.state c.args.files.now) (g.F.Files.state c.restore.new.files) is c.restore.ensures.works

pub returns-in_default-clause-keeps : goal.returns-in_default-clause-keeps
returns-in_default-clause-keeps g c =
    let none : IsNoState c.command.inside.verb = record { save = c.in_default.not-Save; restore = c.in_default.not-Restore } in
    let less = subst (λ (r : Request). IsStateless r) c.command.view_is (is-stateless _ c.command.inside.verb none) in
    as-kept c.args.command.now c.args.session.now.command c.args.session.now.machine.time c.obey_stateless.new.session.machine.time g.F.Files.tells c.obey_stateless.result
    c.args.session.now.notes c.obey_stateless.new.session.notes (g.F.Files.state c.args.files.now) (g.F.Files.state c.obey_stateless.new.files)
    (stateless-restore c.args.command.now less) c.obey_stateless.ensures.keeps

pub returns-in_default-clause-back : goal.returns-in_default-clause-back
returns-in_default-clause-back g c =
    let none : IsNoState c.command.inside.verb = record { save = c.in_default.not-Save; restore = c.in_default.not-Restore } in
    let less = subst (λ (r : Request). IsStateless r) c.command.view_is (is-stateless _ c.command.inside.verb none) in
    stateless-back g.F.Files.tells (g.F.Files.state c.args.files.now).files c.args.command.now c.obey_stateless.result c.args.session.now c.obey_stateless.new.session less

pub obey_stateless-requires : goal.obey_stateless-requires
obey_stateless-requires g c =
    let none : IsNoState c.command.inside.verb = record { save = c.in_default.not-Save; restore = c.in_default.not-Restore } in
    let less = subst (λ (r : Request). IsStateless r) c.command.view_is (is-stateless _ c.command.inside.verb none) in
    record { room = c.requires.room; part = less; «open» = c.requires.«open» }

-- ---- the disk's file stays in step with the copy of it, and the console grows

pub returns-in-Save-clause-step : goal.returns-in-Save-clause-step
returns-in-Save-clause-step g c = λ told.
    let s = c.args.session.now in
    let asks = sym c.command.view_is ∙ ap (request_of _) c.in-Save.is in
    c.save.ensures.step (subst (λ (r : Request). IsTold g.F.Files.tells s.machine.slots g.L.Lines.tells (g.L.Lines.state c.args.lines.now) s.machine.lines r) asks told)

pub returns-in-Restore-clause-step : goal.returns-in-Restore-clause-step
returns-in-Restore-clause-step g c = λ told.
    let s = c.args.session.now in
    let asks = sym c.command.view_is ∙ ap (request_of _) c.in-Restore.is in
    let all = subst (λ (r : Request). IsTold g.F.Files.tells s.machine.slots g.L.Lines.tells (g.L.Lines.state c.args.lines.now) s.machine.lines r) asks told in
    stays-alone s c.restore.new.session (g.F.Files.state c.args.files.now).files (g.F.Files.state c.restore.new.files).files (c.restore.ensures.step all.0)

pub returns-in-Save-clause-grows : goal.returns-in-Save-clause-grows
returns-in-Save-clause-grows g c = grows-same g.S.Sink.tells (g.S.Sink.written c.args.out.now) (g.S.Sink.written c.args.out.now) refl

pub returns-in-Restore-clause-grows : goal.returns-in-Restore-clause-grows
returns-in-Restore-clause-grows g c = grows-same g.S.Sink.tells (g.S.Sink.written c.args.out.now) (g.S.Sink.written c.args.out.now) refl

-- ---- neither is a command that works on no file and no line

pub returns-in-Save-clause-untold : goal.returns-in-Save-clause-untold
returns-in-Save-clause-untold g c = λ untold.
    let is = subst IsUntold (sym c.command.view_is ∙ ap (request_of _) c.in-Save.is) untold in absurd (cc is.0)

pub returns-in-Restore-clause-untold : goal.returns-in-Restore-clause-untold
returns-in-Restore-clause-untold g c = λ untold.
    let is = subst IsUntold (sym c.command.view_is ∙ ap (request_of _) c.in-Restore.is) untold in absurd (cc is.0)

-- ---- the kinds of the units

pub returns-in-Restore-clause-kinds : goal.returns-in-Restore-clause-kinds
returns-in-Restore-clause-kinds g c =
    kinds-left g.F.Files.tells (g.F.Files.state c.args.files.now).files c.file_name-in-Restore.result.now c.restore.result c.args.session.now c.restore.new.session
    c.requires.standard c.restore.ensures.own c.restore.ensures.back c.restore.ensures.refused
