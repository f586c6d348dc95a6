use Rattle.std.proofs.Common.{[], refl, ap, sym, subst}
use Rattle.file_commands.specs.Notes.{notes_said}
use Rattle.file_commands.proofs.OwnFiles.{unused}
use Rattle.unit_files.specs.Open.{AllOpen, Around}
use Rattle.nova_machine.specs.Comes.{output}
use Rattle.command_session.specs.Live.{CommandState, live_in, beyond}
use Rattle.command_session.specs.Nature.{nature}
use Rattle.command_session.specs.RunStops.{run_count, is_step}
use Rattle.command_session.proofs.DidLemmas.{did-as}
use Rattle.command_session.proofs.KeptLemmas.{lines-kept}
use Rattle.command_session.proofs.ListenLemmas.{unlistening, unlistened, run-no-port}
use Rattle.command_session.proofs.PortLemmas.{left-run}
use Rattle.command_session.proofs.RemainLemmas.{leaves}
use Rattle.command_session.proofs.StepLemmas.{step-unchanged, stays-alone}
use Rattle.command_session.proofs.GrowLemmas.{grows-same, grows-did}
use Rattle.run_control.specs.RunEffect.{run_effect}
use Rattle.host_commands.specs.HostEffect.{host_effect}
use Rattle.plain_commands.specs.UntoldEffect.{untold_effect}
use Rattle.scp_commands.specs.Effect.{effect}
use Rattle.scp_commands.proofs.AnswerLemmas.{untold-stays}
use Rattle.scp_commands.proofs.CanLemmas.{untold-tables, untold-can}
use Rattle.scp_commands.proofs.WorkLemmas.{untold-works}
use Rattle.command_session.specs.Doing.{OpensNone}
use Rattle.host_commands.proofs.HostLemmas.{kept-as}
use Rattle.scp_commands.proofs.ObeyLemmas.{run-opens, untold-opens}
use Rattle.scp_commands.proofs.ObeyLemmas.{run-no-untold, host-no-untold, run-is, run-told, run-no-listener, run-line, run-measured, run-works, run-note}
use Rattle.scp_commands.proofs.ObeyLemmas.{host-is, host-line, host-works, host-counts, host-ran, host-stops, host-no-fault}
use Rattle.scp_commands.proofs.ObeyLemmas.{untold-is, untold-measured, untold-note, untold-no-port, untold-no-fault, untold-ran, untold-stops}
use Rattle.scp_commands.proofs.execute_command.obey_stateless.Goals as goal

pub returns-in-Run-clause-refused : goal.returns-in-Run-clause-refused
returns-in-Run-clause-refused g c = λ is.
    let same = c.obey_run.ensures.refused is in
    leaves (nature c.args.command.now).flushes c.args.session.now c.obey_run.new.session same.0 same.1

pub returns-in-Run-clause-told : goal.returns-in-Run-clause-told
returns-in-Run-clause-told g c = λ told step whole first.
    let s = c.args.session.now in
    let new = c.obey_run.new.session in
    let live = live_in s (beyond (g.F.Files.state c.args.files.now).files (g.L.Lines.state c.args.lines.now) whole) in
    let both = run-told g.F.Files.tells s.machine.slots g.L.Lines.tells (g.L.Lines.state c.args.lines.now) s.machine.lines c.args.command.now (c.family_of.ensures.run c.in-Run.is) told in
    did-as (λ own. effect s.limit own live c.args.command.now) (λ own. run_effect s.limit own live c.args.command.now) s.command c.obey_run.result (live_in new (beyond (g.F.Files.state c.obey_run.new.files).files (g.L.Lines.state c.obey_run.new.lines) whole)) g.S.Sink.tells
    (output (g.S.Sink.written c.args.out.now) (g.L.Lines.state c.args.lines.now).sent) (output (g.S.Sink.written c.obey_run.new.out) (g.L.Lines.state c.obey_run.new.lines).sent) (notes_said s.notes) (notes_said new.notes)
    (λ own. run-is s.limit own live c.args.command.now (c.family_of.ensures.run c.in-Run.is)) (c.obey_run.ensures.done.told both.0 both.1 whole first)

pub returns-in-Run-clause-lines : goal.returns-in-Run-clause-lines
returns-in-Run-clause-lines g c =
    left-run g.L.Lines.tells (g.L.Lines.state c.args.lines.now) (g.L.Lines.state c.obey_run.new.lines) c.args.session.now.machine.lines c.obey_run.new.session.machine.lines c.obey_run.ensures.done.lines

pub returns-in-Run-clause-unasked : goal.returns-in-Run-clause-unasked
returns-in-Run-clause-unasked g c = λ refused never. c.obey_run.ensures.unasked refused

pub returns-in-Run-clause-listening : goal.returns-in-Run-clause-listening
returns-in-Run-clause-listening g c =
    unlistening g.L.Lines.tells c.args.command.now c.obey_run.result (g.L.Lines.state c.args.lines.now) (g.L.Lines.state c.obey_run.new.lines) (run-no-listener c.args.command.now (c.family_of.ensures.run c.in-Run.is)) (run-no-port c.obey_run.result c.obey_run.ensures.done.own)

pub returns-in-Run-clause-line : goal.returns-in-Run-clause-line
returns-in-Run-clause-line g c = λ some. run-line g.L.Lines.tells c.args.command.now c.obey_run.result (g.L.Lines.state c.args.lines.now) c.args.session.now.machine.lines (g.L.Lines.state c.obey_run.new.lines) c.obey_run.new.session.machine.lines (c.family_of.ensures.run c.in-Run.is) c.obey_run.ensures.done.lines.idle

pub returns-in-Run-clause-measured : goal.returns-in-Run-clause-measured
returns-in-Run-clause-measured g c = run-measured g.F.Files.tells c.args.command.now c.obey_run.result (g.F.Files.state c.args.files.now) (g.F.Files.state c.obey_run.new.files) (c.family_of.ensures.run c.in-Run.is)

pub returns-in-Run-clause-tables : goal.returns-in-Run-clause-tables
returns-in-Run-clause-tables g c = λ some. c.obey_run.ensures.tables

pub returns-in-Run-clause-works : goal.returns-in-Run-clause-works
returns-in-Run-clause-works g c = run-works c.args.command.now c.obey_run.result c.args.session.now c.obey_run.new.session (g.F.Files.state c.args.files.now) (g.F.Files.state c.obey_run.new.files) (c.family_of.ensures.run c.in-Run.is)

pub returns-in-Run-clause-attach_note : goal.returns-in-Run-clause-attach_note
returns-in-Run-clause-attach_note g c =
    run-note c.args.command.now c.obey_run.result (record { command = c.args.session.now.command; time = c.args.session.now.machine.time }) c.args.session.now.notes c.obey_run.new.session.notes (g.F.Files.state c.args.files.now) (g.F.Files.state c.obey_run.new.files) (c.family_of.ensures.run c.in-Run.is)

pub returns-in-Host-clause-refused : goal.returns-in-Host-clause-refused
returns-in-Host-clause-refused g c = λ is.
    let same = c.obey_host.ensures.refused is in
    leaves (nature c.args.command.now).flushes c.args.session.now c.obey_host.new.session same.0 same.1

pub returns-in-Host-clause-told : goal.returns-in-Host-clause-told
returns-in-Host-clause-told g c = λ told step whole first.
    let s = c.args.session.now in
    let new = c.obey_host.new.session in
    let live = live_in s (beyond (g.F.Files.state c.args.files.now).files (g.L.Lines.state c.args.lines.now) whole) in
    did-as (λ own. effect s.limit own live c.args.command.now) (λ own. host_effect own live c.args.command.now) s.command c.obey_host.result (live_in new (beyond (g.F.Files.state c.obey_host.new.files).files (g.L.Lines.state c.obey_host.new.lines) whole)) g.S.Sink.tells
    (output (g.S.Sink.written c.args.out.now) (g.L.Lines.state c.args.lines.now).sent) (output (g.S.Sink.written c.args.out.now) (g.L.Lines.state c.obey_host.new.lines).sent) (notes_said s.notes) (notes_said new.notes)
    (λ own. host-is s.limit own live c.args.command.now (c.family_of.ensures.host c.in-Host.is)) (c.obey_host.ensures.told told step whole first g.S.Sink.tells (g.S.Sink.written c.args.out.now))

pub returns-in-Host-clause-line : goal.returns-in-Host-clause-line
returns-in-Host-clause-line g c = λ some. host-line g.L.Lines.tells c.args.command.now c.obey_host.result (g.L.Lines.state c.args.lines.now) c.args.session.now.machine.lines (g.L.Lines.state c.obey_host.new.lines) c.obey_host.new.session.machine.lines (c.family_of.ensures.host c.in-Host.is) c.obey_host.ensures.line

pub returns-in-Host-clause-undone : goal.returns-in-Host-clause-undone
returns-in-Host-clause-undone g c = λ is. c.obey_host.ensures.undone is (g.S.Sink.written c.args.out.now)

pub returns-in-Host-clause-works : goal.returns-in-Host-clause-works
returns-in-Host-clause-works g c = host-works c.args.command.now c.obey_host.result c.args.session.now c.obey_host.new.session (g.F.Files.state c.args.files.now) (g.F.Files.state c.obey_host.new.files) (c.family_of.ensures.host c.in-Host.is) c.obey_host.ensures.works

pub returns-in-Host-clause-counts : goal.returns-in-Host-clause-counts
returns-in-Host-clause-counts g c = host-counts c.obey_host.result (g.S.Sink.fault_count c.args.out.now) c.obey_host.ensures.answer

pub returns-in-Host-clause-ran : goal.returns-in-Host-clause-ran
returns-in-Host-clause-ran g c = host-ran c.obey_host.result c.args.session.now.machine.slots (g.F.Files.state c.args.files.now) (g.F.Files.state c.obey_host.new.files) c.obey_host.ensures.answer

pub returns-in-Host-clause-stopped : goal.returns-in-Host-clause-stopped
returns-in-Host-clause-stopped g c =
    host-stops (is_step c.args.command.now c.args.session.now.limit) (run_count c.args.command.now c.args.session.now.limit) c.obey_host.result c.args.session.now c.obey_host.new.session g.S.Sink.tells (g.S.Sink.written c.args.out.now) (g.S.Sink.written c.args.out.now) c.obey_host.ensures.answer

pub returns-in-Host-clause-stop : goal.returns-in-Host-clause-stop
returns-in-Host-clause-stop g c = host-no-fault c.obey_host.result c.obey_host.ensures.answer

pub returns-in-Untold-clause-told : goal.returns-in-Untold-clause-told
returns-in-Untold-clause-told g c = λ told step whole first.
    let s = c.args.session.now in
    let new = c.obey_untold.new.session in
    let ports = g.L.Lines.state c.args.lines.now in
    let files = beyond (g.F.Files.state c.args.files.now).files ports whole in
    let live = live_in s files in
    did-as (λ own. effect s.limit own live c.args.command.now) (λ own. untold_effect live c.args.command.now) s.command c.obey_untold.result (live_in new files) g.S.Sink.tells
    (output (g.S.Sink.written c.args.out.now) ports.sent) (output (g.S.Sink.written c.obey_untold.new.out) ports.sent) (notes_said s.notes) (notes_said new.notes)
    (λ own. untold-is s.limit own live c.args.command.now (c.family_of.ensures.untold c.in-Untold.is)) (c.obey_untold.ensures.told files ports.sent)

pub returns-in-Untold-clause-untold : goal.returns-in-Untold-clause-untold
returns-in-Untold-clause-untold g c = λ untold whole.
    let s = c.args.session.now in
    let new = c.obey_untold.new.session in
    let ports = g.L.Lines.state c.args.lines.now in
    let files = beyond (g.F.Files.state c.args.files.now).files ports whole in
    let live = live_in s files in
    did-as (λ own. effect s.limit own live c.args.command.now) (λ own. untold_effect live c.args.command.now) s.command c.obey_untold.result (live_in new files) g.S.Sink.tells
    (output (g.S.Sink.written c.args.out.now) ports.sent) (output (g.S.Sink.written c.obey_untold.new.out) ports.sent) (notes_said s.notes) (notes_said new.notes)
    (λ own. untold-is s.limit own live c.args.command.now (c.family_of.ensures.untold c.in-Untold.is)) (c.obey_untold.ensures.told files ports.sent)

pub returns-in-Untold-clause-lines : goal.returns-in-Untold-clause-lines
returns-in-Untold-clause-lines g c =
    lines-kept g.L.Lines.tells (g.L.Lines.state c.args.lines.now) c.args.session.now.machine.lines c.obey_untold.new.session.machine.lines c.obey_untold.ensures.terminals

pub returns-in-Untold-clause-listening : goal.returns-in-Untold-clause-listening
returns-in-Untold-clause-listening g c =
    unlistened g.L.Lines.tells c.args.command.now c.obey_untold.result (g.L.Lines.state c.args.lines.now) (untold-no-port c.obey_untold.result c.obey_untold.ensures.answer)

pub returns-in-Untold-clause-line : goal.returns-in-Untold-clause-line
returns-in-Untold-clause-line g c = λ some.
    untold-stays g.L.Lines.tells c.args.command.now c.obey_untold.result (g.L.Lines.state c.args.lines.now) c.args.session.now.machine.lines c.obey_untold.new.session.machine.lines (c.family_of.ensures.untold c.in-Untold.is) c.obey_untold.ensures.terminals

pub returns-in-Untold-clause-undone : goal.returns-in-Untold-clause-undone
returns-in-Untold-clause-undone g c = λ is. c.obey_untold.ensures.undone is g.F.Files.tells (g.F.Files.state c.args.files.now)

pub returns-in-Untold-clause-measured : goal.returns-in-Untold-clause-measured
returns-in-Untold-clause-measured g c = untold-measured g.F.Files.tells c.args.command.now c.obey_untold.result (g.F.Files.state c.args.files.now) (g.F.Files.state c.args.files.now) (c.family_of.ensures.untold c.in-Untold.is)

pub returns-in-Untold-clause-tables : goal.returns-in-Untold-clause-tables
returns-in-Untold-clause-tables g c = λ some. untold-tables c.args.session.now.machine c.args.command.now c.obey_untold.result (c.family_of.ensures.untold c.in-Untold.is)

pub returns-in-Untold-clause-answers : goal.returns-in-Untold-clause-answers
returns-in-Untold-clause-answers g c = untold-can c.args.command.now c.obey_untold.result (c.family_of.ensures.untold c.in-Untold.is)

pub returns-in-Untold-clause-works : goal.returns-in-Untold-clause-works
returns-in-Untold-clause-works g c = untold-works c.args.command.now c.obey_untold.result c.args.session.now c.obey_untold.new.session (g.F.Files.state c.args.files.now) (g.F.Files.state c.args.files.now) (c.family_of.ensures.untold c.in-Untold.is)

pub returns-in-Untold-clause-keeps : goal.returns-in-Untold-clause-keeps
returns-in-Untold-clause-keeps g c =
    kept-as OpensNone c.args.command.now c.args.session.now.command c.obey_untold.new.session.machine.time g.F.Files.tells c.obey_untold.result c.args.session.now.notes c.obey_untold.new.session.notes
    (g.F.Files.state c.args.files.now) (g.F.Files.state c.args.files.now) (untold-opens c.args.command.now (c.family_of.ensures.untold c.in-Untold.is))
    (c.obey_untold.ensures.keeps g.F.Files.tells (g.F.Files.state c.args.files.now))

pub returns-in-Run-clause-keeps : goal.returns-in-Run-clause-keeps
returns-in-Run-clause-keeps g c =
    kept-as OpensNone c.args.command.now c.args.session.now.command c.obey_run.new.session.machine.time g.F.Files.tells c.obey_run.result c.args.session.now.notes c.obey_run.new.session.notes
    (g.F.Files.state c.args.files.now) (g.F.Files.state c.obey_run.new.files) (run-opens c.args.command.now (c.family_of.ensures.run c.in-Run.is)) c.obey_run.ensures.done.keeps

pub returns-in-Untold-clause-whose : goal.returns-in-Untold-clause-whose
returns-in-Untold-clause-whose g c =
    unused c.args.session.now.machine.slots c.obey_untold.new.session.machine.slots c.args.session.now.notes c.obey_untold.new.session.notes (g.F.Files.state c.args.files.now) c.obey_untold.ensures.slots (ap (λ (x : CommandState). x.notes) c.obey_untold.ensures.rest)

pub returns-in-Untold-clause-keys : goal.returns-in-Untold-clause-keys
returns-in-Untold-clause-keys g c = ap (λ (x : CommandState). x.keys) c.obey_untold.ensures.rest

pub returns-in-Untold-clause-limit : goal.returns-in-Untold-clause-limit
returns-in-Untold-clause-limit g c = ap (λ (x : CommandState). x.limit) c.obey_untold.ensures.rest

pub returns-in-Untold-clause-command : goal.returns-in-Untold-clause-command
returns-in-Untold-clause-command g c = ap (λ (x : CommandState). x.command) c.obey_untold.ensures.rest

pub returns-in-Untold-clause-ran : goal.returns-in-Untold-clause-ran
returns-in-Untold-clause-ran g c = untold-ran c.obey_untold.result c.args.session.now.machine.slots (g.F.Files.state c.args.files.now) (g.F.Files.state c.args.files.now) c.obey_untold.ensures.answer

pub returns-in-Untold-clause-stopped : goal.returns-in-Untold-clause-stopped
returns-in-Untold-clause-stopped g c =
    untold-stops (is_step c.args.command.now c.args.session.now.limit) (run_count c.args.command.now c.args.session.now.limit) c.obey_untold.result c.args.session.now c.obey_untold.new.session g.S.Sink.tells (g.S.Sink.written c.args.out.now) (g.S.Sink.written c.obey_untold.new.out) c.obey_untold.ensures.answer

pub returns-in-Untold-clause-attach_note : goal.returns-in-Untold-clause-attach_note
returns-in-Untold-clause-attach_note g c =
    untold-note c.args.command.now c.obey_untold.result (record { command = c.args.session.now.command; time = c.args.session.now.machine.time }) c.args.session.now.notes c.obey_untold.new.session.notes (g.F.Files.state c.args.files.now) (g.F.Files.state c.args.files.now) (c.family_of.ensures.untold c.in-Untold.is)

pub returns-in-Untold-clause-stop : goal.returns-in-Untold-clause-stop
returns-in-Untold-clause-stop g c = untold-no-fault c.obey_untold.result c.obey_untold.ensures.answer

pub returns-in-Untold-clause-open : goal.returns-in-Untold-clause-open
returns-in-Untold-clause-open g c =
    subst (λ l. AllOpen l (g.F.Files.state c.args.files.now).opened) (sym c.obey_untold.ensures.slots) c.requires.«open»

pub returns-in-Untold-clause-around : goal.returns-in-Untold-clause-around
returns-in-Untold-clause-around g c = λ base around.
    subst (λ l. Around l base (g.F.Files.state c.args.files.now).opened) (sym c.obey_untold.ensures.slots) around

-- ---- the disk's file stays in step with the copy of it, and the console grows

pub returns-in-Run-clause-step : goal.returns-in-Run-clause-step
returns-in-Run-clause-step g c = λ told. c.obey_run.ensures.step

pub returns-in-Untold-clause-step : goal.returns-in-Untold-clause-step
returns-in-Untold-clause-step g c = λ told.
    let files = (g.F.Files.state c.args.files.now).files in
    stays-alone c.args.session.now c.obey_untold.new.session files files
    (step-unchanged c.args.session.now c.obey_untold.new.session files files c.obey_untold.ensures.attached refl)

pub returns-in-Host-clause-grows : goal.returns-in-Host-clause-grows
returns-in-Host-clause-grows g c = grows-same g.S.Sink.tells (g.S.Sink.written c.args.out.now) (g.S.Sink.written c.args.out.now) refl

pub returns-in-Untold-clause-grows : goal.returns-in-Untold-clause-grows
returns-in-Untold-clause-grows g c =
    let s = c.args.session.now in
    let new = c.obey_untold.new.session in
    let ports = g.L.Lines.state c.args.lines.now in
    let files = beyond (g.F.Files.state c.args.files.now).files ports [] in
    grows-did (λ own. untold_effect (live_in s files) c.args.command.now) s.command c.obey_untold.result (live_in new files) g.S.Sink.tells
    (output (g.S.Sink.written c.args.out.now) ports.sent) (output (g.S.Sink.written c.obey_untold.new.out) ports.sent) (notes_said s.notes) (notes_said new.notes)
    (λ is. (c.obey_untold.ensures.undone is g.F.Files.tells (g.F.Files.state c.args.files.now)).written) (c.obey_untold.ensures.told files ports.sent)

pub returns-in-Run-clause-untold : goal.returns-in-Run-clause-untold
returns-in-Run-clause-untold g c = λ untold. absurd (run-no-untold c.args.command.now (c.family_of.ensures.run c.in-Run.is) untold)

pub returns-in-Host-clause-untold : goal.returns-in-Host-clause-untold
returns-in-Host-clause-untold g c = λ untold. absurd (host-no-untold c.args.command.now (c.family_of.ensures.host c.in-Host.is) untold)
