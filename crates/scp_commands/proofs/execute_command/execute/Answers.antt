use Rattle.std.proofs.Common.{ap, refl, ◌∙◌, Err}
use Rattle.file_commands.specs.Notes.{notes_said}
use Rattle.command_session.specs.Live.{CommandState, live_in, beyond}
use Rattle.unit_list.specs.Bus.{kinds_of}
use Rattle.nova_machine.specs.Machine.{attached_files}
use Rattle.nova_machine.specs.Comes.{output}
use Rattle.command_session.specs.declared.fault.CommandFault.TheVariants.{OutOfMemory}
use Rattle.scp_commands.specs.Effect.{effect}
use Rattle.command_session.specs.Doing.{is_restore, opens_of}
use Rattle.command_session.proofs.DidLemmas.{did-want}
use Rattle.command_session.proofs.KeptLemmas.{lines-kept}
use Rattle.command_session.proofs.ListenLemmas.{unlistened}
use Rattle.command_session.proofs.StepLemmas.{step-unchanged, stays-alone}
use Rattle.command_session.proofs.GrowLemmas.{grows-same}
use Rattle.scp_commands.proofs.ObeyLemmas.{may-want, none-measured, want-kept}
use Rattle.scp_commands.proofs.BackLemmas.{back-in-room}
use Rattle.scp_commands.proofs.KindLemmas.{standard-by}
use Rattle.scp_commands.proofs.WorkLemmas.{none-works, works-in-room}
use Rattle.scp_commands.proofs.execute_command.execute.Goals as goal

pub returns-in-Err-clause-told : goal.returns-in-Err-clause-told
returns-in-Err-clause-told g c = λ told step whole first.
    let s = c.args.session.now in
    let new = c.take_room.new.self in
    let ports = g.L.Lines.state c.args.lines.now in
    let files = beyond (g.F.Files.state c.args.files.now).files ports whole in
    let text = output (g.S.Sink.written c.args.out.now) ports.sent in
    did-want (λ own. effect s.limit own (live_in s files) c.args.command.now) s.command (live_in new files) g.S.Sink.tells text text (notes_said s.notes) (notes_said new.notes)
    (ap (λ (x : CommandState). notes_said x.notes) c.in-Err.ensures.rest)

pub returns-in-Err-clause-untold : goal.returns-in-Err-clause-untold
returns-in-Err-clause-untold g c = λ untold whole.
    let s = c.args.session.now in
    let new = c.take_room.new.self in
    let ports = g.L.Lines.state c.args.lines.now in
    let files = beyond (g.F.Files.state c.args.files.now).files ports whole in
    let text = output (g.S.Sink.written c.args.out.now) ports.sent in
    did-want (λ own. effect s.limit own (live_in s files) c.args.command.now) s.command (live_in new files) g.S.Sink.tells text text (notes_said s.notes) (notes_said new.notes)
    (ap (λ (x : CommandState). notes_said x.notes) c.in-Err.ensures.rest)

pub returns-in-Err-clause-want : goal.returns-in-Err-clause-want
returns-in-Err-clause-want g c = λ is. may-want c.args.session.now.spare c.args.command.now c.in-Err.ensures.refused

pub returns-in-Err-clause-measured : goal.returns-in-Err-clause-measured
returns-in-Err-clause-measured g c = none-measured g.F.Files.tells c.args.command.now (g.F.Files.state c.args.files.now)

pub returns-in-Err-clause-lines : goal.returns-in-Err-clause-lines
returns-in-Err-clause-lines g c =
    lines-kept g.L.Lines.tells (g.L.Lines.state c.args.lines.now) c.args.session.now.machine.lines c.take_room.new.self.machine.lines
    (ap (λ (x : CommandState). x.machine.lines) c.in-Err.ensures.rest)

pub returns-in-Err-clause-listening : goal.returns-in-Err-clause-listening
returns-in-Err-clause-listening g c =
    unlistened g.L.Lines.tells c.args.command.now (Err OutOfMemory) (g.L.Lines.state c.args.lines.now) (λ is. absurd (cc))

pub returns-in-Err-clause-keeps : goal.returns-in-Err-clause-keeps
returns-in-Err-clause-keeps g c =
    want-kept (is_restore c.args.command.now) (opens_of c.args.command.now) c.args.session.now.command c.args.session.now.machine.time c.take_room.new.self.machine.time g.F.Files.tells
    c.args.session.now.notes c.take_room.new.self.notes (g.F.Files.state c.args.files.now) (ap (λ (x : CommandState). x.notes) c.in-Err.ensures.rest)

pub returns-in-Err-clause-works : goal.returns-in-Err-clause-works
returns-in-Err-clause-works g c =
    none-works c.args.command.now c.args.session.now c.take_room.new.self (g.F.Files.state c.args.files.now) (ap (λ (x : CommandState). x.machine) c.in-Err.ensures.rest)
    (ap (λ (x : CommandState). x.watch) c.in-Err.ensures.rest)

pub returns-in-Ok-clause-back : goal.returns-in-Ok-clause-back
returns-in-Ok-clause-back g c =
    back-in-room g.F.Files.tells (g.F.Files.state c.args.files.now).files c.args.command.now c.obey.result c.args.session.now c.take_room.new.self c.obey.new.session
    (ap (λ (x : CommandState). x.machine) c.take_room.ensures.rest) c.obey.ensures.back

pub returns-in-Ok-clause-works : goal.returns-in-Ok-clause-works
returns-in-Ok-clause-works g c =
    works-in-room c.args.command.now c.obey.result c.args.session.now c.take_room.new.self c.obey.new.session (g.F.Files.state c.args.files.now) (g.F.Files.state c.obey.new.files)
    (ap (λ (x : CommandState). x.machine) c.take_room.ensures.rest) (ap (λ (x : CommandState). x.watch) c.take_room.ensures.rest) c.obey.ensures.works

pub returns-in-Err-clause-step : goal.returns-in-Err-clause-step
returns-in-Err-clause-step g c = λ told.
    let files = (g.F.Files.state c.args.files.now).files in
    stays-alone c.args.session.now c.take_room.new.self files files
    (step-unchanged c.args.session.now c.take_room.new.self files files (ap (λ (x : CommandState). attached_files x.machine) c.in-Err.ensures.rest) refl)

pub returns-in-Err-clause-grows : goal.returns-in-Err-clause-grows
returns-in-Err-clause-grows g c = grows-same g.S.Sink.tells (g.S.Sink.written c.args.out.now) (g.S.Sink.written c.args.out.now) refl

-- ---- the units

pub returns-in-Err-clause-kinds : goal.returns-in-Err-clause-kinds
returns-in-Err-clause-kinds g c = ap (λ (x : CommandState). kinds_of x.machine.units) c.in-Err.ensures.rest

pub returns-in-Ok-clause-kinds : goal.returns-in-Ok-clause-kinds
returns-in-Ok-clause-kinds g c = c.obey.ensures.kinds ∙ ap (λ (x : CommandState). kinds_of x.machine.units) c.take_room.ensures.rest

pub returns-in-Err-clause-standard : goal.returns-in-Err-clause-standard
returns-in-Err-clause-standard g c = standard-by _ _ c.requires.standard (ap (λ (x : CommandState). kinds_of x.machine.units) c.in-Err.ensures.rest)

pub returns-in-Ok-clause-standard : goal.returns-in-Ok-clause-standard
returns-in-Ok-clause-standard g c =
    standard-by _ _ c.requires.standard (c.obey.ensures.kinds ∙ ap (λ (x : CommandState). kinds_of x.machine.units) c.take_room.ensures.rest)
