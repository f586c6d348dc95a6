use Rattle.std.proofs.Common.{Ok, Err, refl, ap, sym, ◌∙◌, subst}
use Rattle.file_commands.specs.Notes.{notes_said}
use Rattle.command_session.specs.declared.fault.CommandFault.{CommandFault}
use Rattle.host_lines.specs.Told.{IsFirst, record_in}
use Rattle.nova_machine.specs.Comes.{output}
use Rattle.command_session.specs.Live.{live_in, beyond}
use Rattle.command_session.specs.Asked.{Asked, asked}
use Rattle.command_session.proofs.AskedLemmas.{asked-as}
use Rattle.command_session.proofs.PortLemmas.{left-same}
use Rattle.session_texts.specs.Scripts.{checked}
use Rattle.scp_script.specs.Loop.{Answers, AreKeptBy, AsksPorts, IsShort}
use Rattle.session_texts.specs.Actions.{coming}
use Rattle.scp_script.specs.Used.{TextTold}
use Rattle.scp_script.specs.Spending.{EndOf}
use Rattle.scp_script.proofs.TextLemmas.{answers-none}
use Rattle.scp_script.proofs.SpendingLemmas.{no-exit, opens-failed}
use Rattle.scp_script.proofs.NoteLemmas.{never-short}
use Rattle.scp_script.proofs.KeptLemmas.{kept-none}
use Rattle.scp_script.proofs.GrowLemmas.{stays-same}
use Rattle.scp_script.proofs.answers.answer.Goals as goal

pub returns-in-Ok-clause-told : goal.returns-in-Ok-clause-told
returns-in-Ok-clause-told g c = λ used apart step whole first.
    let session = c.args.session.now in
    let ports = g.L.Lines.state c.args.lines.now in
    let ports' = g.L.Lines.state c.obey.new.lines in
    let live = live_in session (beyond (g.F.Files.state c.args.files.now).files ports whole) in
    let new = live_in c.obey.new.session (beyond (g.F.Files.state c.obey.new.files).files ports' whole) in
    let is = asked-as c.args.line.now (Ok c.read_command.new.into) c.in-Ok.ensures.exact in
    subst (λ (a : Asked). Answers session.limit live (coming c.args.texts.now) a session.command c.obey.result new (coming c.obey.new.texts) g.S.Sink.tells
    (output (g.S.Sink.written c.args.out.now) ports.sent) (output (g.S.Sink.written c.obey.new.out) ports'.sent) (notes_said session.notes) (notes_said c.obey.new.session.notes))
    (sym is) (c.obey.ensures.told (subst (λ (a : Asked). TextTold g.F.Files.tells g.L.Lines.tells session.machine c.args.texts.now.scripts a) is used) apart step whole first)

pub returns-in-Err-clause-told : goal.returns-in-Err-clause-told
returns-in-Err-clause-told g c = λ used apart step whole first.
    let session = c.args.session.now in
    let texts = coming c.args.texts.now in
    let ports = g.L.Lines.state c.args.lines.now in
    let around = beyond (g.F.Files.state c.args.files.now).files ports whole in
    let is = asked-as c.args.line.now (Err c.in-Err.fault) (c.in-Err.ensures.faulty c.in-Err.fault refl) ∙ ap (λ (f : CommandFault). Err f) (sym c.of_line.ensures) in
    answers-none session.limit (live_in session around) texts (asked c.args.line.now) session.command c.deny_line.result (coming c.deny_line.new.texts) g.S.Sink.tells
    (output (g.S.Sink.written c.args.out.now) ports.sent) (output (g.S.Sink.written c.deny_line.new.out) ports.sent) (notes_said session.notes)
    (λ behind. c.deny_line.ensures.told around ports.sent behind (asked c.args.line.now) (ap (checked texts.scripts) is))

pub returns-in-Ok-clause-short : goal.returns-in-Ok-clause-short
returns-in-Ok-clause-short g c = λ used step whole first own noted.
    let session = c.args.session.now in
    let ports = g.L.Lines.state c.args.lines.now in
    let ports' = g.L.Lines.state c.obey.new.lines in
    let is = asked-as c.args.line.now (Ok c.read_command.new.into) c.in-Ok.ensures.exact in
    subst (λ (a : Asked). IsShort a session.command c.obey.result (live_in session (beyond (g.F.Files.state c.args.files.now).files ports whole))
    (live_in c.obey.new.session (beyond (g.F.Files.state c.obey.new.files).files ports' whole)) own (output (g.S.Sink.written c.args.out.now) ports.sent)
    (output (g.S.Sink.written c.obey.new.out) ports'.sent))
    (sym is) (c.obey.ensures.short (subst (λ (a : Asked). TextTold g.F.Files.tells g.L.Lines.tells session.machine c.args.texts.now.scripts a) is used) step whole
    (subst (λ (a : Asked). AsksPorts a → IsFirst (record_in ports'.told) whole) is first) own noted)

pub returns-in-Err-clause-short : goal.returns-in-Err-clause-short
returns-in-Err-clause-short g c = λ used step whole first own is.
    let session = c.args.session.now in
    let ports = g.L.Lines.state c.args.lines.now in
    let live = live_in session (beyond (g.F.Files.state c.args.files.now).files ports whole) in
    never-short (asked c.args.line.now) session.command c.deny_line.result live live own (output (g.S.Sink.written c.args.out.now) ports.sent)
    (output (g.S.Sink.written c.deny_line.new.out) ports.sent) c.deny_line.ensures.memory

pub returns-in-Err-clause-lines : goal.returns-in-Err-clause-lines
returns-in-Err-clause-lines g c = left-same g.L.Lines.tells (g.L.Lines.state c.args.lines.now) c.args.session.now.machine.lines

pub returns-in-Ok-clause-still : goal.returns-in-Ok-clause-still
returns-in-Ok-clause-still g c = λ used untold.
    let is = asked-as c.args.line.now (Ok c.read_command.new.into) c.in-Ok.ensures.exact in
    c.obey.ensures.still (subst (λ (a : Asked). TextTold g.F.Files.tells g.L.Lines.tells c.args.session.now.machine c.args.texts.now.scripts a) is used) untold

-- ---- the notes

pub returns-in-Ok-clause-keeps : goal.returns-in-Ok-clause-keeps
returns-in-Ok-clause-keeps g c =
    let is = asked-as c.args.line.now (Ok c.read_command.new.into) c.in-Ok.ensures.exact in
    subst (λ (a : Asked). AreKeptBy g.F.Files.tells a c.args.session.now.notes c.obey.new.session.notes (g.F.Files.state c.args.files.now) (g.F.Files.state c.obey.new.files)) (sym is) c.obey.ensures.keeps

pub returns-in-Err-clause-keeps : goal.returns-in-Err-clause-keeps
returns-in-Err-clause-keeps g c = kept-none _ _ c.args.session.now.notes (g.F.Files.state c.args.files.now)

-- ---- an exit, and the scripts

pub returns-in-Ok-clause-asked : goal.returns-in-Ok-clause-asked
returns-in-Ok-clause-asked g c =
    let is = asked-as c.args.line.now (Ok c.read_command.new.into) c.in-Ok.ensures.exact in
    subst (λ (a : Asked). EndOf a c.obey.result) (sym is) c.obey.ensures.asked

pub returns-in-Err-clause-asked : goal.returns-in-Err-clause-asked
returns-in-Err-clause-asked g c = no-exit (asked c.args.line.now) c.deny_line.result c.deny_line.ensures.stays

pub returns-in-Err-clause-scripts : goal.returns-in-Err-clause-scripts
returns-in-Err-clause-scripts g c = opens-failed _ c.args.texts.now.scripts c.deny_line.new.texts.scripts c.deny_line.result c.deny_line.ensures.scripts

-- ---- the disk's file

pub returns-in-Ok-clause-step : goal.returns-in-Ok-clause-step
returns-in-Ok-clause-step g c = λ used apart.
    let is = asked-as c.args.line.now (Ok c.read_command.new.into) c.in-Ok.ensures.exact in
    c.obey.ensures.step (subst (λ (a : Asked). TextTold g.F.Files.tells g.L.Lines.tells c.args.session.now.machine c.args.texts.now.scripts a) is used) apart

pub returns-in-Err-clause-step : goal.returns-in-Err-clause-step
returns-in-Err-clause-step g c = λ used apart. stays-same c.args.session.now (g.F.Files.state c.args.files.now).files
