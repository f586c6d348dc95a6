use Rattle.std.proofs.Common.{Some, None, Err, List, refl, ap, sym, subst, arith}
use Rattle.unit_files.specs.InStep.{InStep}
use Rattle.nova_machine.specs.Machine.{attached_files}
use Rattle.file_commands.specs.Notes.{CommandNote}
use Rattle.command_session.specs.Reply.{Answer}
use Rattle.command_session.specs.ExitEffects.{exit_reply}
use Rattle.command_session.specs.Doing.{Did}
use Rattle.file_commands.specs.Notes.{notes_said}
use Rattle.command_session.specs.Live.{live_in, beyond}
use Rattle.command_session.proofs.PortLemmas.{left-same}
use Rattle.host_commands.proofs.ExitLemmas.{exit-did, exit-refused}
use Rattle.host_commands.proofs.exit_command.exit.Goals as goal

pub returns-in_default-clause-told : goal.returns-in_default-clause-told
returns-in_default-clause-told g c = λ told step whole tells text.
    let before = c.args.session.now in
    exit-refused c.args.status c.unwrap_or.result before.command (live_in before (beyond (g.F.Files.state c.args.files.now).files (g.L.Lines.state c.args.lines.now) whole)) tells text
    (notes_said before.notes) c.unwrap_or.ensures (omega arith)

pub returns-in-Ok-clause-told : goal.returns-in-Ok-clause-told
returns-in-Ok-clause-told g c = λ told step whole tells text.
    let after = c.detach_all.new in
    let before = c.args.session.now in
    exit-did (InStep (attached_files before.machine) (g.F.Files.state c.args.files.now).files) c.args.status c.unwrap_or.result before.command (live_in before (beyond (g.F.Files.state c.args.files.now).files (g.L.Lines.state c.args.lines.now) whole))
    (live_in after.self (beyond (g.F.Files.state after.files).files (g.L.Lines.state after.lines) whole)) None tells text (notes_said before.notes) (notes_said after.self.notes)
    c.unwrap_or.ensures (omega arith) (c.in-Ok.ensures.closes told whole) step

pub returns-in-Err-clause-told : goal.returns-in-Err-clause-told
returns-in-Err-clause-told g c = λ told step whole tells text.
    let after = c.detach_all.new in
    let before = c.args.session.now in
    subst (λ (a : Answer). Did (λ (notes : List CommandNote). exit_reply notes (live_in before (beyond (g.F.Files.state c.args.files.now).files (g.L.Lines.state c.args.lines.now) whole)) c.args.status) before.command a
    (live_in after.self (beyond (g.F.Files.state after.files).files (g.L.Lines.state after.lines) whole)) tells text text (notes_said before.notes) (notes_said after.self.notes)) (sym (ap Err c.of_detach.ensures))
    (exit-did (InStep (attached_files before.machine) (g.F.Files.state c.args.files.now).files) c.args.status c.unwrap_or.result before.command (live_in before (beyond (g.F.Files.state c.args.files.now).files (g.L.Lines.state c.args.lines.now) whole))
    (live_in after.self (beyond (g.F.Files.state after.files).files (g.L.Lines.state after.lines) whole)) (Some c.in-Err.fault.unit) tells text (notes_said before.notes) (notes_said after.self.notes)
    c.unwrap_or.ensures (omega arith) (c.in-Err.ensures.closes told whole) step)

pub returns-in_default-clause-left : goal.returns-in_default-clause-left
returns-in_default-clause-left g c = left-same g.L.Lines.tells (g.L.Lines.state c.args.lines.now) c.args.session.now.machine.lines

pub returns-in-Err-clause-line : goal.returns-in-Err-clause-line
returns-in-Err-clause-line g c = record { lines = c.in-Err.ensures.kept; outside = ap g.L.Lines.state c.in-Err.ensures.unasked }

pub returns-in_default-clause-line : goal.returns-in_default-clause-line
returns-in_default-clause-line g c = record { lines = refl; outside = refl }
