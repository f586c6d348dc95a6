use Rattle.std.proofs.Common.{Some, None, Err, List, refl, ap, sym, subst}
use Rattle.unit_files.specs.InStep.{InStep}
use Rattle.nova_machine.specs.Machine.{attached_files}
use Rattle.file_commands.specs.Notes.{notes_said}
use Rattle.file_commands.specs.Notes.{CommandNote}
use Rattle.command_session.specs.declared.next.Next.TheVariants.{Go}
use Rattle.command_session.specs.Live.{live_in, beyond}
use Rattle.command_session.specs.Reply.{Answer}
use Rattle.command_session.specs.FileEffects.{detach_all_reply}
use Rattle.command_session.specs.Doing.{Did}
use Rattle.command_session.proofs.CloseLemmas.{all-did}
use Rattle.host_commands.proofs.unit_commands.detach_every.Goals as goal

pub returns-in-Ok-clause-told : goal.returns-in-Ok-clause-told
unfolding detach_all_reply
returns-in-Ok-clause-told g c = λ told step whole tells text.
    let after = c.detach_all.new in
    let before = c.args.session.now in
    all-did (InStep (attached_files before.machine) (g.F.Files.state c.args.files.now).files) Go before.command (live_in before (beyond (g.F.Files.state c.args.files.now).files (g.L.Lines.state c.args.lines.now) whole)) (live_in after.self (beyond (g.F.Files.state after.files).files (g.L.Lines.state after.lines) whole)) None tells text
    (notes_said before.notes) (notes_said after.self.notes) refl (λ at reply both. both) (c.in-Ok.ensures.closes told whole) step

pub returns-in-Err-clause-told : goal.returns-in-Err-clause-told
unfolding detach_all_reply
returns-in-Err-clause-told g c = λ told step whole tells text.
    let after = c.detach_all.new in
    let before = c.args.session.now in
    subst (λ (a : Answer). Did (λ (notes : List CommandNote). detach_all_reply notes (live_in before (beyond (g.F.Files.state c.args.files.now).files (g.L.Lines.state c.args.lines.now) whole))) before.command a
    (live_in after.self (beyond (g.F.Files.state after.files).files (g.L.Lines.state after.lines) whole)) tells text text (notes_said before.notes) (notes_said after.self.notes)) (sym (ap Err c.of_detach.ensures))
    (all-did (InStep (attached_files before.machine) (g.F.Files.state c.args.files.now).files) Go before.command (live_in before (beyond (g.F.Files.state c.args.files.now).files (g.L.Lines.state c.args.lines.now) whole)) (live_in after.self (beyond (g.F.Files.state after.files).files (g.L.Lines.state after.lines) whole)) (Some c.in-Err.fault.unit) tells text
    (notes_said before.notes) (notes_said after.self.notes) refl (λ at reply both. both) (c.in-Err.ensures.closes told whole) step)

pub returns-in-Err-clause-line : goal.returns-in-Err-clause-line
returns-in-Err-clause-line g c = record { lines = c.in-Err.ensures.kept; outside = ap g.L.Lines.state c.in-Err.ensures.unasked }
