use Rattle.std.proofs.Common.{◌∙◌, ap, sym, subst, ℕ, List, Option, None}
use Rattle.std.proofs.lemmas.Result.{err_from_is_err_and}
use Rattle.unit_files.specs.Attachments.{Held}
use Rattle.unit_files.specs.Buffer.{AttachedFiles}
use Rattle.unit_files.specs.InStep.{InStep}
use Rattle.unit_files.specs.Open.{Around}
use Rattle.telnet_lines.specs.Line.{LineOf}
use Rattle.file_commands.specs.Notes.{notes_said}
use Rattle.nova_machine.specs.LineChanges.{AreLinesTold}
use Rattle.nova_machine.specs.Machine.{MachineState, attached_files}
use Rattle.nova_machine.specs.Seen.{seen, beside}
use Rattle.command_session.specs.Live.{CommandState, live_in, beyond}
use Rattle.command_session.specs.Doing.{ClosesFiles}
use Rattle.command_session.proofs.KeptLemmas.{lines-kept}
use Rattle.command_session.proofs.ClosedLive.{unported-live}
use Rattle.command_session.proofs.CloseLemmas.{closes-kept, closes-ported}
use Rattle.command_session.specs.PortAnswers.{ClosesPorts}
use Rattle.command_session.proofs.session.Session.detach_all.Goals as goal

pub returns-in_err-detach_files-clause-left : goal.returns-in_err-detach_files-clause-left
returns-in_err-detach_files-clause-left g c =
    lines-kept g.L.Lines.tells (g.L.Lines.state c.args.lines.now) c.args.self.now.machine.lines c.detach_files.new.self.machine.lines c.detach_files.ensures.terminals

pub returns-in_err-detach_files-clause-closes : goal.returns-in_err-detach_files-clause-closes
returns-in_err-detach_files-clause-closes g c = λ told whole.
    let p = err_from_is_err_and c.from_residual.result c.from_residual.ensures.1 in
    let lines = g.L.Lines.state c.args.lines.now in
    let old = c.args.self.now in
    let new = c.detach_files.new.self in
    rw (p.1, p.2) (closes-kept (InStep (attached_files old.machine) (g.F.Files.state c.args.files.now).files) old.command (live_in old (beyond (g.F.Files.state c.args.files.now).files lines whole))
    (live_in new (beyond (g.F.Files.state c.detach_files.new.files).files lines whole)) c.in_err-detach_files.field-0.0.unit (notes_said old.notes) (notes_said new.notes)
    (c.in_err-detach_files.ensures.closes lines whole))

pub returns-clause-closes : goal.returns-clause-closes
returns-clause-closes g c = λ told whole.
    let s = c.args.self.now in
    let old = g.L.Lines.state c.args.lines.now in
    let new = g.L.Lines.state c.close_row.new.lines in
    let files = (g.F.Files.state c.args.files.now).files in
    let files' = (g.F.Files.state c.detach_files.new.files).files in
    let step = InStep (attached_files s.machine) files in
    let m = c.self.inside.machine in
    let after = c.close_row.new.machine.lines in
    let live = live_in s (beyond files old whole) in
    let same = ap (λ (x : CommandState). x.machine.lines) c.self.view_is ∙ c.detach_files.ensures.terminals in
    let shown = c.close_row.ensures.seen (subst (λ (ls : List (LineOf ℕ)). AreLinesTold g.L.Lines.tells old ls) (sym same) told) in
    let is = c.close_row.ensures.machine ∙ ap (λ (ls : List (LineOf ℕ)). record m { lines = ls }) (sym (ap (λ (x : MachineState). x.lines) c.close_row.ensures.machine)) in
    closes-ported step s.command live (seen (beside c.self.inside.watch c.self.inside.keys files' old) whole m) (seen (beside c.self.inside.watch c.self.inside.keys files' new) whole c.close_row.new.machine)
    (notes_said s.notes) (notes_said c.self.inside.notes.items)
    (subst (λ (x : CommandState). ClosesFiles step s.command live (live_in x (beyond files' old whole)) None (notes_said s.notes) (notes_said x.notes)) (sym c.self.view_is) (c.in_ok-detach_files.ensures.closes old whole))
    (ap (λ (x : MachineState). seen (beside c.self.inside.watch c.self.inside.keys files' new) whole x) is
    ∙ unported-live c.self.inside.watch c.self.inside.keys files' whole m old new after shown)

pub returns-clause-around : goal.returns-clause-around
returns-clause-around g c = λ base around.
    subst (λ (slots : List (Option Held)). Around slots base (g.F.Files.state c.detach_files.new.files).opened)
    (sym (ap (λ (x : CommandState). x.machine.slots) c.self.view_is) ∙ sym (ap (λ (x : MachineState). x.slots) c.close_row.ensures.machine))
    (c.in_ok-detach_files.ensures.around base around)

pub returns-clause-line : goal.returns-clause-line
returns-clause-line g c =
    let same = ap (λ (x : CommandState). x.machine.lines) c.self.view_is ∙ c.detach_files.ensures.terminals in
    subst (λ (ls : List (LineOf ℕ)). ClosesPorts (g.L.Lines.state c.args.lines.now) ls (g.L.Lines.state c.close_row.new.lines) c.close_row.new.machine.lines) same c.close_row.ensures.row

pub returns-clause-step : goal.returns-clause-step
returns-clause-step g c = λ step.
    subst (λ (a : AttachedFiles). InStep a (g.F.Files.state c.detach_files.new.files).files)
    (sym (ap (λ (x : CommandState). attached_files x.machine) c.self.view_is) ∙ sym (ap attached_files c.close_row.ensures.machine))
    (c.in_ok-detach_files.ensures.step step)
