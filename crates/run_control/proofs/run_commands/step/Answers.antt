use Rattle.std.proofs.Common.{rules, ◌∙◌, List, Err, refl, sym, subst}
use Rattle.unit_files.proofs.InStep.{covers-same}
use Rattle.file_commands.specs.Notes.{CommandNote, notes_said}
use Rattle.host_lines.specs.Traffic.{Answer as LineAnswer}
use Rattle.file_commands.proofs.OwnFiles.{unused}
use Rattle.nova_machine.proofs.LineSteps.{lines-stay}
use Rattle.nova_machine.specs.Machine.{attached_files}
use Rattle.nova_machine.specs.Comes.{output}
use Rattle.command_session.specs.declared.fault.CommandFault.TheVariants.{OutOfRange}
use Rattle.command_session.specs.Live.{live_in, beyond}
use Rattle.command_session.specs.Reply.{Reply, refused}
use Rattle.command_session.specs.Doing.{RunDone}
use Rattle.command_session.specs.RunEffects.{step_of}
use Rattle.command_session.proofs.GrowLemmas.{grows-same}
use Rattle.command_session.proofs.ReplyLemmas.{did-without, refused-said}
use Rattle.run_control.proofs.StartLemmas.{step-refused, step-begun}
use Rattle.run_control.proofs.run_commands.step.Goals as goal

pub returns-else-is_count-clause-done : goal.returns-else-is_count-clause-done
returns-else-is_count-clause-done g c = record {
  told = (λ told lt whole first.
      let s = c.args.session.now in
      let ports = g.L.Lines.state c.args.lines.now in
      let live = live_in s (beyond (g.F.Files.state c.args.files.now).files ports whole) in
      let text = output (g.S.Sink.written c.args.out.now) ports.sent in
      did-without (λ given. step_of s.limit given c.args.count live) (refused OutOfRange live) s.command (Err OutOfRange) live g.S.Sink.tells text text (notes_said s.notes)
      (step-refused s.limit c.args.count live (sym c.is_count.ensures ∙ c.if-is_count.false)) (refl, refused-said OutOfRange live g.S.Sink.tells text));
  lines = lines-stay g.L.Lines.tells (g.L.Lines.state c.args.lines.now) c.args.session.now.machine.lines;
  keeps = search rules;
  whose = unused c.args.session.now.machine.slots c.args.session.now.machine.slots c.args.session.now.notes c.args.session.now.notes (g.F.Files.state c.args.files.now) refl refl;
  keys = search rules;
  limit = search rules;
  command = search rules;
  slots = search rules;
  opened = search rules;
  counts = search rules;
  ran = search rules;
  own = search rules;
  exit = search rules;
}

pub returns-then-is_count-clause-done : goal.returns-then-is_count-clause-done
returns-then-is_count-clause-done g c =
    let s = c.args.session.now in
    let new = c.step_by.new in
    let old = g.F.Files.state c.args.files.now in
    let ports = g.L.Lines.state c.args.lines.now in
    let fits = sym c.is_count.ensures ∙ c.if-is_count.true in
    subst (λ (reply : List LineAnswer → List CommandNote → Reply). RunDone reply c.step_by.result s new.session old (g.F.Files.state new.files) ports (g.L.Lines.state new.lines)
    g.F.Files.tells g.L.Lines.tells g.S.Sink.tells (g.S.Sink.written c.args.out.now) (g.S.Sink.written new.out) (g.S.Sink.fault_count c.args.out.now) (g.S.Sink.fault_count new.out))
    (λ i whole notes. sym (step-begun s.limit c.args.count (live_in s (beyond old.files ports whole)) fits notes) i) c.step_by.ensures.done

pub returns-else-is_count-clause-covers : goal.returns-else-is_count-clause-covers
returns-else-is_count-clause-covers g c =
    covers-same (attached_files c.args.session.now.machine) (attached_files c.args.session.now.machine) refl refl

pub returns-else-is_count-clause-grows : goal.returns-else-is_count-clause-grows
returns-else-is_count-clause-grows g c = grows-same g.S.Sink.tells (g.S.Sink.written c.args.out.now) (g.S.Sink.written c.args.out.now) refl
