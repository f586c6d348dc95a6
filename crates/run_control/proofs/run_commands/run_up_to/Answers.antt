use Rattle.std.proofs.Common.{rules, Some, refl, ◌≡◌, ◌∙◌, ℕ, List, ap, sym, subst}
use Rattle.file_traits.specs.Streams.{Puts}
use Rattle.unit_files.specs.Buffer.{AttachedFiles}
use Rattle.unit_files.specs.InStep.{MarksCover}
use Rattle.file_commands.specs.Notes.{notes_said}
use Rattle.nova_machine.specs.declared.machine.Stop.{Stop}
use Rattle.nova_machine.specs.Comes.{output, FileCause as StopCause}
use Rattle.telnet_lines.specs.Line.{LineOf}
use Rattle.nova_machine.specs.LineChanges.{LinesGoOn}
use Rattle.expect_actions.specs.Watch.{WatchState}
use Rattle.nova_machine.specs.Machine.{MachineState, attached_files}
use Rattle.nova_machine.specs.OnLines.{is_ported}
use Rattle.nova_machine.specs.StopCauses.{moment_of, Watches, RunCause, console_bytes}
use Rattle.nova_machine.specs.Run.{run}
use Rattle.nova_machine.specs.Seen.{seen, beside, erased}
use Rattle.command_session.specs.Live.{Live, CommandState, live_in, beyond}
use Rattle.command_session.specs.RunEffects.{run_failure, ran, stop_text}
use Rattle.command_session.specs.Doing.{Did, Keeps}
use Rattle.command_session.proofs.OwnFileLemmas.{quiet-own, stop-own}
use Rattle.command_session.proofs.GrowLemmas.{grows-both, grows-put}
use Rattle.run_control.proofs.RunLemmas.{cut-did, run-did, erased-text, said-more, run-keeps, cut-keeps}
use Rattle.run_control.proofs.RunStopLemmas.{run-stops}
use Rattle.run_control.proofs.run_commands.run_up_to.Goals as goal

pub returns-then-is_console_fault-clause-done : goal.returns-then-is_console_fault-clause-done
returns-then-is_console_fault-clause-done g c = record {
  told = (let watch = c.session.inside.watch in
      let keys = c.session.inside.keys in
      let m = c.run-stop.new.self in
      let ports = g.L.Lines.state c.args.lines.now in
      let ports' = g.L.Lines.state c.run-stop.new.lines in
      rw (← c.session.view_is) (λ told lt whole first.
      let old = seen (beside watch keys (g.F.Files.state c.args.files.now).files ports) whole c.session.inside.machine in
      let new = seen (beside c.run-stop.new.watch keys (g.F.Files.state c.run-stop.new.files).files ports') whole m in
      cut-did c.args.limit.step c.args.limit.count old new m.time c.run-stop.result c.session.inside.command g.S.Sink.tells (output (g.S.Sink.written c.args.out.now) ports.sent)
      (output (g.S.Sink.written c.run-stop.new.out) ports'.sent)
      (notes_said c.session.inside.notes.items) (c.is_console_fault.ensures.yes c.if-is_console_fault.true) (c.run-stop.ensures.told told lt whole first)));
  lines = rw (← c.session.view_is) c.run-stop.ensures.lines;
  keeps = (rw (← c.session.view_is)
      (cut-keeps c.session.inside.command c.run-stop.new.self.time g.F.Files.tells c.run-stop.result c.session.inside.machine.slots c.session.inside.notes.items
      (g.F.Files.state c.args.files.now) (g.F.Files.state c.run-stop.new.files) (c.is_console_fault.ensures.yes c.if-is_console_fault.true) c.run-stop.ensures.file_cause));
  whose =
      let slots = c.session.inside.machine.slots in
      let old = g.F.Files.state c.args.files.now in
      let new = g.F.Files.state c.run-stop.new.files in
      rw (← c.session.view_is)
      (quiet-own slots c.run-stop.new.self.slots c.session.inside.notes.items c.session.inside.notes.items old new c.run-stop.ensures.slots refl
      (subst (λ (x : Stop). StopCause (Some x) slots old new) (c.is_console_fault.ensures.yes c.if-is_console_fault.true) c.run-stop.ensures.file_cause));
  keys = search rules;
  limit = search rules;
  command = search rules;
  slots = search rules;
  opened = search rules;
  counts = search rules;
  ran = search rules;
  own = search rules;
  exit = search rules;
}

pub returns-clause-done : goal.returns-clause-done
returns-clause-done g c = record {
  told = (let watch = c.session.inside.watch in
      let keys = c.session.inside.keys in
      let files = (g.F.Files.state c.run-stop.new.files).files in
      let before = g.S.Sink.written c.args.out.now in
      let mid = g.S.Sink.written c.run-stop.new.out in
      let after = g.S.Sink.written c.put_stop-printed.new.out in
      let m = c.run-stop.new.self in
      let stop = c.run-stop.result in
      let ports = g.L.Lines.state c.args.lines.now in
      let ports' = g.L.Lines.state c.run-stop.new.lines in
      let number = c.session.inside.command in
      let notes = c.session.inside.notes.items in
      let machine_is : c.session-2.inside.machine ≡ m = ap (λ (s : CommandState). s.machine) (c.session-2.view_is ∙ c.note_stop.ensures.rest) in
      let text_is : stop_text stop c.session-2.inside.machine ≡ stop_text stop (erased m) = ap (stop_text stop) machine_is ∙ sym (erased-text stop m) in
      let kept = ap notes_said c.note_stop.ensures.notes ∙ said-more notes number m.time stop in
      rw (← c.session.view_is) (λ told lt whole first.
      let old = seen (beside watch keys (g.F.Files.state c.args.files.now).files ports) whole c.session.inside.machine in
      let new = seen (beside c.run-stop.new.watch keys files ports') whole m in
      let new_is : live_in c.note_stop.new.session (beyond files ports' whole) ≡ new = ap (λ (s : CommandState). live_in s (beyond files ports' whole)) c.note_stop.ensures.rest in
      subst (λ (x : Live). Did (λ given. ran (run (run_failure given) c.args.limit.step c.args.limit.count old)) number c.told_or_console.result x g.S.Sink.tells (output before ports.sent)
      (output after ports'.sent) (notes_said notes) (notes_said c.note_stop.new.session.notes)) (sym new_is)
      (run-did c.args.limit.step c.args.limit.count old new m.time stop c.put_stop-printed.result c.told_or_console.result number g.S.Sink.tells (output before ports.sent) (output mid ports'.sent)
      (output after ports'.sent) (notes_said notes)
      (notes_said c.note_stop.new.session.notes) (c.is_console_fault.ensures.no c.if-is_console_fault.false) c.run-stop.ensures.unit (c.run-stop.ensures.told told lt whole first)
      (λ t. subst (λ (text : List ℕ). Puts mid text c.put_stop-printed.result after) text_is (c.put_stop-printed.ensures.told t)) refl c.told_or_console.ensures kept)));
  lines =
      let ports = g.L.Lines.state c.args.lines.now in
      let ports' = g.L.Lines.state c.run-stop.new.lines in
      let same : c.note_stop.new.session.machine.lines ≡ c.run-stop.new.self.lines = ap (λ (s : CommandState). s.machine.lines) c.note_stop.ensures.rest in
      rw (← c.session.view_is)
      (subst (λ (ls : List (LineOf ℕ)). LinesGoOn g.L.Lines.tells ports c.session.inside.machine.lines ports' ls) (sym same) c.run-stop.ensures.lines);
  keeps = (let m = c.run-stop.new.self in
      let stop = c.run-stop.result in
      let old = g.F.Files.state c.args.files.now in
      let new = g.F.Files.state c.run-stop.new.files in
      let time_is : c.note_stop.new.session.machine.time ≡ m.time = ap (λ (s : CommandState). s.machine.time) c.note_stop.ensures.rest in
      rw (← c.session.view_is)
      (subst (λ (time : ℕ). Keeps c.session.inside.command time g.F.Files.tells c.told_or_console.result c.session.inside.notes.items c.note_stop.new.session.notes old new) (sym time_is)
      (run-keeps c.session.inside.command m.time g.F.Files.tells stop c.put_stop-printed.result c.told_or_console.result c.session.inside.machine.slots c.session.inside.notes.items
      c.note_stop.new.session.notes old new c.told_or_console.ensures c.note_stop.ensures.notes c.run-stop.ensures.unit c.run-stop.ensures.file_cause)));
  whose =
      let m = c.run-stop.new.self in
      let old = g.F.Files.state c.args.files.now in
      let new = g.F.Files.state c.run-stop.new.files in
      let slots_are = ap (λ (s : CommandState). s.machine.slots) c.note_stop.ensures.rest ∙ c.run-stop.ensures.slots in
      rw (← c.session.view_is)
      (stop-own (record { command = c.session.inside.command; time = m.time }) c.run-stop.result c.session.inside.machine.slots c.note_stop.new.session.machine.slots
      c.session.inside.notes.items c.note_stop.new.session.notes old new slots_are c.run-stop.ensures.unit c.run-stop.ensures.file_cause c.note_stop.ensures.notes);
  keys = search rules;
  limit = search rules;
  command = search rules;
  slots = search rules;
  opened = search rules;
  counts = search rules;
  ran = search rules;
  own = search rules;
  exit = search rules;
}

pub returns-clause-stopped : goal.returns-clause-stopped
returns-clause-stopped g c =
    let stop = c.run-stop.result in
    let m = c.run-stop.new.self in
    let new = c.note_stop.new.session in
    let text = g.S.Sink.written in
    let before = text c.args.out.now in
    let mid = text c.run-stop.new.out in
    let after = text c.put_stop-printed.new.out in
    let machine_is : new.machine ≡ m = ap (λ (s : CommandState). s.machine) c.note_stop.ensures.rest in
    let watch_is : new.watch ≡ c.run-stop.new.watch = ap (λ (s : CommandState). s.watch) c.note_stop.ensures.rest in
    let shown : c.session-2.inside.machine ≡ new.machine = ap (λ (s : CommandState). s.machine) c.session-2.view_is in
    rw (← c.session.view_is)
    (run-stops c.put_stop-printed.result c.told_or_console.result c.args.limit.step c.args.limit.count stop _ new g.S.Sink.tells before mid after c.told_or_console.ensures
    (subst (λ (x : MachineState). RunCause c.args.limit.step c.args.limit.count stop c.session.inside.keys (moment_of c.session.inside.watch c.session.inside.machine) new.watch x) (sym machine_is)
    (subst (λ (x : WatchState). RunCause c.args.limit.step c.args.limit.count stop c.session.inside.keys (moment_of c.session.inside.watch c.session.inside.machine) x m) (sym watch_is) c.run-stop.ensures.cause))
    (subst (λ (x : MachineState). Watches (Some stop) (moment_of c.session.inside.watch c.session.inside.machine) (moment_of new.watch x) g.S.Sink.tells before mid) (sym machine_is)
    (subst (λ (x : WatchState). Watches (Some stop) (moment_of c.session.inside.watch c.session.inside.machine) (moment_of x m) g.S.Sink.tells before mid) (sym watch_is) c.run-stop.ensures.watches))
    (λ t. subst (λ (x : MachineState). Puts mid (stop_text stop x) c.put_stop-printed.result after) shown (c.put_stop-printed.ensures.told t)))

pub returns-then-is_console_fault-clause-grows : goal.returns-then-is_console_fault-clause-grows
returns-then-is_console_fault-clause-grows g c = λ told. (console_bytes (is_ported c.session.inside.machine.lines) c.run-stop.ensures.watches.bytes, c.run-stop.ensures.watches.written told)

pub returns-clause-grows : goal.returns-clause-grows
returns-clause-grows g c =
    let before = g.S.Sink.written c.args.out.now in
    let mid = g.S.Sink.written c.run-stop.new.out in
    let after = g.S.Sink.written c.put_stop-printed.new.out in
    grows-both g.S.Sink.tells before mid after (λ told. (console_bytes (is_ported c.session.inside.machine.lines) c.run-stop.ensures.watches.bytes, c.run-stop.ensures.watches.written told))
    (grows-put g.S.Sink.tells mid _ c.put_stop-printed.result after c.put_stop-printed.ensures.told)

pub returns-then-is_console_fault-clause-covers : goal.returns-then-is_console_fault-clause-covers
returns-then-is_console_fault-clause-covers g c = rw (← c.session.view_is) c.run-stop.ensures.covers

pub returns-clause-covers : goal.returns-clause-covers
returns-clause-covers g c =
    let same : attached_files c.note_stop.new.session.machine ≡ attached_files c.run-stop.new.self = ap (λ (s : CommandState). attached_files s.machine) c.note_stop.ensures.rest in
    rw (← c.session.view_is)
    (subst (λ (a : AttachedFiles). MarksCover (attached_files c.session.inside.machine) a) (sym same) c.run-stop.ensures.covers)
