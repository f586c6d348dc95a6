use Rattle.std.proofs.Common.{◌≡◌, ℕ, false, rules, ◌∙◌, List, Option, Err, refl, ap, sym, subst}
use Rattle.unit_files.specs.Attachments.{Held}
use Rattle.unit_files.specs.Buffer.{AttachedFiles}
use Rattle.unit_files.specs.InStep.{MarksCover}
use Rattle.unit_files.specs.Open.{AllOpen}
use Rattle.unit_files.proofs.InStep.{covers-same}
use Rattle.file_commands.specs.declared.note.FaultNote.{FaultNote}
use Rattle.file_commands.specs.OwnFiles.{AreOwn}
use Rattle.file_commands.specs.Notes.{notes_said}
use Rattle.file_commands.proofs.OwnFiles.{unused}
use Rattle.expect_actions.specs.Watch.{WatchState}
use Rattle.nova_machine.specs.Machine.{MachineState, attached_files}
use Rattle.nova_machine.specs.StopCauses.{moment_of}
use Rattle.nova_machine.specs.Comes.{AreTold, output}
use Rattle.telnet_lines.specs.Line.{LineOf}
use Rattle.nova_machine.specs.LineChanges.{AreLinesTold, LinesGoOn}
use Rattle.nova_machine.proofs.LineSteps.{lines-stay}
use Rattle.command_session.specs.declared.fault.CommandFault.TheVariants.{OutOfRange}
use Rattle.command_session.specs.Live.{CommandState, live_in, beyond}
use Rattle.command_session.specs.Reply.{refused}
use Rattle.command_session.specs.Doing.{RunCause}
use Rattle.command_session.specs.RunEffects.{run_from}
use Rattle.command_session.specs.RunStops.{RunStops}
use Rattle.run_control.proofs.RunStopLemmas.{started-moment, started-stops}
use Rattle.command_session.proofs.GrowLemmas.{grows-same}
use Rattle.command_session.proofs.ReplyLemmas.{did-without, refused-said}
use Rattle.run_control.proofs.StartLemmas.{started-slots, started-files, started-lines, started-did, run_from-refused}
use Rattle.unit_list.specs.Bus.{kinds_of}
use Rattle.command_session.proofs.KindLemmas.{started-kinds}
use Rattle.run_control.proofs.run_commands.run_from.Goals as goal

pub returns-then-not-address_fits-clause-done : goal.returns-then-not-address_fits-clause-done
returns-then-not-address_fits-clause-done g c = record {
  told = (λ told lt whole first.
      let s = c.args.session.now in
      let ports = g.L.Lines.state c.args.lines.now in
      let live = live_in s (beyond (g.F.Files.state c.args.files.now).files ports whole) in
      let text = output (g.S.Sink.written c.args.out.now) ports.sent in
      did-without (λ given. run_from s.limit given c.args.resets c.args.address live) (refused OutOfRange live) s.command (Err OutOfRange) live g.S.Sink.tells text text (notes_said s.notes)
      (run_from-refused s.limit c.args.resets c.args.address live (sym c.address_fits.ensures ∙ c.if-not-address_fits.true)) (refl, refused-said OutOfRange live g.S.Sink.tells text));
  lines = lines-stay g.L.Lines.tells (g.L.Lines.state c.args.lines.now) c.args.session.now.machine.lines;
  keeps = search rules;
  whose = unused c.args.session.now.machine.slots c.args.session.now.machine.slots c.args.session.now.notes c.args.session.now.notes (g.F.Files.state c.args.files.now) refl refl;
  keys = search rules;
  limit = search rules;
  command = search rules;
  slots = search rules;
  opened = search rules;
  counts = search rules;
  ran = search rules;
  own = search rules;
  exit = search rules;
}

pub run-requires-clause-open : goal.run-requires-clause-open
run-requires-clause-open g c =
    let slots_are = ap (λ (s : CommandState). s.machine.slots) c.start.ensures ∙ started-slots c.args.resets c.args.address c.args.session.now.machine in
    subst (λ (slots : List (Option Held)). AllOpen slots (g.F.Files.state c.args.files.now).opened) (sym slots_are) c.requires.«open»

pub returns-clause-done : goal.returns-clause-done
returns-clause-done g c = record {
  told = (λ told lt whole first.
      let s = c.args.session.now in
      let ports = g.L.Lines.state c.args.lines.now in
      let ports' = g.L.Lines.state c.run.new.lines in
      let lines_are = ap (λ (s : CommandState). s.machine.lines) c.start.ensures ∙ started-lines c.args.resets c.args.address s.machine in
      let slots_are = ap (λ (s : CommandState). s.machine.slots) c.start.ensures ∙ started-slots c.args.resets c.args.address s.machine in
      started-did s c.start.new.session c.args.resets c.args.address (beyond (g.F.Files.state c.args.files.now).files ports whole) c.run.result
      (live_in c.run.new.session (beyond (g.F.Files.state c.run.new.files).files ports' whole))
      g.S.Sink.tells (output (g.S.Sink.written c.args.out.now) ports.sent) (output (g.S.Sink.written c.run.new.out) ports'.sent) (notes_said c.run.new.session.notes) c.start.ensures
      (sym c.address_fits.ensures ∙ c.if-not-address_fits.false)
      (c.run.ensures.done.told (subst (λ (slots : List (Option Held)). AreTold g.F.Files.tells slots) (sym slots_are) told)
      (subst (λ (ls : List (LineOf ℕ)). AreLinesTold g.L.Lines.tells ports ls) (sym lines_are) lt) whole first));
  lines =
      let lines_are = ap (λ (s : CommandState). s.machine.lines) c.start.ensures ∙ started-lines c.args.resets c.args.address c.args.session.now.machine in
      subst (λ (ls : List (LineOf ℕ)). LinesGoOn g.L.Lines.tells (g.L.Lines.state c.args.lines.now) ls (g.L.Lines.state c.run.new.lines) c.run.new.session.machine.lines) lines_are
      c.run.ensures.done.lines;
  slots = (c.run.ensures.done.slots ∙ ap (λ (s : CommandState). s.machine.slots) c.start.ensures ∙ started-slots c.args.resets c.args.address c.args.session.now.machine);
  ran = (let slots_are = ap (λ (s : CommandState). s.machine.slots) c.start.ensures ∙ started-slots c.args.resets c.args.address c.args.session.now.machine in
      subst (λ (slots : List (Option Held)). RunCause c.run.result slots (g.F.Files.state c.args.files.now) (g.F.Files.state c.run.new.files)) slots_are c.run.ensures.done.ran);
  keeps = search rules;
  whose =
      let s = c.args.session.now in
      let new = c.run.new.session in
      let slots_are = ap (λ (x : CommandState). x.machine.slots) c.start.ensures ∙ started-slots c.args.resets c.args.address s.machine in
      let notes_are = ap (λ (x : CommandState). x.notes) c.start.ensures in
      subst (λ (l : List (Option Held)). AreOwn l new.machine.slots s.notes new.notes (g.F.Files.state c.args.files.now) (g.F.Files.state c.run.new.files)) slots_are
      (subst (λ (n : List FaultNote). AreOwn c.start.new.session.machine.slots new.machine.slots n new.notes (g.F.Files.state c.args.files.now) (g.F.Files.state c.run.new.files)) notes_are
      c.run.ensures.done.whose);
  keys = search rules;
  limit = search rules;
  command = search rules;
  opened = search rules;
  counts = search rules;
  own = search rules;
  exit = search rules;
}

pub returns-clause-refused : goal.returns-clause-refused
returns-clause-refused g c = λ is. absurd (c.run.ensures.never is)

pub returns-clause-stopped : goal.returns-clause-stopped
returns-clause-stopped g c =
    let s = c.args.session.now in
    let began = c.start.new.session in
    let machine_is = ap (λ (x : CommandState). x.machine) c.start.ensures in
    let watch_is = ap (λ (x : CommandState). x.watch) c.start.ensures in
    let keys_are = ap (λ (x : CommandState). x.keys) c.start.ensures in
    let limit_is = ap (λ (x : CommandState). x.limit) c.start.ensures in
    let moment : moment_of began.watch began.machine ≡ moment_of s.watch s.machine =
    ap (λ (w : WatchState). moment_of w began.machine) watch_is ∙ ap (λ (m : MachineState). moment_of s.watch m) machine_is ∙ started-moment s.watch c.args.resets c.args.address s.machine in
    started-stops c.run.result false s.limit s began c.run.new.session g.S.Sink.tells (g.S.Sink.written c.args.out.now) (g.S.Sink.written c.run.new.out) keys_are moment
    (subst (λ (n : ℕ). RunStops false n c.run.result began c.run.new.session g.S.Sink.tells (g.S.Sink.written c.args.out.now) (g.S.Sink.written c.run.new.out)) limit_is c.run.ensures.stopped)

pub returns-clause-unasked : goal.returns-clause-unasked
returns-clause-unasked g c = λ is. absurd (c.run.ensures.never is)

pub returns-clause-kinds : goal.returns-clause-kinds
returns-clause-kinds g c =
    c.run.ensures.kinds ∙ ap (λ (s : CommandState). kinds_of s.machine.units) c.start.ensures ∙ started-kinds c.args.resets c.args.address c.args.session.now.machine

pub returns-then-not-address_fits-clause-covers : goal.returns-then-not-address_fits-clause-covers
returns-then-not-address_fits-clause-covers g c =
    covers-same (attached_files c.args.session.now.machine) (attached_files c.args.session.now.machine) refl refl

pub returns-clause-covers : goal.returns-clause-covers
returns-clause-covers g c =
    let same = ap (λ (s : CommandState). attached_files s.machine) c.start.ensures ∙ started-files c.args.resets c.args.address c.args.session.now.machine in
    subst (λ (a : AttachedFiles). MarksCover a (attached_files c.run.new.session.machine)) same c.run.ensures.covers

pub returns-then-not-address_fits-clause-grows : goal.returns-then-not-address_fits-clause-grows
returns-then-not-address_fits-clause-grows g c = grows-same g.S.Sink.tells (g.S.Sink.written c.args.out.now) (g.S.Sink.written c.args.out.now) refl
