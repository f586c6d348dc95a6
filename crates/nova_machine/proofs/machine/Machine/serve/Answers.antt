use Rattle.std.proofs.Common.{◌≡◌, ℕ, List, ap, refl, sym, subst, ◌∙◌, Option, None, Some, rules}
use Rattle.event_queue.specs.EventList.{due}
use Rattle.unit_list.specs.Bus.{kinds_of}
use Rattle.nova_machine.specs.Notes.{unit_note, failure_of_stop}
use Rattle.nova_machine.specs.Seen.{seen, beside}
use Rattle.host_lines.specs.Told.{record_in}
use Rattle.telnet_lines.specs.Line.{LineOf}
use Rattle.nova_machine.specs.OnLines.{is_ported}
use Rattle.unit_files.specs.Acts.{Failure}
use Rattle.nova_machine.specs.Service.{service}
use Rattle.nova_machine.specs.LineChanges.{AreLinesTold, LinesGoOn}
use Rattle.nova_machine.proofs.LineSteps.{lines-stay, lines-then, first-through}
use Rattle.nova_machine.specs.Comes.{AreTold, Comes, output}
use Rattle.nova_machine.proofs.Serving.{stop-at, more-at, none-at, note-first, note-later}
use Rattle.nova_machine.proofs.Parts.{counts-none}
use Rattle.nova_machine.proofs.Quiet.{told-same, quiet-same, quiet-none, quiet-then, cause-behind}
use Rattle.nova_machine.specs.declared.machine.Stop.{Stop}
use Rattle.nova_machine.specs.Machine.{MachineState, attached_files}
use Rattle.nova_machine.specs.StopCauses.{moment_of, Watches}
use Rattle.nova_machine.proofs.Causes.{watches-still, watches-goes, watches-left, service-then}
use Rattle.nova_machine.specs.Steps.{no_services}
use Rattle.nova_machine.proofs.Steps.{one-service, one-stops, none-more}
use Rattle.nova_machine.proofs.Copies.{covers-still, covers-from, covers-to, covers-then}
use Rattle.nova_machine.proofs.machine.Machine.serve.Goals as goal

pub returns-in-Some-serve_unit-clause-told : goal.returns-in-Some-serve_unit-clause-told
returns-in-Some-serve_unit-clause-told g c = λ told lt whole first-of.
    let start = g.L.Lines.state c.args.lines.now in
    let mid = g.L.Lines.state c.events.lines in
    let told-here = c.events.invariant.lines.told lt in
    let lt-now : AreLinesTold g.L.Lines.tells mid c.take_due.new.self.lines =
    subst (λ (ls : List (LineOf ℕ)). AreLinesTold g.L.Lines.tells mid ls) (sym c.take_due.ensures.lines) told-here.0 in
    let two = c.in-Some-serve_unit.ensures.lines.told lt-now in
    let earlier = first-through (record_in mid.told) (record_in (g.L.Lines.state c.serve_unit.new.lines).told) whole two.1 first-of in
    let stop = c.in-Some-serve_unit.stop in
    let keys = c.args.keys.now in
    let files = (g.F.Files.state c.events.files).files in
    let last = seen (beside c.serve_unit.new.watch keys (g.F.Files.state c.serve_unit.new.files).files (g.L.Lines.state c.serve_unit.new.lines)) whole c.serve_unit.new.self in
    let first : due c.events.self.events ≡ Some c.in-Some.unit = sym c.in-Some.ensures.unit in
    let note = note-first stop c.in-Some.unit c.events.self first c.in-Some-serve_unit.ensures.own in
    let now : AreTold g.F.Files.tells c.take_due.new.self.slots = told-same g.F.Files.tells _ _ (search rules) told in
    c.events.invariant.told told lt (unit_note (Some stop)) (Some stop) last (output (g.S.Sink.written c.serve_unit.new.out) (g.L.Lines.state c.serve_unit.new.lines).sent) whole earlier note.0
    (stop-at (unit_note (Some stop)) c.events.watch keys files mid whole c.events.self c.take_due.new.self c.in-Some.unit (failure_of_stop (Some stop)) stop last g.S.Sink.tells
    (output (g.S.Sink.written c.events.out) (g.L.Lines.state c.events.lines).sent) (output (g.S.Sink.written c.serve_unit.new.out) (g.L.Lines.state c.serve_unit.new.lines).sent) first c.take_due.ensures.taken note.1 (c.in-Some-serve_unit.ensures.told now lt-now whole first-of))

pub events-init : goal.events-init
events-init g c = record {
  told = λ told lt note r s after whole first still comes. comes;
  lines = lines-stay g.L.Lines.tells (g.L.Lines.state c.args.lines.now) c.args.self.now.lines;
  time = refl;
  slots = refl;
  covers = covers-still (attached_files c.args.self.now) (attached_files c.args.self.now) refl;
  kinds = refl;
  opened = refl;
  is_open = c.requires.«open»;
  counts = refl;
  quiet = quiet-same (g.F.Files.state c.args.files.now);
  watches = watches-still None (moment_of c.args.watch.now c.args.self.now) (moment_of c.args.watch.now c.args.self.now) g.S.Sink.tells (g.S.Sink.written c.args.out.now) tt refl refl refl;
  breaks = refl;
  steps = no_services;
}

pub events-preserved : goal.events-preserved
events-preserved g c =
    let goes : c.serve_unit.result ≡ None = search rules in
    let keys = c.args.keys.now in
    let files = (g.F.Files.state c.events.files).files in
    let first : due c.events.self.events ≡ Some c.in-Some.unit = sym c.in-Some.ensures.unit in
    record {
      told = λ told lt note r s after whole first-of still rest.
          let start = g.L.Lines.state c.args.lines.now in
          let mid = g.L.Lines.state c.events.lines in
          let told-here = c.events.invariant.lines.told lt in
          let lt-now : AreLinesTold g.L.Lines.tells mid c.take_due.new.self.lines =
          subst (λ (ls : List (LineOf ℕ)). AreLinesTold g.L.Lines.tells mid ls) (sym c.take_due.ensures.lines) told-here.0 in
          let two = c.serve_unit.ensures.lines.told lt-now in
          let earlier = first-through (record_in mid.told) (record_in (g.L.Lines.state c.serve_unit.new.lines).told) whole two.1 first-of in
          let next = seen (beside c.serve_unit.new.watch keys (g.F.Files.state c.serve_unit.new.files).files (g.L.Lines.state c.serve_unit.new.lines)) whole c.serve_unit.new.self in
          let now : AreTold g.F.Files.tells c.take_due.new.self.slots = told-same g.F.Files.tells _ _ (search rules) told in
          let later = note-later note c.in-Some.unit c.events.self _ first (search rules) (search rules) still in
          c.events.invariant.told told lt note r s after whole earlier later.0
          (more-at note c.events.watch keys files mid whole c.events.self c.take_due.new.self next c.in-Some.unit c.serve_unit.result r s g.S.Sink.tells
          (output (g.S.Sink.written c.events.out) (g.L.Lines.state c.events.lines).sent) (output (g.S.Sink.written c.serve_unit.new.out) (g.L.Lines.state c.serve_unit.new.lines).sent) after
          first c.take_due.ensures.taken later.1 goes
          (subst (λ (f : Option Failure). Comes (service f c.in-Some.unit (seen (beside c.events.watch keys files mid) whole c.take_due.new.self)) c.serve_unit.result next g.S.Sink.tells
          (output (g.S.Sink.written c.events.out) (g.L.Lines.state c.events.lines).sent)
          (output (g.S.Sink.written c.serve_unit.new.out) (g.L.Lines.state c.serve_unit.new.lines).sent)) (ap failure_of_stop goes) (c.serve_unit.ensures.told now lt-now whole first-of))
          (c.serve_unit.ensures.dues goes) rest);
      lines =
          let taken = c.take_due.ensures.lines in
          let mid = g.L.Lines.state c.events.lines in
          let new = g.L.Lines.state c.serve_unit.new.lines in
          lines-then g.L.Lines.tells (g.L.Lines.state c.args.lines.now) mid new c.args.self.now.lines c.events.self.lines c.serve_unit.new.self.lines c.events.invariant.lines
          (subst (λ (ls : List (LineOf ℕ)). LinesGoOn g.L.Lines.tells mid ls new c.serve_unit.new.self.lines) taken c.serve_unit.ensures.lines);
      time = search rules;
      slots = search rules;
      covers =
          covers-then c.args.self.now c.events.self c.serve_unit.new.self c.events.invariant.covers
          (covers-from (attached_files c.events.self) (attached_files c.take_due.new.self) (attached_files c.serve_unit.new.self)
          (ap attached_files c.take_due.ensures.taken) c.serve_unit.ensures.covers);
      kinds = c.serve_unit.ensures.kinds ∙ ap (λ (m : MachineState). kinds_of m.units) c.take_due.ensures.taken ∙ c.events.invariant.kinds;
      opened = c.serve_unit.ensures.opened ∙ c.events.invariant.opened;
      is_open = search rules;
      counts = counts-none c.serve_unit.result _ _ goes c.serve_unit.ensures.counts ∙ c.events.invariant.counts;
      quiet = quiet-then _ _ _ c.events.invariant.quiet (quiet-none c.serve_unit.result _ _ _ goes c.serve_unit.ensures.file_cause);
      watches =
          let text = g.S.Sink.written in
          let taken : c.take_due.new.self.taken ≡ c.events.self.taken = ap (λ (m : MachineState). m.taken) c.take_due.ensures.taken in
          watches-goes None None _ (moment_of c.events.watch c.events.self) (moment_of c.events.watch c.take_due.new.self) _ g.S.Sink.tells (text c.args.out.now) (text c.events.out) (text c.serve_unit.new.out)
          refl refl taken (ap (λ (ls : List (LineOf ℕ)). is_ported ls) c.take_due.ensures.lines) c.events.invariant.watches (subst (λ (o : Option Stop). Watches o (moment_of c.events.watch c.take_due.new.self) (moment_of c.serve_unit.new.watch c.serve_unit.new.self) g.S.Sink.tells
          (text c.events.out) (text c.serve_unit.new.out)) goes c.serve_unit.ensures.watches);
      breaks = c.serve_unit.ensures.breaks ∙ c.events.invariant.breaks;
      steps =
          one-service keys c.args.watch.now c.events.watch c.serve_unit.new.watch c.args.self.now c.events.self c.take_due.new.self c.serve_unit.new.self c.in-Some.unit c.serve_unit.result
          c.events.invariant.steps first c.take_due.ensures.taken goes c.serve_unit.ensures.steps;
    }

pub returns-clause-told : goal.returns-clause-told
returns-clause-told g c = λ told lt whole first-of.
    let mid = g.L.Lines.state c.events.lines in
    let none : due c.events.self.events ≡ None = search rules in
    let keys = c.args.keys.now in
    let files = (g.F.Files.state c.events.files).files in
    c.events.invariant.told told lt None None (seen (beside c.events.watch keys files mid) whole c.take_due.new.self) (output (g.S.Sink.written c.events.out) (g.L.Lines.state c.events.lines).sent) whole first-of tt
    (none-at None c.events.watch keys files mid whole c.events.self c.take_due.new.self g.S.Sink.tells (output (g.S.Sink.written c.events.out) (g.L.Lines.state c.events.lines).sent) none c.take_due.ensures.taken)

pub returns-in-Some-serve_unit-clause-file_cause : goal.returns-in-Some-serve_unit-clause-file_cause
returns-in-Some-serve_unit-clause-file_cause g c =
    cause-behind (Some c.in-Some-serve_unit.stop) _ _ _ _ _ (search rules) c.events.invariant.quiet c.in-Some-serve_unit.ensures.file_cause

pub returns-in-Some-serve_unit-clause-watches : goal.returns-in-Some-serve_unit-clause-watches
returns-in-Some-serve_unit-clause-watches g c =
    let text = g.S.Sink.written in
    let taken : c.take_due.new.self.taken ≡ c.events.self.taken = ap (λ (m : MachineState). m.taken) c.take_due.ensures.taken in
    watches-goes (Some c.in-Some-serve_unit.stop) None _ (moment_of c.events.watch c.events.self) (moment_of c.events.watch c.take_due.new.self) _ g.S.Sink.tells (text c.args.out.now) (text c.events.out)
    (text c.serve_unit.new.out) refl refl taken (ap (λ (ls : List (LineOf ℕ)). is_ported ls) c.take_due.ensures.lines) c.events.invariant.watches c.in-Some-serve_unit.ensures.watches

pub returns-in-Some-serve_unit-clause-cause : goal.returns-in-Some-serve_unit-clause-cause
returns-in-Some-serve_unit-clause-cause g c =
    let text = g.S.Sink.written in
    let taken : c.take_due.new.self.taken ≡ c.events.self.taken = ap (λ (m : MachineState). m.taken) c.take_due.ensures.taken in
    let before = moment_of c.args.watch.now c.args.self.now in
    let mid = moment_of c.events.watch c.take_due.new.self in
    service-then (Some c.in-Some-serve_unit.stop) c.args.keys.now before mid c.serve_unit.new.watch c.serve_unit.new.self g.S.Sink.tells (text c.args.out.now) (text c.events.out)
    (watches-left None None before (moment_of c.events.watch c.events.self) mid g.S.Sink.tells (text c.args.out.now) (text c.events.out) refl tt refl taken (ap (λ (ls : List (LineOf ℕ)). is_ported ls) c.take_due.ensures.lines) c.events.invariant.watches)
    c.in-Some-serve_unit.ensures.cause

pub returns-in-Some-serve_unit-clause-breaks : goal.returns-in-Some-serve_unit-clause-breaks
returns-in-Some-serve_unit-clause-breaks g c = c.in-Some-serve_unit.ensures.breaks ∙ c.events.invariant.breaks

pub returns-clause-watches : goal.returns-clause-watches
returns-clause-watches g c =
    let text = g.S.Sink.written in
    let taken : c.take_due.new.self.taken ≡ c.events.self.taken = ap (λ (m : MachineState). m.taken) c.take_due.ensures.taken in
    watches-left None None (moment_of c.args.watch.now c.args.self.now) (moment_of c.events.watch c.events.self) (moment_of c.events.watch c.take_due.new.self) g.S.Sink.tells (text c.args.out.now) (text c.events.out)
    refl tt refl taken (ap (λ (ls : List (LineOf ℕ)). is_ported ls) c.take_due.ensures.lines) c.events.invariant.watches

pub returns-clause-breaks : goal.returns-clause-breaks
returns-clause-breaks g c = c.events.invariant.breaks

pub returns-in-Some-serve_unit-clause-lines : goal.returns-in-Some-serve_unit-clause-lines
returns-in-Some-serve_unit-clause-lines g c =
    let mid = g.L.Lines.state c.events.lines in
    let new = g.L.Lines.state c.serve_unit.new.lines in
    lines-then g.L.Lines.tells (g.L.Lines.state c.args.lines.now) mid new c.args.self.now.lines c.events.self.lines c.serve_unit.new.self.lines c.events.invariant.lines
    (subst (λ (ls : List (LineOf ℕ)). LinesGoOn g.L.Lines.tells mid ls new c.serve_unit.new.self.lines) c.take_due.ensures.lines c.in-Some-serve_unit.ensures.lines)

pub returns-clause-lines : goal.returns-clause-lines
returns-clause-lines g c =
    subst (λ (ls : List (LineOf ℕ)). LinesGoOn g.L.Lines.tells (g.L.Lines.state c.args.lines.now) c.args.self.now.lines (g.L.Lines.state c.events.lines) ls) (sym c.take_due.ensures.lines) c.events.invariant.lines

pub returns-in-Some-serve_unit-clause-steps : goal.returns-in-Some-serve_unit-clause-steps
returns-in-Some-serve_unit-clause-steps g c =
    let first : due c.events.self.events ≡ Some c.in-Some.unit = sym c.in-Some.ensures.unit in
    one-stops c.args.keys.now c.args.watch.now c.events.watch c.serve_unit.new.watch c.args.self.now c.events.self c.take_due.new.self c.serve_unit.new.self c.in-Some.unit
    c.in-Some-serve_unit.stop c.events.invariant.steps first c.take_due.ensures.taken c.in-Some-serve_unit.ensures.steps

pub returns-clause-steps : goal.returns-clause-steps
returns-clause-steps g c =
    let none : due c.events.self.events ≡ None = search rules in
    none-more c.args.keys.now c.args.watch.now c.events.watch c.args.self.now c.events.self c.take_due.new.self none c.take_due.ensures.taken c.events.invariant.steps

pub returns-in-Some-serve_unit-clause-covers : goal.returns-in-Some-serve_unit-clause-covers
returns-in-Some-serve_unit-clause-covers g c =
    covers-then c.args.self.now c.events.self c.serve_unit.new.self c.events.invariant.covers
    (covers-from (attached_files c.events.self) (attached_files c.take_due.new.self) (attached_files c.serve_unit.new.self)
    (ap attached_files c.take_due.ensures.taken) c.in-Some-serve_unit.ensures.covers)

pub returns-clause-covers : goal.returns-clause-covers
returns-clause-covers g c =
    covers-to (attached_files c.args.self.now) (attached_files c.events.self) (attached_files c.take_due.new.self) c.events.invariant.covers
    (ap attached_files c.take_due.ensures.taken)
