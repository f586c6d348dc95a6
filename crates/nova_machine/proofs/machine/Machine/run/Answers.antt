use Rattle.std.proofs.Common.{◌≡◌, ◌≢◌, ℕ, ◌-◌, ◌+◌, ◌<◌, ◌≤◌, suc, false, None, Some, Option, inl, inr, refl, sym, subst, ◌∙◌, arith, rules}
use Rattle.nova_processor.specs.declared.burst.BurstEnd.TheVariants as burst_end
use Rattle.nova_machine.specs.declared.machine.Stop.TheVariants.{Limit, ChainLimit}
use Rattle.nova_machine.specs.Notes.{UnitNote, RunNote, at_time, unit_note, run_note}
use Rattle.nova_machine.specs.Seen.{seen, beside}
use Rattle.host_lines.specs.Told.{record_in}
use Rattle.nova_machine.proofs.LineSteps.{lines-stay, lines-then, first-through}
use Rattle.nova_machine.specs.Comes.{AreTold, Comes, output}
use Rattle.nova_machine.specs.Turn.{turn}
use Rattle.nova_machine.specs.Run.{last_time, turns, run}
use Rattle.nova_machine.proofs.Quiet.{told-same, quiet-same, quiet-then, cause-behind}
use Rattle.nova_machine.proofs.LineLooks.{on-chain, any-spent}
use Rattle.nova_machine.proofs.Runs.{last-of, turn-of, ended-of, expired-of, note-here, note-coming, note-own, not-now, still-later}
use Rattle.nova_processor.specs.declared.burst.BurstEnd.{BurstEnd}
use Rattle.nova_machine.specs.StopCauses.{moment_of, BurstCause}
use Rattle.nova_machine.proofs.Causes.{watches-still, watches-then, watches-left}
use Rattle.nova_machine.proofs.ConsoleSteps.{ported-same}
use Rattle.nova_machine.proofs.RunCauses.{run-stopped, run-expired, expired-no-match}
use Rattle.nova_machine.specs.declared.machine.Stop.{Stop}
use Rattle.nova_machine.specs.Steps.{Turns, no_turns, one_turn, IsRun, expires, time_ends, turn_stops}
use Rattle.nova_machine.proofs.Steps.{along-on, along-ends}
use Rattle.nova_machine.specs.Machine.{attached_files}
use Rattle.nova_machine.proofs.Copies.{covers-still, covers-to, covers-then}
use Rattle.nova_machine.proofs.machine.Machine.run.Goals as goal

pub returns-then-self-eq-LAST_TIME-clause-told : goal.returns-then-self-eq-LAST_TIME-clause-told
returns-then-self-eq-LAST_TIME-clause-told g c = λ told lt whole first-of.
    let s = seen (beside c.turns.watch c.args.keys.now (g.F.Files.state c.turns.files).files (g.L.Lines.state c.turns.lines)) whole c.turns.self in
    c.turns.invariant.told told lt None (Some Limit) s (output (g.S.Sink.written c.turns.out) (g.L.Lines.state c.turns.lines).sent) whole first-of tt
    (ended-of None c.args.limit.step c.turns.first c.turns.left s g.S.Sink.tells (output (g.S.Sink.written c.turns.out) (g.L.Lines.state c.turns.lines).sent) (search rules) (search rules))

pub returns-in-Stopped-clause-told : goal.returns-in-Stopped-clause-told
returns-in-Stopped-clause-told g c = λ told lt whole first-of.
    let before = g.L.Lines.state c.turns.lines in
    let lt-now = (c.turns.invariant.lines.told lt).0 in
    let earlier = first-through (record_in before.told) (record_in (g.L.Lines.state c.turn.new.lines).told) whole (c.in-Stopped.ensures.lines.told lt-now).1 first-of in
    let early : c.turns.self.time < last_time = search rules in
    let now : AreTold g.F.Files.tells c.turns.self.slots = told-same g.F.Files.tells _ _ (search rules) told in
    let s = seen (beside c.turns.watch c.args.keys.now (g.F.Files.state c.turns.files).files (g.L.Lines.state c.turns.lines)) whole c.turns.self in
    let last = seen (beside c.turn.new.watch c.args.keys.now (g.F.Files.state c.turn.new.files).files (g.L.Lines.state c.turn.new.lines)) whole c.turn.new.self in
    let stop = c.in-Stopped.stop in
    let note = run_note c.turn.new.self.time (Some stop) in
    let here : at_time c.turns.self.time note ≡ unit_note (Some stop) = note-here stop c.turns.self.time c.turn.new.self.time c.in-Stopped.ensures.fault in
    let P : Option UnitNote → Type 0 = λ x. Comes (turn x c.turns.first s) (Some stop) last g.S.Sink.tells (output (g.S.Sink.written c.turns.out) (g.L.Lines.state c.turns.lines).sent) (output (g.S.Sink.written c.turn.new.out) (g.L.Lines.state c.turn.new.lines).sent) in
    c.turns.invariant.told told lt note (Some stop) last (output (g.S.Sink.written c.turn.new.out) (g.L.Lines.state c.turn.new.lines).sent) whole earlier
    (note-coming stop c.turns.self.time c.turn.new.self.time c.in-Stopped.ensures.fault)
    (last-of note c.args.limit.step c.turns.first c.turns.left s stop last g.S.Sink.tells
    (output (g.S.Sink.written c.turns.out) (g.L.Lines.state c.turns.lines).sent) (output (g.S.Sink.written c.turn.new.out) (g.L.Lines.state c.turn.new.lines).sent) early (search rules) (subst P (sym here) (c.in-Stopped.ensures.told now lt-now whole first-of)))

pub returns-in-ChainLimit-clause-told : goal.returns-in-ChainLimit-clause-told
returns-in-ChainLimit-clause-told g c = λ told lt whole first-of.
    let before = g.L.Lines.state c.turns.lines in
    let between = g.L.Lines.state c.turn.new.lines in
    let new = g.L.Lines.state c.go_on-burst.new.lines in
    let lt-now = (c.turns.invariant.lines.told lt).0 in
    let turned = c.in-Executed.ensures.lines.told lt-now in
    let later = first-through (record_in between.told) (record_in new.told) whole (c.go_on-burst.ensures.lines.told turned.0).1 first-of in
    let earlier = first-through (record_in before.told) (record_in between.told) whole turned.1 later in
    let early : c.turns.self.time < last_time = search rules in
    let one : c.turns.left ≡ suc (c.turns.left - 1) = search rules in
    let ends : c.go_on-burst.result.end ≡ burst_end.ChainLimit = search rules in
    let now : AreTold g.F.Files.tells c.turns.self.slots = told-same g.F.Files.tells _ _ (search rules) told in
    let keys = c.args.keys.now in
    let files = (g.F.Files.state c.turn.new.files).files in
    let console = g.S.Sink.written c.turn.new.out in
    let s = seen (beside c.turns.watch keys (g.F.Files.state c.turns.files).files before) whole c.turns.self in
    let mid = seen (beside c.turn.new.watch keys files between) whole c.turn.new.self in
    let last = seen (beside c.turn.new.watch keys files new) whole c.go_on-burst.new.self in
    c.turns.invariant.told told lt None (Some ChainLimit) last (output console new.sent) whole earlier tt
    (turn-of None c.args.limit.step c.turns.first false c.turns.left (c.turns.left - 1) s mid (Some ChainLimit) last g.S.Sink.tells
    (output (g.S.Sink.written c.turns.out) before.sent) (output console between.sent) (output console new.sent) early refl one (c.in-Executed.ensures.told now lt-now whole later)
    (on-chain c.turn.new.watch keys (c.turns.left - 1) c.go_on-burst.result.done c.go_on-burst.result.end between c.turn.new.self new c.go_on-burst.new.self ends (c.go_on-burst.ensures.told turned.0)
    None c.args.limit.step files g.S.Sink.tells console whole first-of))

pub returns-in-ChainLimit-clause-file_cause : goal.returns-in-ChainLimit-clause-file_cause
returns-in-ChainLimit-clause-file_cause g c =
    quiet-then _ _ _ c.turns.invariant.quiet c.in-Executed.ensures.file_cause

pub returns-in-Stopped-clause-file_cause : goal.returns-in-Stopped-clause-file_cause
returns-in-Stopped-clause-file_cause g c =
    cause-behind (Some c.in-Stopped.stop) _ _ _ _ _ (search rules) c.turns.invariant.quiet c.in-Stopped.ensures.file_cause

pub turns-preserved : goal.turns-preserved
turns-preserved g c =
    let early : c.turns.self.time < last_time = search rules in
    let one : c.turns.left ≡ suc (c.turns.left - 1) = search rules in
    let other : c.go_on-burst.result.end ≢ burst_end.ChainLimit = search rules in
    let keys = c.args.keys.now in
    let files = (g.F.Files.state c.turn.new.files).files in
    let step = c.args.limit.step in
    let rest : c.turns.left - (1 + c.go_on-burst.result.done) ≡ c.turns.left - 1 - c.go_on-burst.result.done = omega arith in
    let time : c.turn.new.self.time ≡ c.turns.self.time + 1 = search rules in
    let grows = c.go_on-burst.ensures.time in
    record {
      told = λ told lt note r last after whole first-of still more.
          let before = g.L.Lines.state c.turns.lines in
          let between = g.L.Lines.state c.turn.new.lines in
          let new = g.L.Lines.state c.go_on-burst.new.lines in
          let lt-now = (c.turns.invariant.lines.told lt).0 in
          let turned = c.in-Executed.ensures.lines.told lt-now in
          let behind = first-through (record_in between.told) (record_in new.told) whole (c.go_on-burst.ensures.lines.told turned.0).1 first-of in
          let earlier = first-through (record_in before.told) (record_in between.told) whole turned.1 behind in
          let console = g.S.Sink.written c.turn.new.out in
          let s = seen (beside c.turns.watch keys (g.F.Files.state c.turns.files).files before) whole c.turns.self in
          let mid = seen (beside c.turn.new.watch keys files between) whole c.turn.new.self in
          let next = seen (beside c.turn.new.watch keys files new) whole c.go_on-burst.new.self in
          let now : AreTold g.F.Files.tells c.turns.self.slots = told-same g.F.Files.tells _ _ (search rules) told in
          let later : c.turns.self.time < c.go_on-burst.new.self.time = omega (arith, time, grows) in
          let sooner : c.turns.self.time ≤ c.go_on-burst.new.self.time = omega (arith, time, grows) in
          let none : at_time c.turns.self.time note ≡ None = not-now note c.turns.self.time c.go_on-burst.new.self.time later still in
          let P : Option UnitNote → Type 0 = λ x. Comes (turn x c.turns.first s) None mid g.S.Sink.tells (output (g.S.Sink.written c.turns.out) before.sent) (output console between.sent) in
          let on = any-spent c.turn.new.watch keys (c.turns.left - 1) c.go_on-burst.result.done c.go_on-burst.result.end between c.turn.new.self new c.go_on-burst.new.self other
          (c.go_on-burst.ensures.told turned.0) in
          let Q : ℕ → Type 0 = λ n. Comes (turns note step false n next) r last g.S.Sink.tells (output console new.sent) after in
          c.turns.invariant.told told lt note r last after whole earlier (still-later note c.turns.self.time c.go_on-burst.new.self.time sooner still)
          (turn-of note step c.turns.first false c.turns.left (c.turns.left - 1) s mid r last g.S.Sink.tells (output (g.S.Sink.written c.turns.out) before.sent) (output console between.sent) after
          early refl one (subst P (sym none) (c.in-Executed.ensures.told now lt-now whole behind))
          (on note step files g.S.Sink.tells console r last after whole first-of (subst Q rest more)));
      slots = search rules;
      covers =
          covers-to (attached_files c.args.self.now) (attached_files c.turn.new.self) (attached_files c.go_on-burst.new.self)
          (covers-then c.args.self.now c.turns.self c.turn.new.self c.turns.invariant.covers c.in-Executed.ensures.covers) c.go_on-burst.ensures.attached;
      kinds = c.go_on-burst.ensures.kinds ∙ c.turn.ensures.kinds ∙ c.turns.invariant.kinds;
      lines =
          let before = g.L.Lines.state c.turns.lines in
          let between = g.L.Lines.state c.turn.new.lines in
          let new = g.L.Lines.state c.go_on-burst.new.lines in
          lines-then g.L.Lines.tells (g.L.Lines.state c.args.lines.now) between new c.args.self.now.lines c.turn.new.self.lines c.go_on-burst.new.self.lines
          (lines-then g.L.Lines.tells (g.L.Lines.state c.args.lines.now) before between c.args.self.now.lines c.turns.self.lines c.turn.new.self.lines c.turns.invariant.lines c.in-Executed.ensures.lines)
          c.go_on-burst.ensures.lines;
      opened = c.in-Executed.ensures.opened ∙ c.turns.invariant.opened;
      is_open = search rules;
      counts = c.in-Executed.ensures.counts ∙ c.turns.invariant.counts;
      quiet = quiet-then _ _ _ c.turns.invariant.quiet c.in-Executed.ensures.file_cause;
      watches =
          let text = g.S.Sink.written in
          watches-left None None (moment_of c.args.watch.now c.args.self.now) (moment_of c.turn.new.watch c.turn.new.self) (moment_of c.turn.new.watch c.go_on-burst.new.self) g.S.Sink.tells
          (text c.args.out.now) (text c.turn.new.out) refl tt refl c.go_on-burst.ensures.taken (ported-same c.turn.new.self.lines c.go_on-burst.new.self.lines c.go_on-burst.ensures.lines.ports)
          (watches-then None (moment_of c.args.watch.now c.args.self.now) (moment_of c.turns.watch c.turns.self) (moment_of c.turn.new.watch c.turn.new.self) g.S.Sink.tells
          (text c.args.out.now) (text c.turns.out) (text c.turn.new.out) c.turns.invariant.watches c.in-Executed.ensures.watches);
      within =
          let within = c.turns.invariant.within in
          let all = within.rest in
          let begun = within.later in
          let few = c.go_on-burst.ensures.few in
          let grown = c.go_on-burst.ensures.time in
          record { rest = omega (arith, all, few, grown, time, one); later = omega (arith, begun, grown, time); began = λ _. omega (arith, begun, grown, time) };
      steps =
          let count = c.args.limit.count in
          let start = c.args.watch.now in
          let old = c.args.self.now in
          let left = c.turns.left - 1 in
          let between = c.turn.new.watch in
          let before = subst (λ (n : ℕ). Turns keys count start old c.turns.first n c.turns.watch c.turns.self) one c.turns.invariant.steps in
          let turned = one_turn c.turns.first left c.turns.watch between c.turns.self c.turn.new.self before early c.in-Executed.ensures.steps in
          subst (λ (n : ℕ). Turns keys count start old false n between c.go_on-burst.new.self) (sym rest)
          (along-on keys between left c.go_on-burst.result.done c.go_on-burst.result.end c.turn.new.self c.go_on-burst.new.self other c.go_on-burst.ensures.steps count start old turned);
    }

pub returns-clause-told : goal.returns-clause-told
returns-clause-told g c = λ told lt whole first-of.
    let s = seen (beside c.turns.watch c.args.keys.now (g.F.Files.state c.turns.files).files (g.L.Lines.state c.turns.lines)) whole c.turns.self in
    let stop = c.expired.result in
    let none : run_note c.turns.self.time (Some stop) ≡ None = note-own stop c.turns.self.time c.expired.ensures.other in
    let start = seen (beside c.args.watch.now c.args.keys.now (g.F.Files.state c.args.files.now).files (g.L.Lines.state c.args.lines.now)) whole c.args.self.now in
    let P : Option RunNote → Type 0 = λ x. Comes (run x c.args.limit.step c.args.limit.count start) (Some stop) s g.S.Sink.tells
    (output (g.S.Sink.written c.args.out.now) (g.L.Lines.state c.args.lines.now).sent) (output (g.S.Sink.written c.turns.out) (g.L.Lines.state c.turns.lines).sent) in
    subst P (sym none) (c.turns.invariant.told told lt None (Some stop) s (output (g.S.Sink.written c.turns.out) (g.L.Lines.state c.turns.lines).sent) whole first-of tt
    (expired-of None c.args.limit.step c.turns.first c.turns.left s stop
    g.S.Sink.tells (output (g.S.Sink.written c.turns.out) (g.L.Lines.state c.turns.lines).sent) (search rules) c.expired.ensures.other c.expired.ensures.stop))

pub turns-init : goal.turns-init
turns-init g c = record {
  told = λ told lt note r s after whole first-of still comes. comes;
  lines = lines-stay g.L.Lines.tells (g.L.Lines.state c.args.lines.now) c.args.self.now.lines;
  slots = refl;
  covers = covers-still (attached_files c.args.self.now) (attached_files c.args.self.now) refl;
  kinds = refl;
  opened = refl;
  is_open = c.requires.«open»;
  counts = refl;
  quiet = quiet-same (g.F.Files.state c.args.files.now);
  watches = watches-still None (moment_of c.args.watch.now c.args.self.now) (moment_of c.args.watch.now c.args.self.now) g.S.Sink.tells (g.S.Sink.written c.args.out.now) tt refl refl refl;
  within = record { rest = refl; later = omega arith; began = λ e. absurd (cc) };
  steps = no_turns;
}

pub returns-then-self-eq-LAST_TIME-clause-watches : goal.returns-then-self-eq-LAST_TIME-clause-watches
returns-then-self-eq-LAST_TIME-clause-watches g c =
    watches-left (Some Limit) None (moment_of c.args.watch.now c.args.self.now) (moment_of c.turns.watch c.turns.self) (moment_of c.turns.watch c.turns.self) g.S.Sink.tells
    (g.S.Sink.written c.args.out.now) (g.S.Sink.written c.turns.out) refl tt refl refl refl c.turns.invariant.watches

pub returns-then-self-eq-LAST_TIME-clause-cause : goal.returns-then-self-eq-LAST_TIME-clause-cause
returns-then-self-eq-LAST_TIME-clause-cause g c =
    let some : 0 < c.turns.left = search rules in
    let late : c.turns.self.time ≡ last_time = search rules in
    let all = c.turns.invariant.within.rest in
    inr (late, omega (arith, all, some))

pub returns-in-Stopped-clause-watches : goal.returns-in-Stopped-clause-watches
returns-in-Stopped-clause-watches g c =
    watches-then (Some c.in-Stopped.stop) (moment_of c.args.watch.now c.args.self.now) (moment_of c.turns.watch c.turns.self) (moment_of c.turn.new.watch c.turn.new.self) g.S.Sink.tells
    (g.S.Sink.written c.args.out.now) (g.S.Sink.written c.turns.out) (g.S.Sink.written c.turn.new.out) c.turns.invariant.watches c.in-Stopped.ensures.watches

pub returns-in-Stopped-clause-cause : goal.returns-in-Stopped-clause-cause
returns-in-Stopped-clause-cause g c =
    let some : 0 < c.turns.left = search rules in
    let early : c.turns.self.time < last_time = search rules in
    run-stopped c.in-Stopped.stop c.turns.first c.args.limit.step c.args.limit.count c.turns.left c.args.keys.now (moment_of c.args.watch.now c.args.self.now) (moment_of c.turns.watch c.turns.self)
    c.turn.new.watch c.turn.new.self g.S.Sink.tells (g.S.Sink.written c.args.out.now) (g.S.Sink.written c.turns.out) c.turns.invariant.watches c.turns.invariant.within some early
    c.in-Stopped.ensures.cause

pub returns-in-ChainLimit-clause-watches : goal.returns-in-ChainLimit-clause-watches
returns-in-ChainLimit-clause-watches g c =
    let text = g.S.Sink.written in
    watches-left (Some ChainLimit) None (moment_of c.args.watch.now c.args.self.now) (moment_of c.turn.new.watch c.turn.new.self) (moment_of c.turn.new.watch c.go_on-burst.new.self) g.S.Sink.tells
    (text c.args.out.now) (text c.turn.new.out) refl tt refl c.go_on-burst.ensures.taken (ported-same c.turn.new.self.lines c.go_on-burst.new.self.lines c.go_on-burst.ensures.lines.ports)
    (watches-then None (moment_of c.args.watch.now c.args.self.now) (moment_of c.turns.watch c.turns.self) (moment_of c.turn.new.watch c.turn.new.self) g.S.Sink.tells
    (text c.args.out.now) (text c.turns.out) (text c.turn.new.out) c.turns.invariant.watches c.in-Executed.ensures.watches)

pub returns-in-ChainLimit-clause-cause : goal.returns-in-ChainLimit-clause-cause
returns-in-ChainLimit-clause-cause g c =
    let one : c.turns.left ≡ suc (c.turns.left - 1) = search rules in
    let ends : c.go_on-burst.result.end ≡ burst_end.ChainLimit = search rules in
    let time : c.turn.new.self.time ≡ c.turns.self.time + 1 = search rules in
    let all = c.turns.invariant.within.rest in
    let begun = c.turns.invariant.within.later in
    let grown = c.go_on-burst.ensures.time in
    let cause : BurstCause burst_end.ChainLimit (c.turns.left - 1) c.go_on-burst.result.done c.go_on-burst.new.self =
    subst (λ (e : BurstEnd). BurstCause e (c.turns.left - 1) c.go_on-burst.result.done c.go_on-burst.new.self) ends c.go_on-burst.ensures.cause in
    let within = cause.1 in
    (inl cause.0, record { least = omega (arith, begun, grown, time); most = omega (arith, all, within, grown, time, one); last = cause.2 })

pub returns-clause-watches : goal.returns-clause-watches
returns-clause-watches g c =
    watches-left (Some c.expired.result) None (moment_of c.args.watch.now c.args.self.now) (moment_of c.turns.watch c.turns.self) (moment_of c.turns.watch c.turns.self) g.S.Sink.tells
    (g.S.Sink.written c.args.out.now) (g.S.Sink.written c.turns.out) refl (expired-no-match c.expired.result c.args.limit.step c.expired.ensures.stop) refl refl refl c.turns.invariant.watches

pub returns-clause-cause : goal.returns-clause-cause
returns-clause-cause g c =
    let none : c.turns.left ≡ 0 = search rules in
    run-expired c.args.limit.step c.turns.first c.args.limit.count c.turns.left c.expired.result c.args.keys.now (moment_of c.args.watch.now c.args.self.now) c.turns.watch c.turns.self
    c.expired.ensures.stop none c.turns.invariant.within

pub returns-in-Stopped-clause-lines : goal.returns-in-Stopped-clause-lines
returns-in-Stopped-clause-lines g c =
    lines-then g.L.Lines.tells (g.L.Lines.state c.args.lines.now) (g.L.Lines.state c.turns.lines) (g.L.Lines.state c.turn.new.lines) c.args.self.now.lines c.turns.self.lines c.turn.new.self.lines
    c.turns.invariant.lines c.in-Stopped.ensures.lines

pub returns-in-ChainLimit-clause-lines : goal.returns-in-ChainLimit-clause-lines
returns-in-ChainLimit-clause-lines g c =
    let between = g.L.Lines.state c.turn.new.lines in
    let new = g.L.Lines.state c.go_on-burst.new.lines in
    lines-then g.L.Lines.tells (g.L.Lines.state c.args.lines.now) between new c.args.self.now.lines c.turn.new.self.lines c.go_on-burst.new.self.lines
    (lines-then g.L.Lines.tells (g.L.Lines.state c.args.lines.now) (g.L.Lines.state c.turns.lines) between c.args.self.now.lines c.turns.self.lines c.turn.new.self.lines c.turns.invariant.lines
    c.in-Executed.ensures.lines) c.go_on-burst.ensures.lines

-- ---- whatever files and lines answer

pub returns-then-self-eq-LAST_TIME-clause-steps : goal.returns-then-self-eq-LAST_TIME-clause-steps
returns-then-self-eq-LAST_TIME-clause-steps g c =
    let some : 0 < c.turns.left = search rules in
    let one : c.turns.left ≡ suc (c.turns.left - 1) = omega (arith, some) in
    let late : c.turns.self.time ≡ last_time = search rules in
    time_ends c.turns.first (c.turns.left - 1) c.turns.watch c.turns.self
    (subst (λ (n : ℕ). Turns c.args.keys.now c.args.limit.count c.args.watch.now c.args.self.now c.turns.first n c.turns.watch c.turns.self) one c.turns.invariant.steps) late

pub returns-in-Stopped-clause-steps : goal.returns-in-Stopped-clause-steps
returns-in-Stopped-clause-steps g c =
    let some : 0 < c.turns.left = search rules in
    let one : c.turns.left ≡ suc (c.turns.left - 1) = omega (arith, some) in
    let early : c.turns.self.time < last_time = search rules in
    turn_stops c.turns.first (c.turns.left - 1) c.in-Stopped.stop c.turns.watch c.turn.new.watch c.turns.self c.turn.new.self
    (subst (λ (n : ℕ). Turns c.args.keys.now c.args.limit.count c.args.watch.now c.args.self.now c.turns.first n c.turns.watch c.turns.self) one c.turns.invariant.steps) early
    c.in-Stopped.ensures.steps

pub returns-in-ChainLimit-clause-steps : goal.returns-in-ChainLimit-clause-steps
returns-in-ChainLimit-clause-steps g c =
    let some : 0 < c.turns.left = search rules in
    let one : c.turns.left ≡ suc (c.turns.left - 1) = omega (arith, some) in
    let early : c.turns.self.time < last_time = search rules in
    let ends : c.go_on-burst.result.end ≡ burst_end.ChainLimit = search rules in
    let keys = c.args.keys.now in
    let count = c.args.limit.count in
    let start = c.args.watch.now in
    let old = c.args.self.now in
    let left = c.turns.left - 1 in
    let between = c.turn.new.watch in
    let before = subst (λ (n : ℕ). Turns keys count start old c.turns.first n c.turns.watch c.turns.self) one c.turns.invariant.steps in
    along-ends keys between left c.go_on-burst.result.done c.go_on-burst.result.end c.turn.new.self c.go_on-burst.new.self ends c.go_on-burst.ensures.steps count start old
    (one_turn c.turns.first left c.turns.watch between c.turns.self c.turn.new.self before early c.in-Executed.ensures.steps) c.args.limit.step

pub returns-clause-steps : goal.returns-clause-steps
returns-clause-steps g c =
    let keys = c.args.keys.now in
    let count = c.args.limit.count in
    let start = c.args.watch.now in
    let old = c.args.self.now in
    let none : c.turns.left ≡ 0 = search rules in
    subst (λ (x : Stop). IsRun keys c.args.limit.step count start old x c.turns.watch c.turns.self) (sym c.expired.ensures.stop)
    (expires c.turns.first c.turns.watch c.turns.self (subst (λ (n : ℕ). Turns keys count start old c.turns.first n c.turns.watch c.turns.self) none c.turns.invariant.steps))

pub returns-in-Stopped-clause-covers : goal.returns-in-Stopped-clause-covers
returns-in-Stopped-clause-covers g c = covers-then c.args.self.now c.turns.self c.turn.new.self c.turns.invariant.covers c.in-Stopped.ensures.covers

pub returns-in-ChainLimit-clause-covers : goal.returns-in-ChainLimit-clause-covers
returns-in-ChainLimit-clause-covers g c =
    covers-to (attached_files c.args.self.now) (attached_files c.turn.new.self) (attached_files c.go_on-burst.new.self)
    (covers-then c.args.self.now c.turns.self c.turn.new.self c.turns.invariant.covers c.in-Executed.ensures.covers) c.go_on-burst.ensures.attached
