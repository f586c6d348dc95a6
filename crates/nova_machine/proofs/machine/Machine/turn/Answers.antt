use Rattle.std.proofs.Common.{◌≡◌, ◌∙◌, Some, rules, ap}
use Rattle.nova_machine.specs.Comes.{output}
use Rattle.nova_machine.specs.Parts.{stop_of}
use Rattle.nova_machine.specs.Ends.{end_stop}
use Rattle.nova_machine.specs.Turn.{fetch}
use Rattle.nova_machine.specs.Seen.{seen, beside}
use Rattle.nova_machine.proofs.Turning.{turn-comes, prepared-stops, ended-own}
use Rattle.nova_machine.specs.Notes.{unit_note}
use Rattle.nova_machine.specs.Steps.{ended, made_ready, fetched_on, went_on}
use Rattle.nova_machine.proofs.Steps.{turned-is, behind-comes, stops-before, goes-behind}
use Rattle.nova_machine.specs.Machine.{attached_files}
use Rattle.nova_machine.proofs.Copies.{fetched-attached, covers-to}
use Rattle.nova_machine.proofs.machine.Machine.turn.Goals as goal

pub returns-in-None-clause-told : goal.returns-in-None-clause-told
returns-in-None-clause-told g c = λ told lt whole first.
    let ended : stop_of c.turn.result ≡ end_stop c.fetch.result = search rules in
    let stops : stop_of c.turn.result ≡ (fetch c.prepare.new.self).stop = ended ∙ c.fetch.ensures.answer in
    turn-comes c.args.first c.prepare.new.watch c.args.keys.now (g.F.Files.state c.prepare.new.files).files (g.L.Lines.state c.prepare.new.lines) whole (seen (beside c.args.watch.now c.args.keys.now (g.F.Files.state c.args.files.now).files (g.L.Lines.state c.args.lines.now)) whole c.args.self.now)
    c.prepare.new.self c.fetch.new.self (stop_of c.turn.result) g.S.Sink.tells (output (g.S.Sink.written c.args.out.now) (g.L.Lines.state c.args.lines.now).sent) (output (g.S.Sink.written c.prepare.new.out) (g.L.Lines.state c.prepare.new.lines).sent)
    (c.in-None.ensures.told told lt whole first) (ended-own c.fetch.result (stop_of c.turn.result) ended) stops c.fetch.ensures.machine c.fetch.ensures.lines

pub returns-in-Some-clause-told : goal.returns-in-Some-clause-told
returns-in-Some-clause-told g c = λ told lt whole first.
    prepared-stops (unit_note (Some c.in-Some.stop)) c.args.first (seen (beside c.args.watch.now c.args.keys.now (g.F.Files.state c.args.files.now).files (g.L.Lines.state c.args.lines.now)) whole c.args.self.now)
    (seen (beside c.prepare.new.watch c.args.keys.now (g.F.Files.state c.prepare.new.files).files (g.L.Lines.state c.prepare.new.lines)) whole c.prepare.new.self) c.in-Some.stop g.S.Sink.tells
    (output (g.S.Sink.written c.args.out.now) (g.L.Lines.state c.args.lines.now).sent) (output (g.S.Sink.written c.prepare.new.out) (g.L.Lines.state c.prepare.new.lines).sent)
    (c.in-Some.ensures.told told lt whole first)

pub returns-in-None-clause-steps : goal.returns-in-None-clause-steps
returns-in-None-clause-steps g c =
    let keys = c.args.keys.now in
    let between = c.prepare.new.watch in
    let m = c.prepare.new.self in
    let why = stop_of c.turn.result in
    let ended_so : why ≡ end_stop c.fetch.result = search rules in
    behind-comes (went_on c.args.first) keys why c.args.watch.now between c.args.self.now c.fetch.new.self
    (goes-behind (made_ready c.args.first) fetched_on keys c.args.watch.now between c.args.self.now m (record { watch = between; machine = c.fetch.new.self; stop = why }) c.in-None.ensures.steps
    (ap (ended between) (turned-is (fetch m) c.fetch.new.self why c.fetch.ensures.machine (ended_so ∙ c.fetch.ensures.answer))))

pub returns-in-Some-clause-steps : goal.returns-in-Some-clause-steps
returns-in-Some-clause-steps g c =
    stops-before (made_ready c.args.first) fetched_on c.args.keys.now c.in-Some.stop c.args.watch.now c.prepare.new.watch c.args.self.now c.prepare.new.self c.in-Some.ensures.steps

pub returns-in-None-clause-covers : goal.returns-in-None-clause-covers
returns-in-None-clause-covers g c =
    covers-to (attached_files c.args.self.now) (attached_files c.prepare.new.self) (attached_files c.fetch.new.self) c.in-None.ensures.covers
    (ap attached_files c.fetch.ensures.machine ∙ fetched-attached c.prepare.new.self)
