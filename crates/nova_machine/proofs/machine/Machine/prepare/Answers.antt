use Rattle.std.proofs.Common.{Some}
use Rattle.nova_machine.specs.Comes.{output}
use Rattle.nova_machine.specs.Notes.{unit_note}
use Rattle.nova_machine.specs.Seen.{seen, beside}
use Rattle.nova_machine.proofs.Turning.{attended-stops}
use Rattle.nova_machine.specs.Steps.{entered, break_tested}
use Rattle.nova_machine.proofs.Steps.{stops-before}
use Rattle.nova_machine.proofs.machine.Machine.prepare.Goals as goal

pub returns-in-Some-clause-told : goal.returns-in-Some-clause-told
returns-in-Some-clause-told g c = λ told lt whole first.
    attended-stops (unit_note (Some c.in-Some.stop)) c.args.first (seen (beside c.args.watch.now c.args.keys.now (g.F.Files.state c.args.files.now).files (g.L.Lines.state c.args.lines.now)) whole c.args.self.now)
    (seen (beside c.come_to.new.watch c.args.keys.now (g.F.Files.state c.come_to.new.files).files (g.L.Lines.state c.come_to.new.lines)) whole c.come_to.new.self) c.in-Some.stop
    g.S.Sink.tells (output (g.S.Sink.written c.args.out.now) (g.L.Lines.state c.args.lines.now).sent) (output (g.S.Sink.written c.come_to.new.out) (g.L.Lines.state c.come_to.new.lines).sent) (c.in-Some.ensures.told told lt whole first)

pub returns-in-Some-clause-steps : goal.returns-in-Some-clause-steps
returns-in-Some-clause-steps g c =
    stops-before entered (break_tested c.args.first) c.args.keys.now c.in-Some.stop c.args.watch.now c.come_to.new.watch c.args.self.now c.come_to.new.self c.in-Some.ensures.steps
