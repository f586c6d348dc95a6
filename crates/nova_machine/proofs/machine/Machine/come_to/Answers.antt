use Rattle.std.proofs.Common.{None, refl}
use Rattle.nova_machine.specs.Comes.{output}
use Rattle.nova_machine.proofs.LineSteps.{lines-stay}
use Rattle.nova_machine.proofs.Plain.{plain-whole}
use Rattle.nova_machine.proofs.Causes.{watches-still}
use Rattle.nova_machine.proofs.Steps.{plain-comes}
use Rattle.nova_machine.specs.Machine.{attached_files}
use Rattle.nova_machine.proofs.Copies.{covers-still}
use Rattle.nova_machine.proofs.machine.Machine.come_to.Goals as goal

pub returns-then-is_plain-clause-told : goal.returns-then-is_plain-clause-told
returns-then-is_plain-clause-told g c = λ told lt whole first.
    plain-whole None c.args.watch.now c.args.keys.now (g.F.Files.state c.args.files.now).files (g.L.Lines.state c.args.lines.now) whole c.args.self.now g.S.Sink.tells (output (g.S.Sink.written c.args.out.now) (g.L.Lines.state c.args.lines.now).sent) (c.is_plain.ensures c.if-is_plain.true)

pub returns-then-is_plain-clause-watches : goal.returns-then-is_plain-clause-watches
returns-then-is_plain-clause-watches g c = watches-still None _ _ g.S.Sink.tells (g.S.Sink.written c.args.out.now) tt refl refl refl

pub returns-then-is_plain-clause-lines : goal.returns-then-is_plain-clause-lines
returns-then-is_plain-clause-lines g c = lines-stay g.L.Lines.tells (g.L.Lines.state c.args.lines.now) c.args.self.now.lines

pub returns-then-is_plain-clause-steps : goal.returns-then-is_plain-clause-steps
returns-then-is_plain-clause-steps g c = plain-comes c.args.keys.now c.args.watch.now c.args.self.now (c.is_plain.ensures c.if-is_plain.true)

pub returns-then-is_plain-clause-covers : goal.returns-then-is_plain-clause-covers
returns-then-is_plain-clause-covers g c = covers-still (attached_files c.args.self.now) (attached_files c.args.self.now) refl
