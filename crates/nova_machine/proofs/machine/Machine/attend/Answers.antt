use Rattle.nova_machine.specs.Comes.{output}
use Rattle.nova_machine.specs.Seen.{seen, beside}
use Rattle.nova_machine.proofs.Turning.{attended-comes, served-stops}
use Rattle.nova_machine.specs.Notes.{unit_note}
use Rattle.std.proofs.Common.{Some, inl, ap, refl, ◌∙◌}
use Rattle.nova_machine.proofs.Steps.{entered-behind}
use Rattle.nova_machine.specs.Machine.{attached_files}
use Rattle.nova_machine.proofs.Copies.{entered-attached, covers-to}
use Rattle.nova_machine.proofs.machine.Machine.attend.Goals as goal

pub returns-in-None-clause-told : goal.returns-in-None-clause-told
returns-in-None-clause-told g c = λ told lt whole first.
    attended-comes c.serve.new.watch c.args.keys.now (g.F.Files.state c.serve.new.files).files (g.L.Lines.state c.serve.new.lines) whole (seen (beside c.args.watch.now c.args.keys.now (g.F.Files.state c.args.files.now).files (g.L.Lines.state c.args.lines.now)) whole c.args.self.now)
    c.serve.new.self c.interrupt.new.self c.interrupt.result g.S.Sink.tells (output (g.S.Sink.written c.args.out.now) (g.L.Lines.state c.args.lines.now).sent) (output (g.S.Sink.written c.serve.new.out) (g.L.Lines.state c.serve.new.lines).sent)
    (c.in-None.ensures.told told lt whole first) c.interrupt.ensures.other c.interrupt.ensures.stop c.interrupt.ensures.machine c.interrupt.ensures.lines

pub returns-in-Some-clause-told : goal.returns-in-Some-clause-told
returns-in-Some-clause-told g c = λ told lt whole first.
    served-stops (unit_note (Some c.in-Some.stop)) (seen (beside c.args.watch.now c.args.keys.now (g.F.Files.state c.args.files.now).files (g.L.Lines.state c.args.lines.now)) whole c.args.self.now)
    (seen (beside c.serve.new.watch c.args.keys.now (g.F.Files.state c.serve.new.files).files (g.L.Lines.state c.serve.new.lines)) whole c.serve.new.self) c.in-Some.stop g.S.Sink.tells
    (output (g.S.Sink.written c.args.out.now) (g.L.Lines.state c.args.lines.now).sent) (output (g.S.Sink.written c.serve.new.out) (g.L.Lines.state c.serve.new.lines).sent)
    (c.in-Some.ensures.told told lt whole first)

pub returns-in-None-clause-steps : goal.returns-in-None-clause-steps
returns-in-None-clause-steps g c =
    entered-behind c.args.keys.now c.interrupt.result c.args.watch.now c.serve.new.watch c.args.self.now c.serve.new.self c.interrupt.new.self c.in-None.ensures.steps (c.in-None.ensures.rest refl)
    c.interrupt.ensures.machine c.interrupt.ensures.stop

pub returns-in-Some-clause-steps : goal.returns-in-Some-clause-steps
returns-in-Some-clause-steps g c = inl c.in-Some.ensures.steps

pub returns-in-None-clause-covers : goal.returns-in-None-clause-covers
returns-in-None-clause-covers g c =
    covers-to (attached_files c.args.self.now) (attached_files c.serve.new.self) (attached_files c.interrupt.new.self) c.in-None.ensures.covers
    (ap attached_files c.interrupt.ensures.machine ∙ entered-attached c.serve.new.self)
