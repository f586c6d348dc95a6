use Rattle.nova_machine.specs.OnLines.{is_ported}
use Rattle.nova_machine.proofs.LineSteps.{lines-stay}
use Rattle.nova_machine.proofs.Serving.{due_of}
use Rattle.nova_machine.proofs.ConsoleSteps.{off-as, off-off}
use Rattle.std.proofs.Common.{◌≡◌, ◌∙◌, sym}
use Rattle.nova_machine.proofs.machine.Machine.on_line.Goals as goal

pub returns-then-is_off_line-clause-told : goal.returns-then-is_off_line-clause-told
returns-then-is_off_line-clause-told g c = λ told whole first.
    let m = c.args.self.now in
    let w = c.args.watch.now in
    off-as m.time (due_of w c.args.keys.now m) w.expects c.args.want (g.L.Lines.state c.args.lines.now) m.lines whole
    (sym c.is_off_line.ensures ∙ c.if-is_off_line.true)

pub returns-then-is_off_line-clause-off : goal.returns-then-is_off_line-clause-off
returns-then-is_off_line-clause-off g c = λ none.
    let m = c.args.self.now in
    off-off c.args.want (is_ported m.lines) (due_of c.args.watch.now c.args.keys.now m) (sym c.is_off_line.ensures ∙ c.if-is_off_line.true)

pub returns-then-is_off_line-clause-lines : goal.returns-then-is_off_line-clause-lines
returns-then-is_off_line-clause-lines g c = lines-stay g.L.Lines.tells (g.L.Lines.state c.args.lines.now) c.args.self.now.lines
