use Rattle.std.proofs.Common.{ℕ, ap, subst}
use Rattle.command_session.specs.Live.{CommandState, live_in, beyond}
use Rattle.command_session.specs.Doing.{RunDone}
use Rattle.command_session.specs.RunEffects.{running}
use Rattle.run_control.proofs.run_commands.run.Goals as goal

pub returns-clause-done : goal.returns-clause-done
returns-clause-done g c =
    let s = c.args.session.now in
    let new = c.run_up_to.new in
    let old = g.F.Files.state c.args.files.now in
    let ports = g.L.Lines.state c.args.lines.now in
    subst (λ (n : ℕ). RunDone (λ whole notes. running n notes (live_in s (beyond old.files ports whole))) c.run_up_to.result s new.session old (g.F.Files.state new.files) ports (g.L.Lines.state new.lines)
    g.F.Files.tells g.L.Lines.tells g.S.Sink.tells (g.S.Sink.written c.args.out.now) (g.S.Sink.written new.out) (g.S.Sink.fault_count c.args.out.now) (g.S.Sink.fault_count new.out))
    (ap (λ (x : CommandState). x.limit) c.session.view_is) c.run_up_to.ensures.done
