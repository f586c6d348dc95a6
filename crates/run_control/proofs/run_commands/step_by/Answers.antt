use Rattle.std.proofs.Common.{ℕ, nat_le, ap, subst}
use Rattle.nova_machine.specs.Run.{run}
use Rattle.command_session.specs.Live.{CommandState, live_in, beyond}
use Rattle.command_session.specs.Doing.{RunDone}
use Rattle.command_session.specs.RunEffects.{ran, run_failure, stepped}
use Rattle.run_control.proofs.run_commands.step_by.Goals as goal

pub returns-clause-done : goal.returns-clause-done
unfolding stepped
returns-clause-done g c =
    let s = c.args.session.now in
    let new = c.run_up_to.new in
    let old = g.F.Files.state c.args.files.now in
    let ports = g.L.Lines.state c.args.lines.now in
    subst (λ (n : ℕ). RunDone (λ whole notes. stepped n notes c.args.count (live_in s (beyond old.files ports whole))) c.run_up_to.result s new.session old (g.F.Files.state new.files) ports (g.L.Lines.state new.lines)
    g.F.Files.tells g.L.Lines.tells g.S.Sink.tells (g.S.Sink.written c.args.out.now) (g.S.Sink.written new.out) (g.S.Sink.fault_count c.args.out.now) (g.S.Sink.fault_count new.out))
    (ap (λ (x : CommandState). x.limit) c.session.view_is)
    (subst (λ (n : ℕ). RunDone (λ whole notes. ran (run (run_failure notes) (nat_le c.args.count c.session.inside.limit) n (live_in s (beyond old.files ports whole)))) c.run_up_to.result s new.session old (g.F.Files.state new.files) ports (g.L.Lines.state new.lines)
    g.F.Files.tells g.L.Lines.tells g.S.Sink.tells (g.S.Sink.written c.args.out.now) (g.S.Sink.written new.out) (g.S.Sink.fault_count c.args.out.now) (g.S.Sink.fault_count new.out))
    c.min.ensures c.run_up_to.ensures.done)
