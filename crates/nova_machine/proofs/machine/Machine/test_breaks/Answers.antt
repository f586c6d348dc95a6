use Rattle.std.proofs.Common.{◌≡◌, rules, sym, subst}
use Rattle.expect_actions.specs.Breaks.{BreakTable, after_test}
use Rattle.nova_machine.specs.StopCauses.{AreCountedDown}
use Rattle.nova_machine.proofs.Causes.{counted-tested}
use Rattle.nova_machine.proofs.machine.Machine.test_breaks.Goals as goal

pub returns-clause-lowered : goal.returns-clause-lowered
returns-clause-lowered g c =
    let old = c.args.watch.now.breaks in
    let pc = c.args.self.now.processor.cpu.pc in
    let is : c.test.new.self ≡ after_test pc old = search rules in
    subst (λ (t : BreakTable). AreCountedDown old.list t.list) (sym is) (counted-tested pc old.list)
