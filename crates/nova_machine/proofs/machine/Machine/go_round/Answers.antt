use Rattle.std.proofs.Common.{◌∙◌, sym, rules}
use Rattle.nova_machine.proofs.Waits.{half-ahead, half-still}
use Rattle.nova_machine.proofs.machine.Machine.go_round.Goals as goal

pub returns-then-count-eq1 : goal.returns-then-count-eq1
returns-then-count-eq1 g c = (search rules) ∙ sym (half-ahead c.args.count c.args.self.now c.if-count-eq1.true)

pub returns-else-count-eq1 : goal.returns-else-count-eq1
returns-else-count-eq1 g c = sym (half-still c.args.count c.args.self.now c.if-count-eq1.false)
