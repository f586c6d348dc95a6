use Rattle.std.proofs.Common.{rules}
use Rattle.nova_machine.proofs.machine.Machine.wait.Goals as goal

pub pass_rounds-requires-clause-unbroken : goal.pass_rounds-requires-clause-unbroken
pass_rounds-requires-clause-unbroken g c = record { test = search rules; back = search rules }

pub pass_rounds_and_looks-requires-clause-unbroken : goal.pass_rounds_and_looks-requires-clause-unbroken
pass_rounds_and_looks-requires-clause-unbroken g c = record { test = search rules; back = search rules }
