use Rattle.unit_files.specs.Open.{AllOpen}
use Rattle.machine_tests.proofs.bursts.turns.Given as goal

abbrev pub invariant-loop-done : goal.invariant-loop-done
invariant-loop-done g l = AllOpen l.machine.slots (g.F.Files.state l.files).opened
