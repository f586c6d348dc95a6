use Rattle.unit_files.specs.Open.{AllOpen}
use Rattle.machine_tests.proofs.acts.act_all.Given as goal

abbrev pub invariant-loop-word : goal.invariant-loop-word
invariant-loop-word g l = AllOpen l.machine.slots (g.F.Files.state l.files).opened
