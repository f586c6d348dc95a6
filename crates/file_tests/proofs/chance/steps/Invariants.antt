use Rattle.unit_files.specs.Open.{AllOpen}
use Rattle.file_tests.proofs.chance.steps.Given as goal

abbrev pub invariant-loop-step : goal.invariant-loop-step
invariant-loop-step g l = AllOpen l.attached.slots (g.F.Files.state l.files).opened
