use Rattle.unit_files.specs.Open.{AllOpen}
use Rattle.file_tests.proofs.disk.plays.Given as goal

abbrev pub invariant-loop-word : goal.invariant-loop-word
invariant-loop-word g l = AllOpen l.attached.slots (g.F.Files.state l.files).opened
