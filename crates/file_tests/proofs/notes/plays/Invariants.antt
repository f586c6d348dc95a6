use Rattle.unit_files.specs.Open.{AllOpen}
use Rattle.file_tests.proofs.notes.plays.Given as goal

abbrev pub invariant-loop-command : goal.invariant-loop-command
invariant-loop-command g l = AllOpen l.attached.slots (g.F.Files.state l.files).opened
