use Rattle.unit_files.specs.Open.{AllOpen}
use Rattle.state_transfer.specs.SavedValid.{AreStandard}
use Rattle.command_tests.proofs.rows.all.Given as goal

abbrev pub invariant-loop-row : goal.invariant-loop-row
invariant-loop-row g l = record {
  is_open : AllOpen l.session.machine.slots (g.F.Files.state l.files).opened;
  standard : AreStandard l.session.machine.units;
}
