use Rattle.std.proofs.Common.{◌≡◌}
use Rattle.file_tests.proofs.adapters.paged_files.is_read_to_its_end.Given as goal

abbrev pub invariant-loop-place : goal.invariant-loop-place
invariant-loop-place g l = (g.F.Files.state l.files).opened ≡ (g.F.Files.state l.fn.files).opened
