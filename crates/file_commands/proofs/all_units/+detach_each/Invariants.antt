use Rattle.std.proofs.Common.{length}
use Rattle.file_commands.proofs.all_units.+detach_each.Given as goal

abbrev pub decreases-detach_each : goal.decreases-detach_each
decreases-detach_each g l = length l.units.now
