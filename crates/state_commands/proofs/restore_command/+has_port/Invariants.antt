use Rattle.std.proofs.Common.{length}
use Rattle.state_commands.proofs.restore_command.+has_port.Given as goal

abbrev pub decreases-has_port : goal.decreases-has_port
decreases-has_port l = length l.lines.now
