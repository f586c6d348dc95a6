-- The exit statuses, each with its number. Nothing else says what these are.
use Rattle.std.specs.Prelude.{ℕ}
use Rattle.observations.specs.declared.exit_status.ExitStatus.{ExitStatus}
use Rattle.observations.specs.declared.exit_status.ExitStatus.TheVariants.{Exit, Usage, Unopened, Console, OutOfMemory, Commands, BadKeys, Input, FlushFailed}

abbrev pub number_of : ExitStatus → ℕ
number_of (Exit status) = status
number_of Usage = 100
number_of Unopened = 101
number_of Console = 102
number_of OutOfMemory = 103
number_of Commands = 104
number_of BadKeys = 105
number_of Input = 106
number_of FlushFailed = 107
