-- What a line asks for.
use Rattle.std.specs.Prelude.{ℕ, List, Result, Ok, Err}
use Rattle.scp_parser.specs.declared.fault.ParseFault.{ParseFault}
use Rattle.scp_parser.specs.Command.{Request}
use Rattle.scp_parser.specs.Reading.{reading}
use Rattle.command_session.specs.declared.fault.CommandFault.{CommandFault}
use Rattle.command_session.specs.declared.fault.CommandFault.TheVariants.{Parse}

-- what a line asks for: a command, or the fault by which it is refused before any command
abbrev pub Asked : Type 0
Asked = Result Request CommandFault

-- the same of a line that was read
abbrev pub read_as : Result Request ParseFault → Asked
read_as (Ok request) = Ok request
read_as (Err fault) = Err (Parse fault)

unfoldable pub asked : List ℕ → Asked
asked line = read_as (reading line)
