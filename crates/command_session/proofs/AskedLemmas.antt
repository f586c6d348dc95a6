-- What a line asks for, by how it was read.
use Rattle.std.proofs.Common.{◌≡◌, ℕ, ◌<◌, List, length, Result, Err, ap}
use Rattle.scp_parser.specs.declared.fault.ParseFault.{ParseFault}
use Rattle.scp_parser.specs.declared.fault.ParseFault.TheVariants.{TooLong}
use Rattle.scp_parser.specs.Command.{Request}
use Rattle.scp_parser.specs.Grammar.{longest_line}
use Rattle.scp_parser.specs.Reading.{reading}
use Rattle.scp_parser.proofs.LineLemmas.{long-line}
use Rattle.command_session.specs.declared.fault.CommandFault.TheVariants.{Parse}
use Rattle.command_session.specs.Asked.{read_as, asked}

pub asked-as : (line : List ℕ) (r : Result Request ParseFault) → reading line ≡ r → asked line ≡ read_as r
unfolding asked
asked-as line r is = ap read_as is

-- a line that is too long, whatever stands in it
pub long-asked : (line : List ℕ) → longest_line < length line → asked line ≡ Err (Parse TooLong)
unfolding asked
long-asked line long = ap read_as (long-line line long)
