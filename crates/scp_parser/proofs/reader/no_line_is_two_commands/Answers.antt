use Rattle.scp_parser.proofs.Decided.{decided}
use Rattle.scp_parser.proofs.LawLemmas.{one_command}
use Rattle.scp_parser.proofs.LineLemmas.{parses_reading}
use Rattle.scp_parser.proofs.reader.no_line_is_two_commands.Goals as goal

pub returns : goal.returns
returns c = record { reading = parses_reading decided; one = one_command decided }
