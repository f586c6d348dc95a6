use Rattle.scp_parser.proofs.Decided.{decided}
use Rattle.scp_parser.proofs.LawLemmas.{command_or_fault, never_both, one_fault}
use Rattle.scp_parser.proofs.LineLemmas.{faults_reading}
use Rattle.scp_parser.proofs.reader.each_line_has_a_command_or_a_fault.Goals as goal

pub returns : goal.returns
returns c = record { reading = faults_reading decided; either = command_or_fault decided; never_both = never_both decided; one_fault = one_fault decided }
