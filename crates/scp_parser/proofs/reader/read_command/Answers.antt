use Rattle.scp_parser.proofs.Decided.{decided}
use Rattle.scp_parser.proofs.LawLemmas.{command_clause, fault_clause}
use Rattle.scp_parser.proofs.reader.read_command.Goals as goal

pub returns-clause-command : goal.returns-clause-command
returns-clause-command c = command_clause decided _ c.args.line.now c.read_into.result c.read_into.new.into c.read_into.ensures.exact c.read_into.ensures.faulty

pub returns-clause-fault : goal.returns-clause-fault
returns-clause-fault c = fault_clause decided _ c.args.line.now c.read_into.result c.read_into.new.into c.read_into.ensures.exact c.read_into.ensures.faulty
