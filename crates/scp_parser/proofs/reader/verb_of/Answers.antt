use Rattle.std.proofs.Common.{sym}
use Rattle.scp_parser.proofs.KeepsLemmas.{named_keeps}
use Rattle.scp_parser.proofs.reader.verb_of.Goals as goal

pub returns-in-Ok-clause-keeps : goal.returns-in-Ok-clause-keeps
returns-in-Ok-clause-keeps c = named_keeps c.args.line.now c.in-Ok.verb (sym c.in-Ok.ensures)
