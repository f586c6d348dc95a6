use Rattle.scp_parser.proofs.RequestLemmas.{requests_are_kept}
use Rattle.scp_parser.proofs.reader.requests_are_kept.Goals as goal

pub returns : goal.returns
returns c = requests_are_kept
