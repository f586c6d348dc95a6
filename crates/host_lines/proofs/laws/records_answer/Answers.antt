use Rattle.host_lines.proofs.Recording.{record_gives}
use Rattle.host_lines.proofs.laws.records_answer.Goals as goal

pub returns : goal.returns
returns c = record_gives
