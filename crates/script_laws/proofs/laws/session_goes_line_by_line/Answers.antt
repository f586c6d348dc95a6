use Rattle.scp_script.proofs.SessionLemmas.{line-by-line}
use Rattle.script_laws.proofs.laws.session_goes_line_by_line.Goals as goal

pub returns : goal.returns
returns c = line-by-line
