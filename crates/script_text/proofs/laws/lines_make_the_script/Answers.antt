use Rattle.script_text.proofs.LawLemmas.{lines_whole, lines_follow}
use Rattle.script_text.proofs.laws.lines_make_the_script.Goals as goal

pub returns : goal.returns
returns c = record { whole = lines_whole; first = lines_follow }
