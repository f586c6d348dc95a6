use Rattle.expect_actions.proofs.FilledLemmas.{tables-filled}
use Rattle.expect_actions.proofs.watch.tables_are_filled.Goals as goal

pub returns : goal.returns
returns c = tables-filled
