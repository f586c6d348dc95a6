use Rattle.expect_actions.proofs.ActionLemmas.{make_the_text, are_whole}
use Rattle.expect_actions.proofs.actions.actions_are_pieces.Goals as goal

pub returns-clause-text : goal.returns-clause-text
returns-clause-text c = make_the_text

pub returns-clause-whole : goal.returns-clause-whole
returns-clause-whole c = are_whole
