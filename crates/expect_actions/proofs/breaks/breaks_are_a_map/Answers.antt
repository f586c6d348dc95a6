use Rattle.expect_actions.proofs.MapLemmas.{are_a_map}
use Rattle.expect_actions.proofs.breaks.breaks_are_a_map.Goals as goal

pub returns : goal.returns
returns c = are_a_map
