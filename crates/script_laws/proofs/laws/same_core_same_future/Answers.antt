use Rattle.script_laws.proofs.CoreLemmas.{same-core-same-future}
use Rattle.script_laws.proofs.laws.same_core_same_future.Goals as goal

pub returns : goal.returns
returns c = same-core-same-future
