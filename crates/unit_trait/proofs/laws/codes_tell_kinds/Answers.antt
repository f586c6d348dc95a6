use Rattle.unit_trait.proofs.Codes.{same-code}
use Rattle.unit_trait.proofs.laws.codes_tell_kinds.Goals as goal

pub returns : goal.returns
returns c = same-code
