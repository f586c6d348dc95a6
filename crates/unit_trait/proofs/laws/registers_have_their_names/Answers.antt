use Rattle.unit_trait.proofs.NamedRegisters.{have-their-names}
use Rattle.unit_trait.proofs.laws.registers_have_their_names.Goals as goal

pub returns : goal.returns
returns c = have-their-names
