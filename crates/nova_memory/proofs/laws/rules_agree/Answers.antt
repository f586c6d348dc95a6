use Rattle.nova_memory.proofs.Rules.{rules-agree}
use Rattle.nova_memory.proofs.laws.rules_agree.Goals as goal

pub returns : goal.returns
returns c = rules-agree
