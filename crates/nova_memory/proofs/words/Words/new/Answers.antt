use Rattle.nova_memory.proofs.Blank.{IsMemory-blank, IsSize-blank, get-blank}
use Rattle.nova_memory.proofs.words.Words.new.Goals as goal

pub invariant_of-result : goal.invariant_of-result
invariant_of-result c = (rw c.zeros.ensures IsMemory-blank, IsSize-blank)

pub returns-clause-zeros : goal.returns-clause-zeros
returns-clause-zeros c = rw c.zeros.ensures get-blank
