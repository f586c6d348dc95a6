use Rattle.nova_memory.proofs.Chains.{chain-elsewhere, chain-size}
use Rattle.nova_memory.proofs.words.Words.address.Goals as goal

pub returns-then-word-eq1-clause-elsewhere : goal.returns-then-word-eq1-clause-elsewhere
returns-then-word-eq1-clause-elsewhere c = rw c.chain.ensures.memory (chain-elsewhere 16 _ _)

pub returns-then-word-eq1-clause-size : goal.returns-then-word-eq1-clause-size
returns-then-word-eq1-clause-size c = rw c.chain.ensures.memory (chain-size 16 _ _)
