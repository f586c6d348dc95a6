use Rattle.std.proofs.Common.{◌≡◌, ◌-◌}
use Rattle.nova_memory.specs.Address.{chain}
use Rattle.nova_memory.proofs.words.Words.chain.Given as goal

abbrev pub invariant-loop-level : goal.invariant-loop-level
invariant-loop-level l = chain (16 - l._level) l.self l.at ≡ chain 16 l.fn.self l.fn.from
