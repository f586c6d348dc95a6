-- A memory that lends its words.
use Rattle.std.specs.Borrow.{Lends, MutBor, Fml}
use Rattle.nova_memory.specs.Memory.{MemoryState}
use Rattle.nova_memory.specs.contracts.memory.Memory.{the_row as memory_row}
use Rattle.nova_memory.specs.contracts.words.Words.{the_row as words_row}

-- the memory ends as the last words behind r
abbrev pub LendsWords : MutBor MemoryState → MutBor MemoryState → Fml
LendsWords s r = Lends memory_row words_row s r (λ w. w)
