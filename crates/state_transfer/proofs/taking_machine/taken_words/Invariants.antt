use Rattle.std.proofs.Common.{◌≡◌, take}
use Rattle.state_transfer.proofs.taking_machine.taken_words.Given as goal

abbrev pub invariant-loop-address : goal.invariant-loop-address
invariant-loop-address l = l.words.items ≡ take l.address l.memory.words
