use Rattle.std.proofs.Common.{IsTrue}
use Rattle.file_tests.proofs.lists.plays.Given as goal

abbrev pub invariant-loop-word : goal.invariant-loop-word
invariant-loop-word g l = IsTrue (g.B.Bytes.writable l.list)
