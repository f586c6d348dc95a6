-- What was read stands in the buffer, which keeps its length, and each call fills some more of it.
use Rattle.std.proofs.Common.{length, ◌-◌, ◌≡◌, ◌≤◌, IsTrue}
use Rattle.host_adapters.specs.Placed.{IsRead}
use Rattle.host_adapters.proofs.positioned.read_whole.Given as goal

abbrev pub invariant-pieces : goal.invariant-pieces
invariant-pieces g l = (l.count ≤ length l.buf) × (length l.buf ≡ length l.initial.buf)
    × (IsTrue g.F.Placed.tells → IsRead (g.F.Placed.bytes l.file) l.place l.count l.buf)

abbrev pub decreases-pieces : goal.decreases-pieces
decreases-pieces g l = length l.initial.buf - l.count
