-- The first bytes of the piece were written, and each call writes some of the rest.
use Rattle.std.proofs.Common.{length, ◌-◌, ◌≤◌, ◌≡◌, IsTrue, take}
use Rattle.file_traits.specs.Lists.{overwritten}
use Rattle.host_adapters.proofs.positioned.write_whole.Given as goal

abbrev pub invariant-pieces : goal.invariant-pieces
invariant-pieces g l =
    let bytes = g.F.Placed.bytes in
    (l.done ≤ length l.bytes)
    × (IsTrue g.F.Placed.tells → bytes l.file ≡ overwritten (bytes l.initial.file) l.place (take l.done l.bytes))

abbrev pub decreases-pieces : goal.decreases-pieces
decreases-pieces g l = length l.bytes - l.done
