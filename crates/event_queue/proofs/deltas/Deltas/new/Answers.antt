use Rattle.std.proofs.Common.{◌≡◌, [], arith}
use Rattle.event_queue.proofs.SoundLists.{sound-none}
use Rattle.event_queue.proofs.deltas.Deltas.new.Goals as goal

pub invariant_of-result : goal.invariant_of-result
invariant_of-result c =
    let none : c.in_ok-with_capacity.field-0.items ≡ [] = c.in_ok-with_capacity.ensures.items in
    (rw none sound-none, omega (arith, c.in_ok-with_capacity.ensures.capacity))
