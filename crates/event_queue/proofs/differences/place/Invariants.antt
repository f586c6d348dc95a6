use Rattle.std.proofs.Common.{◌≡◌, ◌++◌, take, drop}
use Rattle.unit_trait.specs.declared.kind.UnitName.{UnitName}
use Rattle.event_queue.specs.Deltas.{entered}
use Rattle.event_queue.proofs.differences.place.Given as goal

abbrev pub invariant-loop-k : goal.invariant-loop-k
invariant-loop-k l = (u : UnitName) → take l.k l.deltas ++ entered u l.left (drop l.k l.deltas) ≡ entered u l.delay l.deltas
