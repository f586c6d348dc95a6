-- What services come to, in a reader's words.
use Rattle.std.specs.Prelude.{◌≡◌, Option, Some, None}
use Rattle.unit_trait.specs.declared.kind.UnitName.{UnitName}
use Rattle.event_queue.specs.EventList.{due}
use Rattle.unit_list.specs.Bus.{AllFit}
use Rattle.nova_machine.specs.Notes.{UnitNote, at_unit}
use Rattle.nova_machine.specs.Seen.{Seen}
use Rattle.nova_machine.specs.Parts.{silent, then_part}
use Rattle.nova_machine.specs.Service.{service, taken, serving}

-- While an event is due, the first is taken and its unit served: no service brings an event that is due in the same turn,
-- so that there are no more of them than events.
pub record ServesWhileDue : Type 0 where
  pub none : (note : Option UnitNote) (s : Seen) → due s.machine.events ≡ None → serving note s ≡ silent None s
  pub some : (note : Option UnitNote) (s : Seen) (unit : UnitName) → AllFit s.machine.units → due s.machine.events ≡ Some unit
      → serving note s ≡ then_part (service (at_unit unit note) unit (taken s)) (serving note)
