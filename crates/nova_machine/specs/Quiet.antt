-- What the machine keeps beside its state, so that a turn in which nothing but an instruction can come is known at once.
use Rattle.std.specs.Prelude.{◌≡◌, ◌&&◌, Bool, true, false, List, None}
use Rattle.unit_trait.specs.Calls.{UnitState}
use Rattle.event_queue.specs.EventList.{due}
use Rattle.nova_interrupts.specs.declared.interrupts.Ints.{Ints}
use Rattle.nova_interrupts.specs.Requests.{requested}
use Rattle.nova_machine.specs.Machine.{MachineState}
use Rattle.nova_machine.specs.Turn.{is_interrupted}

-- where a machine is known to be quiet, no interrupt can come
abbrev pub IsQuiet : Bool → Ints → List UnitState → Type 0
IsQuiet quiet ints units = quiet ≡ true → (ints.on && requested ints.mask units) ≡ false

-- a turn that is an instruction alone
pub record IsPlain (m : MachineState) : Type 0 where
  pub none : due m.events ≡ None
  pub uninterrupted : is_interrupted m ≡ false
