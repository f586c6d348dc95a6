-- What ties DEPOSIT to EXAMINE, and the names of registers and devices that are printed to those in commands.
use Rattle.std.specs.Prelude.{◌≡◌, ℕ, ◌<◌, List, [], ◌∷◌, ◌++◌, codes, map, length, None, Contains}
use Rattle.nova_memory.specs.Memory.{IsMemory}
use Rattle.nova_symbols.specs.Names.{device_names}
use Rattle.nova_machine.specs.Machine.{MachineState}
use Rattle.nova_machine.specs.Valid.{ValidMachine}
use Rattle.unit_trait.specs.declared.kind.Kind.{Kind}
use Rattle.unit_trait.specs.declared.kind.Kind.TheVariants.{Dsk, Mta, Lpt, Ptr, Ptp, Clk, Tti, Tto, Tti1, Tto1, Qty}
use Rattle.unit_trait.specs.Kinds.{kind_name}
use Rattle.unit_trait.specs.Registers.{registers}
use Rattle.unit_list.specs.Bus.{kinds_of, AllFit}
use Rattle.operand_forms.specs.declared.listing.Name.{Name}
use Rattle.operand_forms.specs.declared.listing.Listing.{Listing}
use Rattle.operand_forms.specs.Names.{register_names}
use Rattle.scp_examine.specs.Shape.{shape_of}
use Rattle.scp_examine.specs.Places.{Place, Cell, Register, UnitRegister, all_of, place_name, value_at}
use Rattle.scp_examine.specs.Checks.{value_fault}
use Rattle.scp_examine.specs.Effect.{with_value, all_places, fault_of_deposit, deposited}

-- the machines that there are: four accumulators, a memory, and units whose registers hold what they can
pub record IsMachine (m : MachineState) : Type 0 where
  pub accumulators : length m.processor.cpu.accumulators ≡ 4
  pub memory : IsMemory m.processor.memory
  pub units : AllFit m.units

-- every state of a session has one: what these laws ask for holds there
abbrev pub EveryStateIsMachine : Type 0
EveryStateIsMachine = (m : MachineState) → ValidMachine m → IsMachine m

-- a place of the machine: a word below the size, a register of the processor, or one of a device that is there
abbrev pub IsPlace : MachineState → Place → Type 0
IsPlace m (Cell a) = a < m.processor.memory.size
IsPlace m (Register r) = Unit {0}
IsPlace m (UnitRegister kind i) = Contains (kinds_of m.units) kind × (i < length (registers kind))

-- a value that has no fault for a place is what the place holds after it was put there
abbrev pub DepositReadsBack : Type 0
DepositReadsBack =
    (m : MachineState) (place : Place) (value : ℕ) → IsMachine m → IsPlace m place → value_fault value place ≡ None
    → value_at (with_value value m place) place ≡ value

-- A value was put into some places of a machine: each of them holds it, every other place holds what it held, and the
-- machine is still one, of the same size and with units of the same kinds, at the same time, with the same events.
pub record PutsInto (places : List Place) (value : ℕ) (before after : MachineState) : Type 0 where
  pub listed : (place : Place) → Contains places place → value_at after place ≡ value
  pub others : (place : Place) → IsPlace before place → (Contains places place → ⊥) → value_at after place ≡ value_at before place
  pub size : after.processor.memory.size ≡ before.processor.memory.size
  pub kinds : kinds_of after.units ≡ kinds_of before.units
  pub time : after.time ≡ before.time
  pub events : after.events ≡ before.events
  pub machine : IsMachine after

-- a DEPOSIT without a fault puts its value into the listed places
abbrev pub DepositPuts : Type 0
DepositPuts =
    (m : MachineState) (l : Listing) (value : ℕ) → IsMachine m → fault_of_deposit m l value ≡ None
    → PutsInto (all_places (shape_of m) l.device l.items) value m (deposited m l value)

-- the registers of the processor, and of each device, are printed by the names that a command names them by
abbrev pub RegistersHaveNames : Type 0
RegistersHaveNames = (device : Name) → map place_name (all_of device) ≡ register_names device

-- the kinds of units, in the order of their device codes
abbrev pub kinds_by_code : List Kind
kinds_by_code = Tti ∷ Tto ∷ Ptr ∷ Ptp ∷ Clk ∷ Lpt ∷ Dsk ∷ Mta ∷ Qty ∷ Tti1 ∷ Tto1 ∷ []

-- the name of a kind in symbolic text: its own, but for the clock
abbrev pub symbolic_name : Kind → List ℕ
symbolic_name Clk = codes "RTC"
symbolic_name kind = kind_name kind

-- the devices of symbolic text are the kinds of units, and two that are no kinds: the multiplier and the processor
pub record DevicesAreKinds : Type 0 where
  pub names : device_names ≡ codes "MDV" ∷ map symbolic_name kinds_by_code ++ codes "CPU" ∷ []
  pub all : (kind : Kind) → Contains kinds_by_code kind
