-- Which faults an EXAMINE has: never that a register is read only, or that the console refused a byte.
use Rattle.std.proofs.Common.{◌≡◌, ℕ, ◌∷◌, [], Bool, true, false, List, Option, Some, None, Err, sym, subst, refl}
use Rattle.nova_machine.specs.Machine.{MachineState}
use Rattle.operand_forms.specs.declared.listing.Name.{Name}
use Rattle.operand_forms.specs.declared.listing.Name.TheVariants as whose
use Rattle.operand_forms.specs.declared.listing.Condition.{Condition}
use Rattle.operand_forms.specs.declared.listing.Item.{Item}
use Rattle.operand_forms.specs.declared.listing.Item.TheVariants.{At, Range, Count, All, Reg, State, Unknown}
use Rattle.operand_forms.specs.declared.listing.Listing.{Listing}
use Rattle.scp_examine.specs.declared.fault.ExamineFault.{ExamineFault}
use Rattle.scp_examine.specs.declared.fault.ExamineFault.TheVariants.{NoSuchName, OutOfRange, ReadOnlyName, Console}
use Rattle.scp_examine.specs.Shape.{Shape, shape_of}
use Rattle.scp_examine.specs.Checks.{condition_fault, item_fault, items_fault, memory_fault, or_fault, no_such_name_unless, out_of_range_unless}
use Rattle.scp_examine.specs.Effect.{ConsoleCause, Examines, FaultIs, examine_fault}

-- the faults of lists that are not changed
abbrev pub IsListFault : Option ExamineFault → Type 0
IsListFault None = Unit {0}
IsListFault (Some NoSuchName) = Unit {0}
IsListFault (Some OutOfRange) = Unit {0}
IsListFault (Some ReadOnlyName) = ⊥
IsListFault (Some Console) = ⊥

pub out_of_range-kind : (fits : Bool) → IsListFault (out_of_range_unless fits)
out_of_range-kind true = tt
out_of_range-kind false = tt

pub memory_fault-kind : (device : Name) (fits : Bool) → IsListFault (memory_fault device fits)
memory_fault-kind whose.Cpu fits = out_of_range-kind fits
memory_fault-kind (whose.Device kind) fits = tt

pub no_such_name-kind : (there : Bool) → IsListFault (no_such_name_unless there)
no_such_name-kind true = tt
no_such_name-kind false = tt

pub item_fault-kind : (shape : Shape) (device : Name) (item : Item) → IsListFault (item_fault shape device item)
unfolding item_fault
item_fault-kind shape device (At a) = memory_fault-kind device _
item_fault-kind shape device (Range a b) = memory_fault-kind device _
item_fault-kind shape device (Count a n) = memory_fault-kind device _
item_fault-kind shape device All = memory_fault-kind device _
item_fault-kind shape device (Reg i) = no_such_name-kind _
item_fault-kind shape device State = no_such_name-kind _
item_fault-kind shape device Unknown = tt

pub or_fault-kind : (a b : Option ExamineFault) → IsListFault a → IsListFault b → IsListFault (or_fault a b)
or_fault-kind None b first second = second
or_fault-kind (Some fault) b first second = first

pub items_fault-kind : (shape : Shape) (device : Name) (items : List Item) → IsListFault (items_fault (item_fault shape device) items)
unfolding items_fault
items_fault-kind shape device [] = tt
items_fault-kind shape device (item ∷ more) =
    or_fault-kind (item_fault shape device item) (items_fault (item_fault shape device) more) (item_fault-kind shape device item) (items_fault-kind shape device more)

pub condition_fault-kind : (c : Option Condition) → IsListFault (condition_fault c)
condition_fault-kind None = tt
condition_fault-kind (Some c) = out_of_range-kind _

pub examine_fault-kind : (m : MachineState) (l : Listing) → IsListFault (examine_fault m l)
unfolding examine_fault
examine_fault-kind m l =
    or_fault-kind (condition_fault l.condition) (items_fault (item_fault (shape_of m) l.device) l.items) (condition_fault-kind l.condition) (items_fault-kind (shape_of m) l.device l.items)

pub fault-kind : (m : MachineState) (l : Listing) (fault : ExamineFault) → Some fault ≡ examine_fault m l → IsListFault (Some fault)
fault-kind m l fault e = subst IsListFault (sym e) (examine_fault-kind m l)

-- a list with a fault prints nothing
pub refused_told : (T : Type 0) (m : MachineState) (l : Listing) (before : List ℕ) (fault : ExamineFault) → IsListFault (Some fault) → Some fault ≡ examine_fault m l
    → Examines {T = T} m l (Err fault) before before
refused_told T m l before NoSuchName kind e = (sym e, refl)
refused_told T m l before OutOfRange kind e = (sym e, refl)
refused_told T m l before ReadOnlyName kind e = absurd kind
refused_told T m l before Console kind e = absurd kind

pub refused_faults : (T : Type 0) (m : MachineState) (l : Listing) (fault : ExamineFault) → IsListFault (Some fault) → Some fault ≡ examine_fault m l
    → FaultIs {T = T} (examine_fault m l) (Err fault)
refused_faults T m l NoSuchName kind e = sym e
refused_faults T m l OutOfRange kind e = sym e
refused_faults T m l ReadOnlyName kind e = absurd kind
refused_faults T m l Console kind e = absurd kind

pub refused_cause : (T : Type 0) (count : ℕ) (fault : ExamineFault) → IsListFault (Some fault) → ConsoleCause {T = T} count count (Err fault)
refused_cause T count NoSuchName kind = refl
refused_cause T count OutOfRange kind = refl
refused_cause T count ReadOnlyName kind = absurd kind
refused_cause T count Console kind = absurd kind
