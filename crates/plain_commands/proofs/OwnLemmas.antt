-- DEPOSIT never answers for the console.
use Rattle.std.proofs.Common.{ℕ, Bool, true, false, List, [], ◌∷◌, Option, Some, None, if◌then◌else◌}
use Rattle.unit_trait.specs.declared.processor.CpuReg.TheVariants.{Size}
use Rattle.operand_forms.specs.declared.listing.Name.{Name}
use Rattle.operand_forms.specs.declared.listing.Name.TheVariants as whose
use Rattle.operand_forms.specs.declared.listing.Item.{Item}
use Rattle.operand_forms.specs.declared.listing.Item.TheVariants.{At, Range, Count, All, Reg, State, Unknown}
use Rattle.operand_forms.specs.declared.listing.Listing.{Listing}
use Rattle.scp_examine.specs.declared.fault.ExamineFault.{ExamineFault}
use Rattle.scp_examine.specs.declared.fault.ExamineFault.TheVariants as list
use Rattle.scp_examine.specs.Shape.{Shape, shape_of}
use Rattle.scp_examine.specs.Places.{Place, Cell, Register, UnitRegister, places_of}
use Rattle.scp_examine.specs.Checks.{or_fault, out_of_range_unless, memory_fault, no_such_name_unless, item_fault, items_fault, value_fault, values_fault, deposit_fault}
use Rattle.scp_examine.specs.Effect.{fault_of_deposit}
use Rattle.host_lines.specs.Traffic.{Gone}
use Rattle.host_lines.specs.Told.{Records, Named}
use Rattle.command_session.specs.Live.{Live, Beyond}
use Rattle.command_session.specs.Reply.{Reply}
use Rattle.plain_commands.specs.ListEffects.{lacks_device, handed, deposit_after, deposit_reply}
use Rattle.command_session.specs.Doing.{IsPlain}

-- a fault that is not the console's, or none
abbrev pub IsListsOwn : Option ExamineFault → Type 0
IsListsOwn (Some list.Console) = ⊥
IsListsOwn fault = Unit {0}

own-or : (first second : Option ExamineFault) → IsListsOwn first → IsListsOwn second → IsListsOwn (or_fault first second)
own-or (Some fault) second a b = a
own-or None second a b = b

own-range : (fits : Bool) → IsListsOwn (out_of_range_unless fits)
own-range true = tt
own-range false = tt

own-memory : (device : Name) (fits : Bool) → IsListsOwn (memory_fault device fits)
own-memory whose.Cpu fits = own-range fits
own-memory (whose.Device kind) fits = tt

own-name : (there : Bool) → IsListsOwn (no_such_name_unless there)
own-name true = tt
own-name false = tt

pub own-item : (shape : Shape) (device : Name) (item : Item) → IsListsOwn (item_fault shape device item)
unfolding item_fault
own-item shape device (At a) = own-memory device _
own-item shape device (Range a b) = own-memory device _
own-item shape device (Count a n) = own-memory device _
own-item shape device All = own-memory device _
own-item shape device (Reg i) = own-name _
own-item shape device State = own-name _
own-item shape device Unknown = tt

own-value : (value : ℕ) (place : Place) → IsListsOwn (value_fault value place)
own-value value (Cell a) = own-range _
own-value value (Register Size) = tt
own-value value (Register r) = own-range _
own-value value (UnitRegister kind i) = own-range _

own-values : (value : ℕ) (places : List Place) → IsListsOwn (values_fault value places)
unfolding values_fault
own-values value [] = tt
own-values value (place ∷ more) = own-or (value_fault value place) (values_fault value more) (own-value value place) (own-values value more)

own-deposit : (shape : Shape) (device : Name) (value : ℕ) (item : Item) → IsListsOwn (deposit_fault shape device value item)
unfolding deposit_fault
own-deposit shape device value item =
    own-or (item_fault shape device item) (values_fault value (places_of shape device item)) (own-item shape device item) (own-values value (places_of shape device item))

own-items : (fault_of : Item → Option ExamineFault) → ((item : Item) → IsListsOwn (fault_of item)) → (items : List Item) → IsListsOwn (items_fault fault_of items)
unfolding items_fault
own-items fault_of own [] = tt
own-items fault_of own (item ∷ more) = own-or (fault_of item) (items_fault fault_of more) (own item) (own-items fault_of own more)

own-after : (fault : Option ExamineFault) (live : Live) (l : Listing) (value : ℕ) → IsListsOwn fault → IsPlain (deposit_after fault live l value).answer
own-after None live l value own = tt
own-after (Some list.NoSuchName) live l value own = tt
own-after (Some list.OutOfRange) live l value own = tt
own-after (Some list.ReadOnlyName) live l value own = tt
own-after (Some list.Console) live l value own = absurd own

own-if : (b : Bool) (x y : Reply) → IsPlain x.answer → IsPlain y.answer → IsPlain (if b then x else y).answer
own-if true x y a b = a
own-if false x y a b = b

pub deposit-own : (live : Live) (l : Listing) (value : ℕ) → IsPlain (deposit_reply live l value).answer
unfolding deposit_reply fault_of_deposit
deposit-own live l value =
    own-if (lacks_device live.machine l.device) _ _ tt
    (own-after (fault_of_deposit live.machine l (handed value)) live l (handed value)
    (own-items (deposit_fault (shape_of live.machine) l.device (handed value)) (own-deposit (shape_of live.machine) l.device (handed value)) l.items))

-- an outside with no file, no port and no connection
pub no_outside : Beyond
no_outside = record {
  files = [];
  lines = record {
    listens = λ _. false;
    stands = λ _. false;
    faults = 0;
    given = λ _. false;
    peers = λ _. Gone;
    told = Records [];
    sent = Named [];
  };
  whole = [];
}
