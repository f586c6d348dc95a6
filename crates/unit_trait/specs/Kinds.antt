-- The kinds of units, each with the table of its device, and how units are named.
use Rattle.std.specs.Prelude.{ℕ, ◌+◌, ◌-◌, ◌/◌, ◌%◌, ◌^◌, ◌==◌, ◌&&◌, Bool, IsTrue, List, [], ◌∷◌, ◌++◌, codes, nat_lt, if◌then◌else◌}
use Rattle.unit_trait.specs.declared.kind.Kind.{Kind}
use Rattle.unit_trait.specs.declared.kind.Kind.TheVariants.{Dsk, Mta, Lpt, Ptr, Ptp, Clk, Tti, Tto, Tti1, Tto1, Qty}
use Rattle.unit_trait.specs.declared.kind.UnitName.{UnitName}
use Rattle.unit_trait.specs.Device.{Device, decimal_below_100}
use Rattle.unit_trait.specs.Disk.{disk}
use Rattle.unit_trait.specs.Tape.{tape}
use Rattle.unit_trait.specs.Printer.{printer}
use Rattle.unit_trait.specs.Reader.{reader}
use Rattle.unit_trait.specs.Punch.{punch}
use Rattle.unit_trait.specs.Clock.{clock}
use Rattle.unit_trait.specs.Keyboard.{keyboard}
use Rattle.unit_trait.specs.Teleprinter.{teleprinter}
use Rattle.unit_trait.specs.Multiplexer.{multiplexer}

-- the device of a kind
abbrev pub device_of : Kind → Device
device_of Dsk = disk
device_of Mta = tape
device_of Lpt = printer
device_of Ptr = reader
device_of Ptp = punch
device_of Clk = clock
device_of Tti = keyboard (codes "TTI") 0o10
device_of Tto = teleprinter (codes "TTO") 0o11
device_of Tti1 = keyboard (codes "TTI1") 0o50
device_of Tto1 = teleprinter (codes "TTO1") 0o51
device_of Qty = multiplexer

-- the kinds, in bus order
abbrev pub all_kinds : List Kind
all_kinds = Dsk ∷ Mta ∷ Lpt ∷ Ptr ∷ Ptp ∷ Clk ∷ Tti ∷ Tto ∷ Tti1 ∷ Tto1 ∷ Qty ∷ []

-- the name of a kind
abbrev pub kind_name : Kind → List ℕ
kind_name kind = (device_of kind).name

-- how many units a kind has
abbrev pub units_of : Kind → ℕ
units_of kind = (device_of kind).units

-- the code of a kind on the bus
abbrev pub code_of : Kind → ℕ
code_of kind = (device_of kind).code

-- the mask word that masks a kind out, and no other bit
abbrev pub mask_of : Kind → ℕ
mask_of kind = 2 ^ (15 - (device_of kind).mask_bit)

-- whether a file is attached to the units of a kind
abbrev pub takes_file : Kind → Bool
takes_file kind = (device_of kind).takes_file

abbrev pub TakesFile : Kind → Type 0
TakesFile kind = IsTrue (takes_file kind)

-- the name of a unit: that of its kind, and its number where the kind has several
abbrev pub unit_name : UnitName → List ℕ
unit_name u = kind_name u.kind ++ (if nat_lt 1 (units_of u.kind) then decimal_below_100 u.unit else [])

-- whether two names are those of one unit
abbrev pub same_unit : UnitName → UnitName → Bool
same_unit a b = (code_of a.kind == code_of b.kind) && (a.unit == b.unit)
