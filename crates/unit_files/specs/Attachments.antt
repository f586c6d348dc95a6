-- What is attached to the units that can have a file (SIMH Users' Guide, "Attaching Devices").
use Rattle.std.specs.Prelude.{◌≡◌, ℕ, ◌+◌, ◌*◌, ◌^◌, ◌&&◌, ◌||◌, Bool, true, false, not, nat_lt, List, [], ◌∷◌, map, replicate}
use Rattle.std.specs.Prelude.{get_or, slice_set, Option, Some, None, is_some, option_map, ◌≤◌, length, if◌then◌else◌}
use Rattle.unit_trait.specs.declared.kind.Kind.{Kind}
use Rattle.unit_trait.specs.declared.kind.Kind.TheVariants.{Dsk, Mta, Lpt, Ptr, Ptp}
use Rattle.unit_trait.specs.declared.kind.UnitName.{UnitName}
use Rattle.unit_trait.specs.Kinds.{units_of}

-- an attachment: the name of a file, and whether it is only read
pub record Attachment : Type 0 where
  pub name : List ℕ
  pub read_only : Bool

-- an attachment with the number of its open file, which no definition of what is done speaks of
pub record Held : Type 0 where
  pub file : ℕ
  pub attachment : Attachment

-- how many units can have a file: the disk, eight tape drives, the printer, the reader, and the punch
abbrev pub file_units : ℕ
file_units = 12

-- the place among them of a unit with that number, in bus order; past them for a unit of a kind that has no files
abbrev pub kind_place : Kind → ℕ → ℕ
kind_place Dsk number = 0
kind_place Mta number = 1 + number
kind_place Lpt number = 9
kind_place Ptr number = 10
kind_place Ptp number = 11
kind_place kind number = file_units

-- the place of a unit; past them for a number that its kind has not
abbrev pub file_place : UnitName → ℕ
file_place unit = if nat_lt unit.unit (units_of unit.kind) then kind_place unit.kind unit.unit else file_units

-- whether a file is read and written byte by byte by the units of a kind
abbrev pub is_paper : Kind → Bool
is_paper Lpt = true
is_paper Ptr = true
is_paper Ptp = true
is_paper kind = false

-- whether that is the disk, which holds a copy of its file
abbrev pub is_disk : Kind → Bool
is_disk Dsk = true
is_disk kind = false

-- whether that is the magnetic tape, whose drives each have a tape
abbrev pub is_tape : Kind → Bool
is_tape Mta = true
is_tape kind = false

-- whether a unit of that kind takes a file
abbrev pub takes_files : Kind → Bool
takes_files Dsk = true
takes_files Mta = true
takes_files kind = is_paper kind

-- the disk, the reader, the punch, the printer, or a tape drive
abbrev pub takes_attachment : UnitName → Bool
takes_attachment unit = takes_files unit.kind && nat_lt unit.unit (units_of unit.kind)

-- whether a unit only writes
abbrev pub only_writes : Kind → Bool
only_writes Lpt = true
only_writes Ptp = true
only_writes kind = false

-- how many bytes the file of a unit may have
unfoldable pub longest_file : Kind → ℕ
longest_file Dsk = 4 * (2 ^ 20)
longest_file Mta = 64 * (2 ^ 20)
longest_file kind = 16 * (2 ^ 20)

-- nothing is attached
abbrev pub no_files : List (Option Held)
no_files = replicate file_units None

-- what is attached to a unit
abbrev pub held_at : List (Option Held) → UnitName → Option Held
held_at slots unit = get_or slots (file_place unit) None

abbrev pub with_held : List (Option Held) → UnitName → Option Held → List (Option Held)
with_held slots unit held = slice_set slots (file_place unit) held

-- whether it is only read; false where there is none
abbrev pub read_only_of : Option Held → Bool
read_only_of None = false
read_only_of (Some h) = h.attachment.read_only

abbrev pub read_only_at : List (Option Held) → UnitName → Bool
read_only_at slots unit = read_only_of (held_at slots unit)

-- the file of a unit, if it has one, may be written: a unit that only writes has no other
abbrev pub may_write : List (Option Held) → UnitName → Bool
may_write slots unit = only_writes unit.kind || not (read_only_at slots unit)

-- the files of the printer and the punch are not only read
abbrev pub writers_write : List (Option Held) → Bool
writers_write slots = not (read_only_of (get_or slots 9 None)) && not (read_only_of (get_or slots 11 None))

-- a name of a file: 1 to 255 bytes
abbrev pub IsFileName : List ℕ → Type 0
IsFileName name = (1 ≤ length name) × (length name ≤ 255)

-- each attached file has such a name
pub record HaveFileNames (slots : List (Option Held)) : Type 0 where
  pub names : (place : ℕ) (h : Held) → get_or slots place None ≡ Some h → IsFileName h.attachment.name

-- the same without the numbers of files

abbrev pub attachments_of : List (Option Held) → List (Option Attachment)
attachments_of slots = map (λ slot. option_map (λ (h : Held). h.attachment) slot) slots

-- whether something is attached to one of these units
abbrev pub is_any_attached : List (Option Attachment) → Bool
is_any_attached [] = false
is_any_attached (a ∷ attached) = is_some a || is_any_attached attached

abbrev pub no_attachments : List (Option Attachment)
no_attachments = replicate file_units None

abbrev pub attachment_at : List (Option Attachment) → UnitName → Option Attachment
attachment_at attached unit = get_or attached (file_place unit) None

abbrev pub with_attachment : List (Option Attachment) → UnitName → Option Attachment → List (Option Attachment)
with_attachment attached unit a = slice_set attached (file_place unit) a
