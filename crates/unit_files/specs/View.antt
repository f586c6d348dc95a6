-- What contracts see of the files of units.
use Rattle.std.specs.Prelude.{◌≡◌, ◌≤◌, ◌-◌, ◌++◌, Bool, true, false, List, [], Option, Some, None, get_or, length, replicate, option_map, string_bytes}
use Rattle.std.specs.Prelude.{vec_capacity}
use Rattle.file_traits.specs.declared.files.FileId.{FileId}
use Rattle.unit_trait.specs.declared.kind.UnitName.{UnitName}
use Rattle.unit_files.specs.declared.slots.UnitFile.{UnitFile}
use Rattle.unit_files.specs.declared.disk_copy.DiskCopy.{DiskCopy}
use Rattle.unit_files.specs.Pages.{disk_pages, no_marks}
use Rattle.unit_files.specs.Buffer.{Buffer, disk_bytes}
use Rattle.unit_files.specs.Attachments.{Held, held_at, attachments_of, attachment_at}

abbrev pub held_of : UnitFile → Held
held_of f = record { file = f.file.0; attachment = record { name = string_bytes f.name; read_only = f.read_only } }

abbrev pub slot_of : Option UnitFile → Option Held
slot_of slot = option_map held_of slot

-- The marks of all pages of the disk: where there is no copy, there are no marks, and no page is marked.
abbrev pub marks_of : List Bool → List Bool
marks_of marks = marks ++ replicate (disk_pages - length marks) false

abbrev pub buffer_of : DiskCopy → Buffer
buffer_of d = record { bytes = d.bytes.items; written = d.written }

-- The copy of a file has room for all bytes of the disk, no more than these, and a mark for each page.
pub record IsCopy (d : DiskCopy) : Type 0 where
  pub room : disk_bytes ≤ vec_capacity d.bytes
  pub short : length d.bytes.items ≤ disk_bytes
  pub pages : length d.marks.items ≡ disk_pages

-- Nothing is in it yet, or nothing was written.
pub record IsNewCopy (d : DiskCopy) : Type 0 where
  pub copy : IsCopy d
  pub unwritten : d.written ≡ false
  pub unmarked : marks_of d.marks.items ≡ no_marks

abbrev pub IsEmptyCopy : DiskCopy → Type 0
IsEmptyCopy d = (d.bytes.items ≡ []) × IsNewCopy d

-- there is no copy, and it takes no memory
pub record IsNoCopy (d : DiskCopy) : Type 0 where
  pub bytes : d.bytes.items ≡ []
  pub marks : d.marks.items ≡ []
  pub written : d.written ≡ false
  pub no_room : vec_capacity d.bytes ≡ 0
  pub no_marks : vec_capacity d.marks ≡ 0

-- Where a file is attached to the disk, there is a copy of it, and no sector of a file that is only read was written. Where
-- none is attached, there is none. No page is marked where no sector was written.
pub record CanWrite (slots : List (Option Held)) (d : DiskCopy) : Type 0 where
  pub copy : (h : Held) → get_or slots 0 None ≡ Some h → IsCopy d
  pub writable : (h : Held) → get_or slots 0 None ≡ Some h → d.written ≡ true → h.attachment.read_only ≡ false
  pub none : get_or slots 0 None ≡ None → (d.bytes.items ≡ []) × (d.marks.items ≡ []) × (d.written ≡ false)
  pub unmarked : d.written ≡ false → marks_of d.marks.items ≡ no_marks

-- the number of a unit's file, with all that is attached to it
pub record HoldsFile (slots : List (Option Held)) (unit : UnitName) (id : FileId) : Type 0 where
  pub held : Held
  pub there : held_at slots unit ≡ Some held
  pub number : held.file ≡ id.0
  pub attachment : attachment_at (attachments_of slots) unit ≡ Some held.attachment

-- nothing is attached to a unit
pub record HoldsNone (slots : List (Option Held)) (unit : UnitName) : Type 0 where
  pub there : held_at slots unit ≡ None
  pub attachment : attachment_at (attachments_of slots) unit ≡ None

abbrev pub Holds : List (Option Held) → UnitName → Option FileId → Type 0
Holds slots unit (Some id) = HoldsFile slots unit id
Holds slots unit None = HoldsNone slots unit
