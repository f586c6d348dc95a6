-- The disk's copy of its file: the bytes that were read when the file was attached, with the sectors that were written
-- since. They are written back where the disk is detached.
use Rattle.std.specs.Prelude.{ℕ, ◌*◌, ◌^◌, Bool, true, false, List, [], ◌++◌, take, drop, replicate}
use Rattle.std.specs.Prelude.{Option, Some, None, if◌then◌else◌}
use Rattle.file_traits.specs.Lists.{overwritten}
use Rattle.unit_trait.specs.declared.kind.Kind.TheVariants.{Dsk}
use Rattle.unit_trait.specs.declared.kind.UnitName.{UnitName}
use Rattle.unit_files.specs.declared.faults.SectorAnswer.{SectorAnswer}
use Rattle.unit_files.specs.declared.faults.SectorAnswer.TheVariants.{Done, NoFile, ReadOnly}
use Rattle.unit_files.specs.Attachments.{Attachment, Held, no_files}
use Rattle.unit_files.specs.Aside.{Aside, nothing_aside}

pub record Buffer : Type 0 where
  pub bytes : List ℕ
  -- whether a sector was written since the file was attached, or since the bytes were last written back
  pub written : Bool

-- no file is attached
abbrev pub no_buffer : Buffer
no_buffer = record { bytes = []; written = false }

-- What is attached to the units, and the disk's copy; and what the code keeps beside that copy, of which no definition of what
-- is done speaks.
pub record AttachedFiles : Type 0 where
  pub slots : List (Option Held)
  pub disk : Buffer
  pub aside : Aside

abbrev pub nothing_attached : AttachedFiles
nothing_attached = record { slots = no_files; disk = no_buffer; aside = nothing_aside }

abbrev pub disk_unit : UnitName
disk_unit = record { kind = Dsk; unit = 0 }

-- how many bytes a sector has: 256 words
unfoldable pub sector_bytes : ℕ
sector_bytes = 2 ^ 9

-- how many sectors the disk has
unfoldable pub disk_sectors : ℕ
disk_sectors = 2 ^ 13

-- how many bytes the image of a disk may have, and the copy of it
unfoldable pub disk_bytes : ℕ
disk_bytes = 2 ^ 22

-- the bytes of a sector, which are 0 behind the end of the copy
unfoldable pub sector_of : List ℕ → ℕ → List ℕ
sector_of bytes sector = take sector_bytes (drop (sector * sector_bytes) bytes ++ replicate sector_bytes 0)

-- the copy once a sector was written, with zero bytes in a gap in front of it
unfoldable pub with_sector : List ℕ → ℕ → List ℕ → List ℕ
with_sector bytes sector piece = overwritten bytes (sector * sector_bytes) piece

-- ---- a sector is read or written

abbrev pub said_of_reading : Option Attachment → SectorAnswer
said_of_reading None = NoFile
said_of_reading (Some a) = Done

-- what the disk reads; nothing is read where there is no file
abbrev pub sector_read : Option Attachment → Buffer → ℕ → List ℕ → List ℕ
sector_read None disk sector old = old
sector_read (Some a) disk sector old = sector_of disk.bytes sector

abbrev pub said_of_writing : Option Attachment → SectorAnswer
said_of_writing None = NoFile
said_of_writing (Some a) = if a.read_only then ReadOnly else Done

-- the copy behind that
abbrev pub sector_written : Option Attachment → Buffer → ℕ → List ℕ → Buffer
sector_written None disk sector piece = disk
sector_written (Some a) disk sector piece =
    if a.read_only then disk
    else record { bytes = with_sector disk.bytes sector piece; written = true }
