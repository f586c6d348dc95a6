-- What was proved about the disk's copy of its file, in a reader's words.
use Rattle.std.specs.Prelude.{◌≡◌, ◌≢◌, ◌<◌, ◌≤◌, ℕ, ◌+◌, ◌*◌, Bool, true, false, List, length, max, get_or, slice_get}
use Rattle.std.specs.Prelude.{Option, Some, None, IsSome}
use Rattle.sha2.specs.Sha256.{sha256}
use Rattle.file_traits.specs.declared.files.FileCall.TheVariants.{Write}
use Rattle.file_traits.specs.Lists.{NamedBytes, find_file, bytes_of}
use Rattle.unit_trait.specs.declared.kind.UnitName.{UnitName}
use Rattle.unit_files.specs.Attachments.{Attachment, is_disk}
use Rattle.unit_files.specs.Pages.{page_bytes, disk_pages}
use Rattle.unit_files.specs.Buffer.{Buffer, AttachedFiles, sector_bytes, disk_sectors, sector_of, with_sector, sector_written}
use Rattle.unit_files.specs.Acts.{Failure, failure_at, is_due_back, piece_of, flush_files}
use Rattle.unit_files.specs.InStep.{marks_written, pages_back, pages_flushed, IsCopyOutside, StepAt, InStep, MarksCover}
use Rattle.unit_files.specs.Shapes.{IsPart}
use Rattle.unit_files.specs.Digests.{Digested, digest_said, buffer_digested}

-- the bytes of a copy that are written back: all of it, or the first ones where the write fails
abbrev pub part_of_copy : Option Failure → Buffer → List ℕ
part_of_copy fault disk = piece_of (failure_at Write fault) disk.bytes

-- Pages were written over a file: within the marked ones it has the bytes that were written, as far as there are any, and
-- all others are its own. A gap is of zero bytes, and the file has become longer only where a byte was written.
pub record HasPages (marks : List Bool) (bytes old new : List ℕ) : Type 0 where
  pub pages : (page k : ℕ) → k < page_bytes → get_or marks page false ≡ true → page * page_bytes + k < length bytes
      → slice_get new (page * page_bytes + k) ≡ slice_get bytes (page * page_bytes + k)
  pub others : (page k : ℕ) → k < page_bytes → get_or marks page false ≡ false
      → get_or new (page * page_bytes + k) 0 ≡ get_or old (page * page_bytes + k) 0
  pub behind : (place : ℕ) → length bytes ≤ place → get_or new place 0 ≡ get_or old place 0
  pub no_shorter : length old ≤ length new
  pub no_longer : length new ≤ max (length old) (length bytes)

-- What is written back of the disk's copy, page by page, stands in its file in the marked pages, and outside them what the
-- file had there. So a file that was the copy outside the marked pages is exactly the copy where the write does not fail; and
-- where it fails, it has the first bytes of the copy that were written, in front of what it had from there on. No other file
-- changes, and none does where there is nothing to write back.
pub record FlushesLeaveTheCopy : Type 0 where
  pub whole : (unit : UnitName) (a : Attachment) (disk : Buffer) (marks : List Bool) (files : List NamedBytes)
      → is_due_back unit disk ≡ true → IsSome (find_file files a.name)
      → IsCopyOutside disk.bytes marks (bytes_of files a.name)
      → bytes_of (pages_flushed None unit (Some a) disk marks files) a.name ≡ disk.bytes
  pub front : (fault : Option Failure) (unit : UnitName) (a : Attachment) (disk : Buffer) (marks : List Bool)
      (files : List NamedBytes) → is_due_back unit disk ≡ true → IsSome (find_file files a.name)
      → HasPages marks (part_of_copy fault disk) (bytes_of files a.name)
      (bytes_of (pages_flushed fault unit (Some a) disk marks files) a.name)
  pub others : (fault : Option Failure) (unit : UnitName) (a : Attachment) (disk : Buffer) (marks : List Bool)
      (files : List NamedBytes) (name : List ℕ) → a.name ≢ name
      → bytes_of (pages_flushed fault unit (Some a) disk marks files) name ≡ bytes_of files name
  pub nothing : (fault : Option Failure) (unit : UnitName) (a : Option Attachment) (disk : Buffer) (marks : List Bool)
      (files : List NamedBytes) → is_due_back unit disk ≡ false → pages_flushed fault unit a disk marks files ≡ files
  pub content : (fault : Option Failure) (unit : UnitName) (a : Option Attachment) (disk : Buffer) (marks : List Bool)
      (files : List NamedBytes) → IsPart fault disk → (is_disk unit.kind ≡ true → StepAt a disk marks files)
      → pages_flushed fault unit a disk marks files ≡ flush_files fault unit a disk files

-- Where a writing back by pages would leave the copy in a file, it does so too once a sector was written: a page in which that
-- changes a byte is marked. It would where the file is the copy. And the file stays in step with the copy.
pub record SectorsMarkTheirPages : Type 0 where
  pub same : (disk : Buffer) (marks : List Bool) → pages_back None disk marks disk.bytes ≡ disk.bytes
  pub sector : (a : Attachment) (disk : Buffer) (marks : List Bool) (old piece : List ℕ) (sector : ℕ)
      → sector < disk_sectors → length piece ≡ sector_bytes → length marks ≡ disk_pages
      → pages_back None disk marks old ≡ disk.bytes
      → pages_back None (sector_written (Some a) disk sector piece) (marks_written (Some a) disk.bytes sector marks) old
      ≡ (sector_written (Some a) disk sector piece).bytes
  pub step : (old new : AttachedFiles) (files : List NamedBytes) → new.slots ≡ old.slots → MarksCover old new
      → InStep old files → InStep new files

-- a sector that is written is what is read of it then, and every other one is read as before
pub record SectorsReadBack : Type 0 where
  pub same : (bytes piece : List ℕ) (sector : ℕ) → length piece ≡ sector_bytes
      → sector_of (with_sector bytes sector piece) sector ≡ piece
  pub others : (bytes piece : List ℕ) (sector other : ℕ) → length piece ≡ sector_bytes → other ≢ sector
      → sector_of (with_sector bytes sector piece) other ≡ sector_of bytes other

-- Where no call fails, the digest of a unit's file is that of the bytes which the file has behind the writing back: of the
-- disk's copy, where that is written back, and of the file's own bytes, where there is nothing to write back. A second digest
-- says the same.
pub record DigestsAreOfTheFile : Type 0 where
  pub behind : (unit : UnitName) (a : Attachment) (disk : Buffer) (files : List NamedBytes)
      → digest_said None unit (Some a) disk files
      ≡ Digested (length (bytes_of (flush_files None unit (Some a) disk files) a.name))
      (sha256 (bytes_of (flush_files None unit (Some a) disk files) a.name))
  pub copy : (unit : UnitName) (a : Attachment) (disk : Buffer) (files : List NamedBytes) → is_due_back unit disk ≡ true
      → IsSome (find_file files a.name)
      → digest_said None unit (Some a) disk files ≡ Digested (length disk.bytes) (sha256 disk.bytes)
  pub file : (unit : UnitName) (a : Attachment) (disk : Buffer) (files : List NamedBytes) → is_due_back unit disk ≡ false
      → digest_said None unit (Some a) disk files
      ≡ Digested (length (bytes_of files a.name)) (sha256 (bytes_of files a.name))
  pub again : (unit : UnitName) (a : Attachment) (disk : Buffer) (files : List NamedBytes)
      → digest_said None unit (Some a) (buffer_digested None unit (Some a) disk)
      (flush_files None unit (Some a) disk files)
      ≡ digest_said None unit (Some a) disk files
