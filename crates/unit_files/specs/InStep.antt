-- The disk's file as the code writes it back, page by page, and what ties that to the content alone: as long as nothing else
-- changes the file, it has the copy's bytes outside the marked pages.
use Rattle.std.specs.Prelude.{◌≡◌, ◌<◌, ◌≤◌, ℕ, ◌+◌, ◌*◌, Bool, false, List, [], ◌∷◌, length, min, take, drop, get_or, slice_get}
use Rattle.std.specs.Prelude.{Option, Some, None, IsSome, if◌then◌else◌}
use Rattle.file_traits.specs.declared.files.FileCall.TheVariants.{Write}
use Rattle.file_traits.specs.Lists.{NamedBytes, find_file, bytes_of, changed, overwritten}
use Rattle.unit_trait.specs.declared.kind.UnitName.{UnitName}
use Rattle.unit_files.specs.Attachments.{Attachment, attachments_of, attachment_at, is_disk}
use Rattle.unit_files.specs.Pages.{page_bytes, no_marks, page_of, marked}
use Rattle.unit_files.specs.Buffer.{Buffer, AttachedFiles, disk_unit, sector_bytes}
use Rattle.unit_files.specs.Acts.{Failure, failure_at, is_due_back, piece_of, FlushSaid, Flushed, DetachSaid, Detached}

-- ---- what the calls do with the marks

-- The marks once a sector was written: that of its page, and of every page in front of it in which its gap lies. The gap
-- begins where the copy ended.
abbrev pub with_marks : List ℕ → ℕ → List Bool → List Bool
with_marks bytes sector marks =
    marked (page_of (min (length bytes) (sector * sector_bytes))) (page_of (sector * sector_bytes)) marks

-- .. where there is a file that may be written
abbrev pub marks_written : Option Attachment → List ℕ → ℕ → List Bool → List Bool
marks_written None bytes sector marks = marks
marks_written (Some a) bytes sector marks = if a.read_only then marks else with_marks bytes sector marks

-- the marks behind a writing back, and behind a detaching
abbrev pub marks_flushed : FlushSaid → UnitName → List Bool → List Bool
marks_flushed Flushed unit marks = if is_disk unit.kind then no_marks else marks
marks_flushed said unit marks = marks

abbrev pub marks_left : DetachSaid → UnitName → List Bool → List Bool
marks_left (Detached fault) unit marks = if is_disk unit.kind then no_marks else marks
marks_left said unit marks = marks

-- ---- the pages that are written back

-- the page of a copy at a place is written over a file where it is marked, as far as the copy has bytes there
abbrev pub written_page : Bool → ℕ → List ℕ → List ℕ → List ℕ
written_page mark place bytes old = if mark then overwritten old place (take page_bytes (drop place bytes)) else old

-- each marked page, from a place on
abbrev pub written_pages : List Bool → ℕ → List ℕ → List ℕ → List ℕ
written_pages [] place bytes old = old
written_pages (mark ∷ marks) place bytes old =
    written_pages marks (place + page_bytes) bytes (written_page mark place bytes old)

-- The bytes of a file once the marked pages of the copy were written over it, from the front. A failed write wrote those in
-- front of its own, and of that the first bytes: what they have of the first `done` bytes of the copy.
abbrev pub pages_back : Option Failure → Buffer → List Bool → List ℕ → List ℕ
pages_back fault disk marks old = written_pages marks 0 (piece_of (failure_at Write fault) disk.bytes) old

-- the files behind that
unfoldable pub pages_flushed : Option Failure → UnitName → Option Attachment → Buffer → List Bool → List NamedBytes
    → List NamedBytes
pages_flushed fault unit None disk marks files = files
pages_flushed fault unit (Some a) disk marks files =
    if is_due_back unit disk then changed files a.name (pages_back fault disk marks) else files

-- ---- what ties them to the content

-- Outside the marked pages, a file has the bytes of the copy: each of them, and none that the copy has not.
pub record IsCopyOutside (bytes : List ℕ) (marks : List Bool) (old : List ℕ) : Type 0 where
  pub short : length old ≤ length bytes
  pub same : (page k : ℕ) → k < page_bytes → get_or marks page false ≡ false
      → slice_get old (page * page_bytes + k) ≡ slice_get bytes (page * page_bytes + k)

-- the disk's file is there, and is the copy outside the marked pages; none is marked where no sector was written
pub record IsInStep (a : Attachment) (disk : Buffer) (marks : List Bool) (files : List NamedBytes) : Type 0 where
  pub there : IsSome (find_file files a.name)
  pub outside : IsCopyOutside disk.bytes marks (bytes_of files a.name)
  pub unmarked : disk.written ≡ false → marks ≡ no_marks

-- .. where the disk has a file
abbrev pub StepAt : Option Attachment → Buffer → List Bool → List NamedBytes → Type 0
StepAt None disk marks files = Unit {0}
StepAt (Some a) disk marks files = IsInStep a disk marks files

-- What the disk holds of its file is in step with the file: that is so from the attaching on, as long as nothing else
-- changes the file.
abbrev pub InStep : AttachedFiles → List NamedBytes → Type 0
InStep a files = StepAt (attachment_at (attachments_of a.slots) disk_unit) a.disk a.aside files

-- Between two states of the disk's copy no mark was taken away, each page is marked in which the copy has changed, and the
-- copy has not become shorter. So a file that is in step with the first, and stays as it is, is in step with the second.
pub record MarksCover (old new : AttachedFiles) : Type 0 where
  pub no_shorter : length old.disk.bytes ≤ length new.disk.bytes
  pub kept : (page : ℕ) → get_or new.aside page false ≡ false → get_or old.aside page false ≡ false
  pub same : (page k : ℕ) → k < page_bytes → get_or new.aside page false ≡ false
      → slice_get old.disk.bytes (page * page_bytes + k) ≡ slice_get new.disk.bytes (page * page_bytes + k)
  pub unwritten : new.disk.written ≡ false → (old.disk.written ≡ false) × (new.aside ≡ old.aside)
