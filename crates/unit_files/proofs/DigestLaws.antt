-- The digest of a unit's file, where no call fails.
use Rattle.std.proofs.Common.{◌≡◌, ◌&&◌, Bool, true, false, List, length, Option, Some, None, IsSome, nat_lt, refl, ap, sym, ◌∙◌, if◌then◌else◌}
use Rattle.file_traits.specs.Lists.{NamedBytes, find_file, bytes_of, changed}
use Rattle.file_traits.proofs.Changes.{changed_bytes}
use Rattle.unit_trait.specs.declared.kind.UnitName.{UnitName}
use Rattle.unit_files.specs.Attachments.{Attachment, is_disk}
use Rattle.unit_files.specs.Buffer.{Buffer}
use Rattle.unit_files.specs.Acts.{Failure, is_due_back, FlushSaid, Flushed, flushed_as, flush_said, written_back, flush_files, buffer_flushed}
use Rattle.unit_files.specs.Digests.{digest_read, digest_measured, digest_said, behind_flush, buffer_digested}
use Rattle.unit_files.specs.Laws.{DigestsAreOfTheFile}

-- no failure is met
none-met : (test : Bool) (f : Option Failure) → f ≡ None → (if test then f else None) ≡ None
none-met true f is = is
none-met false f is = refl

-- nothing is to be written back behind a writing back
marked-off : (test : Bool) (disk : Buffer) → (test && (if test then record disk { written = false } else disk).written) ≡ false
marked-off true disk = refl
marked-off false disk = refl

module _ (unit : UnitName) (a : Attachment) (disk : Buffer) (files : List NamedBytes) where
  is-flushed : flush_said None unit (Some a) disk ≡ Flushed
  is-flushed = ap flushed_as (none-met (is_due_back unit disk) None refl)

  behind : digest_said None unit (Some a) disk files
      ≡ digest_read None (bytes_of (flush_files None unit (Some a) disk files) a.name)
  behind =
      let bytes = bytes_of (flush_files None unit (Some a) disk files) a.name in
      ap (λ (s : FlushSaid). behind_flush s (digest_measured None bytes)) is-flushed
      ∙ ap (λ (f : Option Failure). digest_read f bytes) (none-met (nat_lt 0 (length bytes)) None refl)

  copied : is_due_back unit disk ≡ true → flush_files None unit (Some a) disk files ≡ changed files a.name (written_back None disk)
  unfolding flush_files
  copied due = ap (λ (b : Bool). if b then changed files a.name (written_back None disk) else files) due

  unchanged : is_due_back unit disk ≡ false → flush_files None unit (Some a) disk files ≡ files
  unfolding flush_files
  unchanged not_due = ap (λ (b : Bool). if b then changed files a.name (written_back None disk) else files) not_due

  copy : is_due_back unit disk ≡ true → IsSome (find_file files a.name)
      → digest_said None unit (Some a) disk files ≡ digest_read None disk.bytes
  copy due there =
      behind
      ∙ ap (λ (l : List NamedBytes). digest_read None (bytes_of l a.name)) (copied due)
      ∙ ap (digest_read None) (changed_bytes files a.name (written_back None disk) there)

  file : is_due_back unit disk ≡ false
      → digest_said None unit (Some a) disk files ≡ digest_read None (bytes_of files a.name)
  file not_due =
      behind
      ∙ ap (λ (l : List NamedBytes). digest_read None (bytes_of l a.name))
      (unchanged not_due)

  marked : is_due_back unit (buffer_digested None unit (Some a) disk) ≡ false
  marked =
      ap (λ (s : FlushSaid). is_due_back unit (buffer_flushed s unit disk)) is-flushed
      ∙ marked-off (is_disk unit.kind) disk

again : (unit : UnitName) (a : Attachment) (disk : Buffer) (files : List NamedBytes)
    → digest_said None unit (Some a) (buffer_digested None unit (Some a) disk) (flush_files None unit (Some a) disk files)
    ≡ digest_said None unit (Some a) disk files
again unit a disk files =
    file unit a (buffer_digested None unit (Some a) disk) (flush_files None unit (Some a) disk files)
    (marked unit a disk files)
    ∙ sym (behind unit a disk files)

pub digests-are : DigestsAreOfTheFile
digests-are = record { behind = behind; copy = copy; file = file; again = again }
