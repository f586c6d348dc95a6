-- A call that fails behind a command is none of those that SAVE and RESTORE make.
use Rattle.std.proofs.Common.{◌≡◌, ◌⊎◌, inl, inr, ℕ, ◌==◌, ◌&&◌, nat_lt, Bool, true, false, List, [], ◌∷◌, length, Option, Some, None, refl, ap, sym, ◌∙◌, subst, if◌then◌else◌}
use Rattle.file_traits.specs.declared.files.FileCall.{FileCall}
use Rattle.file_traits.specs.declared.files.FileCall.TheVariants.{Opening, Length, Read, Write, Closing}
use Rattle.file_traits.specs.Lists.{NamedBytes, bytes_of, changed}
use Rattle.unit_trait.specs.declared.kind.UnitName.{UnitName}
use Rattle.unit_trait.specs.Kinds.{same_unit}
use Rattle.unit_files.specs.declared.modes.AttachMode.{AttachMode}
use Rattle.unit_files.specs.Acts.{Failure, AttachSaid, same_call, failure_at, is_due_back, FlushSaid, flushed_as, flush_said, flush_files, written_over, buffer_flushed}
use Rattle.unit_files.specs.Acts.{Attached, UnitHasFile, OnlyWrites, NotThere, TooLong, CallFailed, attach_said, refused_first, said_unless, opening_said, opened_files, opened_said, measured, measured_as, reading_failure, read_whole}
use Rattle.unit_files.specs.Attachments.{Attachment, attachment_at, longest_file, is_disk}
use Rattle.unit_files.specs.Buffer.{Buffer, disk_unit}
use Rattle.unit_files.specs.Digests.{digest_unless, digest_read, digest_measured, digest_flushed}
use Rattle.file_commands.specs.declared.note.Subject.{Subject}
use Rattle.file_commands.specs.Notes.{CommandNote}
use Rattle.saved_files.specs.declared.taking.UnitPlace.{UnitPlace}
use Rattle.saved_session.specs.Parts.{FilePart}
use Rattle.saved_files.specs.Putting.{at_unit, unit_of, mode_of, is_only_read, behind_attaching, compared, refusal_of, first_of, first_refused, with_file}
use Rattle.saved_files.specs.Taking.{unit_at, file_places, undigested, failing_first, first_undigested, disk_flushed, files_flushed, copy_flushed, unless_unflushed, first_unsaved}
use Rattle.command_session.specs.Live.{Live}
use Rattle.command_session.specs.Doing.{ComeBehind, IsLastCall}
use Rattle.state_commands.specs.StateEffects.{claim_by, unit_claim}

-- ---- a claim of another call

-- no unit's call of that kind is the one that fails
abbrev pub IsUnmet : FileCall → Option (UnitName × Failure) → Type 0
IsUnmet call claim = (unit : UnitName) → failure_at call (at_unit unit claim) ≡ None

pub unmet-none : (call : FileCall) → IsUnmet call None
unmet-none call = λ unit. refl

unmet-some : (call : FileCall) (of : UnitName) (f : Failure) → same_call f.call call ≡ false → IsUnmet call (Some (of, f))
unmet-some call of f other = λ unit. by (same_unit unit of)
  where
    by : (b : Bool) → failure_at call (if b then Some f else None) ≡ None
    by true = ap (λ (b : Bool). if b then Some f else None) other
    by false = refl

-- what comes behind is a closing, or a write of the disk, where something of it is to be written back
pub late-unmet : (call : FileCall) (live : Live) (time : ℕ) (behind : List CommandNote) → ComeBehind live behind → same_call Closing call ≡ false
    → (live.machine.disk.written ≡ true → same_call Write call ≡ false) → IsUnmet call (unit_claim time behind)
late-unmet call live time [] come closing write = λ unit. refl
late-unmet call live time (n ∷ behind) come closing write =
    subst (λ (s : Subject). IsUnmet call (if n.time == time then claim_by s n.failure else None)) (sym come.0.subject_is) (by-time (n.time == time))
  where
    late : (c : FileCall) → IsLastCall live.machine.disk.written come.0.unit.kind c → same_call c call ≡ false
    late Closing last = closing
    late Write last = write last.1
    late c last = absurd last

    by-time : (b : Bool) → IsUnmet call (if b then Some (come.0.unit, n.failure) else None)
    by-time true = unmet-some call come.0.unit n.failure (late n.failure.call come.0.call)
    by-time false = λ unit. refl

-- ---- SAVE

measured-unmet : (fault : Option Failure) (bytes : List ℕ) → failure_at Length fault ≡ None → failure_at Read fault ≡ None
    → digest_measured fault bytes ≡ digest_measured None bytes
measured-unmet fault bytes size read =
    ap (λ (o : Option Failure). digest_unless o fault bytes) size
    ∙ ap (λ (o : Option Failure). digest_read (if nat_lt 0 (length bytes) then o else None) bytes) read

digest-unmet : (fault : Option Failure) (a : Option Attachment) (files : List NamedBytes) → failure_at Length fault ≡ None → failure_at Read fault ≡ None
    → digest_flushed fault a files ≡ digest_flushed None a files
digest-unmet fault None files size read = refl
digest-unmet fault (Some a) files size read = measured-unmet fault (bytes_of files a.name) size read

module _ (claim : Option (UnitName × Failure)) (attached : List (Option Attachment)) where
  undigested-unmet : (files : List NamedBytes) (ps : List UnitPlace) → IsUnmet Length claim → IsUnmet Read claim
      → first_undigested claim files attached ps ≡ first_undigested None files attached ps
  undigested-unmet files [] size read = refl
  undigested-unmet files (p ∷ ps) size read =
      let first = digest-unmet (at_unit (unit_at p) claim) (attachment_at attached (unit_at p)) files (size (unit_at p)) (read (unit_at p)) in
      let others = undigested-unmet files ps size read in
      λ i. failing_first (undigested (first i)) (unit_at p) (others i)

  -- the disk has no file, or its write is not the one that fails
  abbrev pub IsFlushed : Type 0
  IsFlushed = (attachment_at attached disk_unit ≡ None) ⊎ (failure_at Write (at_unit disk_unit claim) ≡ None)

  said-unmet : (disk : Buffer) → IsFlushed → disk_flushed claim attached disk ≡ disk_flushed None attached disk
  said-unmet disk (inl none) =
      ap (λ (a : Option Attachment). flush_said (at_unit disk_unit claim) disk_unit a disk) none
      ∙ sym (ap (λ (a : Option Attachment). flush_said None disk_unit a disk) none)
  said-unmet disk (inr unmet) = by (attachment_at attached disk_unit)
    where
      by : (a : Option Attachment) → flush_said (at_unit disk_unit claim) disk_unit a disk ≡ flush_said None disk_unit a disk
      by None = refl
      by (Some a) = ap (λ (o : Option Failure). flushed_as (if is_due_back disk_unit disk then o else None)) unmet

  pub files-unmet : (disk : Buffer) (files : List NamedBytes) → IsFlushed → files_flushed claim attached disk files ≡ files_flushed None attached disk files
  unfolding flush_files
  files-unmet disk files (inl none) =
      ap (λ (a : Option Attachment). flush_files (at_unit disk_unit claim) disk_unit a disk files) none
      ∙ sym (ap (λ (a : Option Attachment). flush_files None disk_unit a disk files) none)
  files-unmet disk files (inr unmet) = by (attachment_at attached disk_unit)
    where
      by : (a : Option Attachment) → flush_files (at_unit disk_unit claim) disk_unit a disk files ≡ flush_files None disk_unit a disk files
      by None = refl
      by (Some a) =
          ap (λ (o : Option Failure). if is_due_back disk_unit disk then changed files a.name (written_over o disk.bytes) else files)
          unmet

  pub copy-unmet : (disk : Buffer) → IsFlushed → copy_flushed claim attached disk ≡ copy_flushed None attached disk
  copy-unmet disk flushed = ap (λ (said : FlushSaid). buffer_flushed said disk_unit disk) (said-unmet disk flushed)

  pub unsaved-unmet : (disk : Buffer) (files : List NamedBytes) → IsFlushed → IsUnmet Length claim → IsUnmet Read claim
      → first_unsaved claim attached disk files ≡ first_unsaved None attached disk files
  unfolding first_unsaved
  unsaved-unmet disk files flushed size read =
      let said = said-unmet disk flushed in
      let others =
      ap (λ (l : List NamedBytes). first_undigested claim l attached file_places) (files-unmet disk files flushed)
      ∙ undigested-unmet (files_flushed None attached disk files) file_places size read in
      λ i. unless_unflushed (said i) (others i)

-- behind the writing back nothing is to be written back
pub copy-clean : (attached : List (Option Attachment)) (disk : Buffer) (a : Attachment) → attachment_at attached disk_unit ≡ Some a
    → (copy_flushed None attached disk).written ≡ false
copy-clean attached disk a is =
    ap (λ (o : Option Attachment). (buffer_flushed (flush_said None disk_unit o disk) disk_unit disk).written) is
    ∙ by (is_due_back disk_unit disk)
  where
    by : (b : Bool) → (buffer_flushed (flushed_as (if b then None else None)) disk_unit disk).written ≡ false
    by true = refl
    by false = refl

-- ---- RESTORE

attach-unmet : (fault : Option Failure) (mode : AttachMode) (unit : UnitName) (name : List ℕ) (attached : List (Option Attachment)) (files : List NamedBytes)
    → failure_at Opening fault ≡ None → failure_at Length fault ≡ None → failure_at Read fault ≡ None
    → attach_said fault mode unit name attached files ≡ attach_said None mode unit name attached files
unfolding attach_said
attach-unmet fault mode unit name attached files opening size read = by-first (refused_first (attachment_at attached unit) unit mode)
  where
    reading-same : (count : ℕ) → reading_failure fault unit count ≡ reading_failure None unit count
    reading-same count = by (is_disk unit.kind && nat_lt 0 count)
      where
        by : (b : Bool) → (if b then failure_at Read fault else None) ≡ (if b then failure_at Read None else None)
        by true = read
        by false = refl

    measured-same : (count : ℕ) → measured fault unit count ≡ measured None unit count
    measured-same count =
        ap (λ (o : Option Failure). measured_as o fault unit count) size
        ∙ ap (λ (o : Option Failure). if nat_lt (longest_file unit.kind) count then TooLong else read_whole o count) (reading-same count)

    by-opened : (o : Option (List NamedBytes)) → opened_said fault unit name o ≡ opened_said None unit name o
    by-opened None = refl
    by-opened (Some l) = measured-same (length (bytes_of l name))

    by-first : (o : Option AttachSaid) → said_unless o fault mode unit name files ≡ said_unless o None mode unit name files
    by-first (Some refusal) = refl
    by-first None =
        ap (λ (o : Option Failure). opening_said o fault mode unit name files) opening ∙ by-opened (opened_files mode name files)

module _ (claim : Option (UnitName × Failure)) (force : Bool) (files : List NamedBytes)
    (opening : IsUnmet Opening claim) (size : IsUnmet Length claim) (read : IsUnmet Read claim) where
  refusal-unmet : (f : FilePart) (attached : List (Option Attachment)) → refusal_of (at_unit (unit_of f) claim) force f attached files ≡ refusal_of None force f attached files
  unfolding refusal_of
  refusal-unmet f attached =
      let unit = unit_of f in
      let fault = at_unit unit claim in
      ap (λ (said : AttachSaid). behind_attaching said fault force f (bytes_of files f.name))
      (attach-unmet fault (mode_of (is_only_read f)) unit f.name attached files (opening unit) (size unit) (read unit))
      ∙ by-said (attach_said None (mode_of (is_only_read f)) unit f.name attached files)
    where
      by-force : (b : Bool) → (if b then None else compared (digest_measured (at_unit (unit_of f) claim) (bytes_of files f.name)) f)
          ≡ (if b then None else compared (digest_measured None (bytes_of files f.name)) f)
      by-force true = refl
      by-force false =
          ap (λ said. compared said f) (measured-unmet (at_unit (unit_of f) claim) (bytes_of files f.name) (size (unit_of f)) (read (unit_of f)))

      by-said : (said : AttachSaid) → behind_attaching said (at_unit (unit_of f) claim) force f (bytes_of files f.name)
          ≡ behind_attaching said None force f (bytes_of files f.name)
      by-said (Attached count) = by-force force
      by-said NotThere = refl
      by-said TooLong = refl
      by-said (CallFailed failure) = refl
      by-said UnitHasFile = refl
      by-said OnlyWrites = refl

  pub refused-unmet : (fs : List FilePart) (attached : List (Option Attachment)) → first_refused claim force fs attached files ≡ first_refused None force fs attached files
  unfolding first_refused
  refused-unmet [] attached = refl
  refused-unmet (f ∷ fs) attached =
      let first = refusal-unmet f attached in
      let others = refused-unmet fs (with_file attached f) in
      λ i. first_of (first i) (unit_of f) (others i)
