-- DETACH ALL: the units that have a file lose it one behind another, in bus order. The disk comes first: where what it
-- holds of its file can't be written back, it keeps the file, and so do all others. A closing that fails is noted, and the
-- next one follows.
use Rattle.std.specs.Prelude.{◌≡◌, ℕ, ◌+◌, Bool, false, IsTrue, List, [], ◌∷◌, ◌++◌, drop, length, Option, Some, None, Result, Ok, Err}
use Rattle.std.specs.List.{AllByRecursion, list_any}
use Rattle.fault_counts.specs.Faults.{Rose}
use Rattle.file_traits.specs.declared.files.FileId.{FileId}
use Rattle.file_traits.specs.declared.files.FileCall.TheVariants.{Write}
use Rattle.file_traits.specs.Lists.{NamedBytes}
use Rattle.file_traits.specs.State.{FileState}
use Rattle.unit_trait.specs.declared.kind.Kind.TheVariants.{Dsk, Mta, Lpt, Ptr, Ptp}
use Rattle.unit_trait.specs.declared.kind.UnitName.{UnitName}
use Rattle.unit_trait.specs.Kinds.{same_unit}
use Rattle.unit_files.specs.declared.faults.UnitFault.{UnitFault}
use Rattle.unit_files.specs.declared.faults.DetachFault.{DetachFault}
use Rattle.unit_files.specs.declared.faults.DetachFault.TheVariants as detach
use Rattle.unit_files.specs.Attachments.{Attachment, Held, attachments_of, attachment_at, held_at, is_disk}
use Rattle.unit_files.specs.Buffer.{Buffer, AttachedFiles}
use Rattle.unit_files.specs.Acts.{Failure, DetachSaid, HadNone, StillHeld, Detached, detach_said, detached, buffer_left, flush_files}
use Rattle.file_commands.specs.declared.note.Subject.TheVariants as subject
use Rattle.file_commands.specs.declared.note.FaultNote.{FaultNote}
use Rattle.file_commands.specs.Notes.{CommandNote, same_subject, numbered, failure_now, notes_said}
use Rattle.file_commands.specs.Counts.{AreCounted, AreAll}

-- the units whose files are attached, in bus order
abbrev pub attachable : List UnitName
attachable =
    record { kind = Dsk; unit = 0 }
    ∷ record { kind = Mta; unit = 0 } ∷ record { kind = Mta; unit = 1 } ∷ record { kind = Mta; unit = 2 } ∷ record { kind = Mta; unit = 3 }
    ∷ record { kind = Mta; unit = 4 } ∷ record { kind = Mta; unit = 5 } ∷ record { kind = Mta; unit = 6 } ∷ record { kind = Mta; unit = 7 }
    ∷ record { kind = Lpt; unit = 0 } ∷ record { kind = Ptr; unit = 0 } ∷ record { kind = Ptp; unit = 0 } ∷ []

-- no two of these units are one
abbrev pub AreApart : List UnitName → Type 0
AreApart [] = Unit {0}
AreApart (u ∷ us) = AllByRecursion (λ (v : UnitName). same_unit u v ≡ false) us × AreApart us

-- these units are no disk
abbrev pub AreNoDisk : List UnitName → Type 0
AreNoDisk us = AllByRecursion (λ (u : UnitName). is_disk u.kind ≡ false) us

-- only the first of these units may be the disk
abbrev pub IsDiskFirst : List UnitName → Type 0
IsDiskFirst [] = Unit {0}
IsDiskFirst (u ∷ us) = AreNoDisk us

-- the files of units with all files
pub record Filed : Type 0 where
  pub attached : List (Option Attachment)
  pub disk : Buffer
  pub files : List NamedBytes

abbrev pub filed_of : AttachedFiles → List NamedBytes → Filed
filed_of a files = record { attached = attachments_of a.slots; disk = a.disk; files = files }

-- what stands behind it, how many of the command's notes it used, and the unit that has kept its file
pub record Emptied : Type 0 where
  pub left : Filed
  pub used : ℕ
  pub kept : Option UnitName

abbrev pub more_used : ℕ → Emptied → Emptied
more_used n e = record e { used = n + e.used }

-- a unit was detached, and the others follow with the notes that are left
abbrev pub emptied_as : DetachSaid → UnitName → Filed → (List CommandNote → Emptied) → List CommandNote → Emptied
emptied_as (StillHeld f) u kept rest notes = record { left = kept; used = 1; kept = Some u }
emptied_as (Detached (Some f)) u kept rest notes = more_used 1 (rest (drop 1 notes))
emptied_as (Detached None) u kept rest notes = rest notes
emptied_as HadNone u kept rest notes = rest notes

-- .. with its file, if a call on that failed; and what then stands
abbrev pub said_in : Option Failure → UnitName → Filed → DetachSaid
said_in fault u s = detach_said fault u s.attached s.disk

abbrev pub written_in : Option Failure → UnitName → Filed → Filed
written_in fault u s = record s { files = flush_files fault u (attachment_at s.attached u) s.disk s.files }

abbrev pub without_file : Option Failure → UnitName → Filed → Filed
without_file fault u s = record (written_in fault u s) { attached = detached u s.attached; disk = buffer_left (said_in fault u s) u s.disk }

-- The units lose their files. A unit's call fails where the first of the command's notes says so.
unfoldable pub emptied : ℕ → List UnitName → Filed → List CommandNote → Emptied
emptied time [] s notes = record { left = s; used = 0; kept = None }
emptied time (u ∷ us) s notes =
    let fault = failure_now time (subject.Unit u) notes in
    emptied_as (said_in fault u s) u (written_in fault u s) (λ more. emptied time us (without_file fault u s) more) notes

-- the write for which a unit has kept its file, by what a detaching answers
abbrev pub flush_fault : Result (Option UnitFault) DetachFault → Option UnitFault
flush_fault (Ok closing) = None
flush_fault (Err detach.NotAttached) = None
flush_fault (Err (detach.Failed f)) = Some f

-- the unit that has kept its file, by what is answered
abbrev pub keeper : Result (Unit {0}) UnitFault → Option UnitName
keeper (Ok u) = None
keeper (Err f) = Some f.unit

-- a note is one of these units'
abbrev pub is_one_of : List UnitName → CommandNote → Bool
is_one_of us n = list_any (λ (u : UnitName). same_subject n.subject (subject.Unit u)) us

-- The notes that were kept in it: it uses all of them, and they are counted; and what stands behind it. What it makes of files is
-- said for any files, and the files behind it are that where the disk's file was in step with the copy of it.
pub record Empties (step : Type 0) (number time : ℕ) (us : List UnitName) (from to : Filed) (kept_by : Option UnitName) (before after : List FaultNote) (old new : FileState) : Type 0 where
  pub own : List CommandNote
  pub kept : List FaultNote
  pub added : after ≡ before ++ kept
  pub said : notes_said kept ≡ numbered number own
  pub among : AllByRecursion (λ (n : CommandNote). IsTrue (is_one_of us n)) own
  pub left : List NamedBytes → List NamedBytes
  pub is : (files : List NamedBytes) → emptied time us (record from { files = files }) own ≡ record { left = record to { files = left files }; used = length own; kept = kept_by }
  pub content : step → to.files ≡ left from.files
  pub counted : AreCounted kept old new
  pub all : AreAll kept old new

-- The last note is that of a write of the disk's file, which the disk has kept, and the count of that file has risen.
pub record IsUnwritten (slots : List (Option Held)) (notes : List FaultNote) (old new : FileState) : Type 0 where
  pub unit : UnitName
  pub disk : IsTrue (is_disk unit.kind)
  pub held : Held
  pub there : held_at slots unit ≡ Some held
  pub earlier : List FaultNote
  pub note : FaultNote
  pub last : notes ≡ earlier ++ note ∷ []
  pub subject_is : note.subject ≡ subject.Unit unit
  pub call_is : note.call ≡ Write
  pub id : FileId
  pub file_is : note.file ≡ Some id
  pub id_is : id.0 ≡ held.file
  pub rose : Rose (old.faults held.file) (new.faults held.file)
