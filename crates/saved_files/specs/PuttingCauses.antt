-- A failed call that is answered where the files of a saved session are attached has raised a count in this very call:
-- that of its file, which was opened in it, or of openings. The closing of a file that is given back is told by its count
-- alone.
use Rattle.std.specs.Prelude.{◌≡◌, ◌⊎◌, ℕ, ◌+◌, ◌<◌, ◌≤◌, ◌==◌, Bool, false, IsTrue, List, Option, Some, None, Result, Ok, Err, OnOk, if◌then◌else◌}
use Rattle.fault_counts.specs.Faults.{raised, Rose}
use Rattle.file_traits.specs.declared.files.FileId.{FileId}
use Rattle.file_traits.specs.declared.files.FileCall.TheVariants.{Opening, Length, Read}
use Rattle.file_traits.specs.State.{FileState}
use Rattle.whole_files.specs.Claims.{raised_by}
use Rattle.unit_files.specs.declared.faults.UnitFault.{UnitFault}
use Rattle.unit_trait.specs.declared.kind.UnitName.{UnitName}
use Rattle.unit_files.specs.Attachments.{Held, held_at}
use Rattle.unit_files.specs.Causes.{AtMostOnceMore, IsNewId, openings_in}
use Rattle.saved_files.specs.declared.file_faults.RestoreFault.{RestoreFault}
use Rattle.saved_files.specs.declared.file_faults.RestoreFault.TheVariants as fault

-- a call failed on a file that was opened in between, and its count has risen
pub record IsNewFileFault (f : UnitFault) (old new : FileState) : Type 0 where
  pub id : FileId
  pub file_is : f.file ≡ Some id
  pub fresh : IsNewId old new id.0
  pub rose : Rose (old.faults id.0) (new.faults id.0)

-- an opening failed, or the length or a read of a file that was opened in between
pub record IsRestoreFault (f : UnitFault) (old new : FileState) : Type 0 where
  pub none_done : f.done ≡ 0
  pub calls : (f.call ≡ Opening) ⊎ (f.call ≡ Length) ⊎ (f.call ≡ Read)
  pub opening : f.call ≡ Opening → (f.file ≡ None) × Rose old.open_faults new.open_faults
  pub other : (f.call ≡ Opening → ⊥) → IsNewFileFault f old new

-- no opening failed, where names are told; where they are not, a file is missing only where the count of openings rose
abbrev pub OpeningsStand : Bool → FileState → FileState → Type 0
OpeningsStand tells old new = IsTrue tells → new.open_faults ≡ old.open_faults

-- a file was opened in between: more ids are given than were
abbrev pub WasOpened : FileState → FileState → Type 0
WasOpened old new = old.given < new.given

-- What it leaves of the counts, by its answer. A file is too long or has changed only where one was opened.
abbrev pub RestoreCause : Bool → Result (Unit {0}) RestoreFault → FileState → FileState → Type 0
RestoreCause tells (Ok u) old new = (new.faults ≡ old.faults) × OpeningsStand tells old new
RestoreCause tells (Err (fault.Failed f)) old new = IsRestoreFault f old new
RestoreCause tells (Err (fault.NoFile unit)) old new =
    ((IsTrue tells → ⊥) → Rose old.open_faults new.open_faults) × OpeningsStand tells old new
RestoreCause tells (Err (fault.TooLong unit)) old new = WasOpened old new × OpeningsStand tells old new
RestoreCause tells (Err (fault.Changed unit)) old new = WasOpened old new × OpeningsStand tells old new
RestoreCause tells (Err fault.MissingUnit) old new = ⊥
RestoreCause tells (Err fault.Port) old new = ⊥
RestoreCause tells (Err fault.OutOfMemory) old new = Unit {0}

-- The same of all of a session. Its units are looked for before all files: where one is missing, all files are as they
-- were. Its ports are listened on behind all files: where that came to nothing, no opening failed.
abbrev pub SessionCause : Bool → Result (Unit {0}) RestoreFault → FileState → FileState → Type 0
SessionCause tells (Err fault.MissingUnit) old new = new ≡ old
SessionCause tells (Err fault.Port) old new = OpeningsStand tells old new
SessionCause tells (Ok u) old new = RestoreCause tells (Ok u) old new
SessionCause tells (Err f) old new = RestoreCause tells (Err f) old new

-- whether a call was one on that file
abbrev pub is_on : ℕ → Option FileId → Bool
is_on file None = false
is_on file (Some id) = id.0 == file

-- the count of a file behind an answer, which may be of a failed call on it
abbrev pub count_behind : Result (Unit {0}) RestoreFault → ℕ → ℕ → ℕ
count_behind (Err (fault.Failed f)) file count = if is_on file f.file then raised count else count
count_behind answer file count = count

-- Each file's count has risen by the failed call that is answered, and by one more at most: what was opened is closed
-- once, and the answer says nothing of that closing.
abbrev pub ClosesOnce : Result (Unit {0}) RestoreFault → FileState → FileState → Type 0
ClosesOnce answer old new =
    (file : ℕ) → AtMostOnceMore (count_behind answer file (old.faults file)) (new.faults file)

-- The same where files are attached behind it: those are not closed, and no call on them but the one that is answered
-- has failed.
pub record ClosesOthers (answer : Result (Unit {0}) RestoreFault) (slots : List (Option Held)) (old new : FileState) : Type 0
  where
    pub files : ClosesOnce answer old new
    pub held : (unit : UnitName) (h : Held) → held_at slots unit ≡ Some h
        → new.faults h.file ≡ count_behind answer h.file (old.faults h.file)

-- the numbers of attached files were given
abbrev pub HaveGivenNumbers : List (Option Held) → FileState → Type 0
HaveGivenNumbers slots s = (unit : UnitName) (h : Held) → held_at slots unit ≡ Some h → h.file < s.given

-- a changed file is found only where files are compared
abbrev pub IsCompared : Bool → Result (Unit {0}) RestoreFault → Type 0
IsCompared force (Err (fault.Changed unit)) = force ≡ false
IsCompared force answer = Unit {0}

-- ---- how many openings failed, and how many files were opened

-- how many openings that failed an answer names: one that failed, and one that found no file, where names are not told
abbrev pub openings_named : Bool → Result (Unit {0}) RestoreFault → ℕ
openings_named tells (Err (fault.NoFile unit)) = if tells then 0 else 1
openings_named tells (Err (fault.Failed f)) = openings_in f.call
openings_named tells answer = 0

-- The count of openings has risen by just as many as the answer names: each file is opened in one call. Where all of so
-- many files were attached, just as many ids were given, and where one was refused, no more.
pub record OpensEach (tells : Bool) (all : ℕ) (answer : Result (Unit {0}) RestoreFault) (old new : FileState) : Type 0
  where
    pub openings : new.open_faults ≡ raised_by (openings_named tells answer) old.open_faults
    pub given : OnOk answer (new.given ≡ old.given + all)
    pub most : new.given ≤ old.given + all
