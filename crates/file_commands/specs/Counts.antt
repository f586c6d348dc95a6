-- Notes are at most as many as the counts of faults have risen, and each is one that its call can leave.
use Rattle.std.specs.Prelude.{◌≡◌, ◌⊎◌, ℕ, ◌+◌, ◌-◌, ◌^◌, ◌≤◌, ◌==◌, Bool, true, false, IsTrue, List, [], ◌∷◌, Option, Some, None}
use Rattle.std.specs.List.{AllByRecursion}
use Rattle.file_traits.specs.declared.files.FileId.{FileId}
use Rattle.file_traits.specs.State.{FileState}
use Rattle.whole_files.specs.Claims.{raised_by}
use Rattle.unit_files.specs.Causes.{IsNewId, AtMostOnceMore}
use Rattle.file_commands.specs.declared.note.FaultNote.{FaultNote}
use Rattle.file_commands.specs.Possible.{IsPossible}

-- whether a note is of that file
abbrev pub is_of : ℕ → Option FileId → Bool
is_of file None = false
is_of file (Some id) = id.0 == file

abbrev pub is_opening : Option FileId → Bool
is_opening None = true
is_opening (Some id) = false

abbrev pub one_if : Bool → ℕ
one_if true = 1
one_if false = 0

-- how many of these notes are of that file, and how many of openings
abbrev pub noted : ℕ → List FaultNote → ℕ
noted file [] = 0
noted file (n ∷ notes) = one_if (is_of file n.file) + noted file notes

abbrev pub openings_noted : List FaultNote → ℕ
openings_noted [] = 0
openings_noted (n ∷ notes) = one_if (is_opening n.file) + openings_noted notes

-- a count has risen by so much at least, or stands at its type's end
abbrev pub RoseBy : ℕ → ℕ → ℕ → Type 0
RoseBy n before now = (before ≤ now) × ((before + n ≤ now) ⊎ (2 ^ 64 - 1 ≤ now))

-- The notes of each file are at most the rise of its count, and those of openings the rise of theirs. None has written
-- more than its call can have.
pub record AreCounted (notes : List FaultNote) (old new : FileState) : Type 0 where
  pub files : (file : ℕ) → RoseBy (noted file notes) (old.faults file) (new.faults file)
  pub openings : RoseBy (openings_noted notes) old.open_faults new.open_faults
  pub possible : AllByRecursion IsPossible notes

-- Each count of a file has risen by just as many as the notes of that file are, no opening has failed, and none was made: a
-- note stands for each call that failed.
pub record AreAll (notes : List FaultNote) (old new : FileState) : Type 0 where
  pub files : (file : ℕ) → new.faults file ≡ raised_by (noted file notes) (old.faults file)
  pub openings : new.open_faults ≡ old.open_faults
  pub ids : new.given ≡ old.given

-- Each count of a file has risen by just as many as the notes of that file are. A refusal may give files back: it closes such
-- as were opened in that very call, each of them once, and these closings have no note. So the count of any file has risen
-- by one more than it has notes at most.
pub record AreExact (gives_back : Bool) (notes : List FaultNote) (old new : FileState) : Type 0 where
  pub files : (file : ℕ) → (IsTrue gives_back → IsNewId old new file → ⊥) → new.faults file ≡ raised_by (noted file notes) (old.faults file)
  pub most : (file : ℕ) → AtMostOnceMore (raised_by (noted file notes) (old.faults file)) (new.faults file)
  pub ids : old.given ≤ new.given
