-- What holds of the notes of every session, in a reader's words.
use Rattle.std.specs.Prelude.{◌≡◌, ℕ, List, [], ◌++◌, length, drop}
use Rattle.file_traits.specs.State.{FileState}
use Rattle.file_commands.specs.declared.note.FaultNote.{FaultNote}
use Rattle.file_commands.specs.Notes.{CommandNote, Note, numbered, handed, Follow}
use Rattle.file_commands.specs.Counts.{AreCounted}

-- A command is handed the notes that have its number and no others, in order; and once it has used all of them, those of
-- later commands are left.
pub record CommandsTakeTheirNotes : Type 0 where
  pub own : (number : ℕ) (notes : List CommandNote) (more : List Note) → Follow number more → handed number (numbered number notes ++ more) ≡ notes
  pub rest : (number : ℕ) (notes : List CommandNote) (more : List Note) → drop (length notes) (numbered number notes ++ more) ≡ more
  -- where the first note is a later command's, a command is handed none
  pub none : (number : ℕ) (more : List Note) → Follow number more → handed number more ≡ []

-- notes of two spans of time are counted as the counts rose over both
pub record CountsAddUp : Type 0 where
  pub both : (first second : List FaultNote) (old mid new : FileState) → AreCounted first old mid → AreCounted second mid new → AreCounted (first ++ second) old new
  pub none : (s : FileState) → AreCounted [] s s
