-- How many openings of the files that the words name failed, and how many ids these files were given, also where files tell
-- nothing.
use Rattle.std.specs.Prelude.{◌≡◌, ◌+◌, ◌≤◌, ◌&&◌, ℕ, Bool, true, false, not, List, ◌++◌, is_some, Result, Err, IfOk}
use Rattle.file_traits.specs.State.{FileState}
use Rattle.file_commands.specs.declared.note.FaultNote.{FaultNote}
use Rattle.file_commands.specs.Counts.{one_if, openings_noted}
use Rattle.whole_files.specs.Claims.{raised_by}
use Rattle.command_session.specs.Doing.{AllClosings}
use Rattle.command_words.specs.declared.options.Options.{Options}
use Rattle.program_start.specs.declared.word_files.Refusal.{Refusal}
use Rattle.program_start.specs.declared.word_files.Refusal.TheVariants.{Unopened}

-- how many files the words name: the keys file and the script
abbrev pub files_named : Options → ℕ
files_named options = one_if (is_some options.keys) + one_if (is_some options.script)

-- whether a file of the words was not read
abbrev pub is_unopened : {T : Type 0} → Result T Refusal → Bool
is_unopened (Err (Unopened place)) = true
is_unopened result = false

-- So many files that the words name were to be read. The count of openings has risen by just as many as the notes of openings
-- are, and by one more where a file is missing of files that tell nothing: no note names that. It is so only where the
-- program is refused for a file that was not read, and nothing failed but closings. Each file gives one id at most, and just
-- one where the program is not refused.
pub record CountsWordFiles {T : Type 0} (tells : Bool) (files : ℕ) (result : Result T Refusal) (kept kept' : List FaultNote) (old new : FileState) : Type 0 where
  pub more : List FaultNote
  pub added : kept' ≡ kept ++ more
  pub missed : ℕ
  pub few : missed ≤ one_if (is_unopened result && not tells)
  pub missing : missed ≡ 1 → AllClosings more
  pub openings : new.open_faults ≡ raised_by (missed + openings_noted more) old.open_faults
  pub ids : new.given ≤ old.given + files
  pub opened : IfOk result (λ value. new.given ≡ old.given + files)
