-- Why the keys file or the script was not read, also where files tell nothing.
use Rattle.std.specs.Prelude.{◌≡◌, ◌⊎◌, ◌+◌, ◌<◌, ◌&&◌, not, ℕ, Bool, List, ◌++◌, Option, Some, None, IfSome, IsSome, Result, Ok, Err}
use Rattle.std.specs.Global.{Vec}
use Rattle.file_traits.specs.State.{FileState}
use Rattle.expect_actions.specs.KeysFile.{keys_read}
use Rattle.file_commands.specs.declared.note.FaultNote.{FaultNote}
use Rattle.file_commands.specs.declared.note.Subject.{Subject}
use Rattle.file_commands.specs.declared.note.Subject.TheVariants as subject
use Rattle.file_commands.specs.Counts.{one_if, openings_noted}
use Rattle.whole_files.specs.declared.whole.WholeFault.{WholeFault}
use Rattle.whole_files.specs.declared.whole.WholeFault.TheVariants as whole
use Rattle.whole_files.specs.Claims.{raised_by, is_missing, Fits, WholeCause}
use Rattle.nova_machine.specs.Machine.{MachineState}
use Rattle.command_session.specs.Doing.{AllClosings, AreRefusalOf}
use Rattle.command_words.specs.declared.options.Options.{Options}
use Rattle.program_start.specs.declared.word_files.Refusal.{Refusal}
use Rattle.program_start.specs.declared.word_files.Refusal.TheVariants.{Unopened, BadKeys, OutOfMemory}
use Rattle.program_start.specs.declared.word_files.Beginning.{Beginning}
use Rattle.command_words.specs.Words.{options_of, keys_name, script_name}

-- The file of that name was not read, with these notes: it is not there; or the one note that is of no closing is of a call
-- on it; or it was opened, which gave an id, and is too long.
abbrev pub NotRead : Bool → Subject → List ℕ → List FaultNote → FileState → FileState → Type 0
NotRead tells whose name notes old new =
    (AllClosings notes × WholeCause tells name (Err whole.NoFile) old new)
    ⊎ AreRefusalOf whose notes
    ⊎ (AllClosings notes × WholeCause tells name (Err whole.TooLong) old new)

-- the same of a file, if it is named
abbrev pub NamedNotRead : Bool → Subject → Option (List ℕ) → List FaultNote → FileState → FileState → Type 0
NamedNotRead tells whose named notes old new = (name : List ℕ) × (named ≡ Some name) × NotRead tells whose name notes old new

-- how many ids an opening of the keys file gives, which comes before that of the script: none where none is named
abbrev pub keys_ids : Option ℕ → ℕ
keys_ids None = 0
keys_ids (Some place) = 1

-- a state once so many more ids were given
abbrev pub behind_ids : ℕ → FileState → FileState
behind_ids ids s = record s { given = s.given + ids }

-- the keys file was not read, or the script, behind the id that the keys file took
abbrev pub WordsNotRead : Bool → List (List ℕ) → Options → List FaultNote → FileState → FileState → Type 0
WordsNotRead tells words options notes old new =
    NamedNotRead tells subject.Keys (keys_name words options) notes old new
    ⊎ NamedNotRead tells subject.Script (script_name words options) notes (behind_ids (keys_ids options.keys) old) new

-- status 101 comes only where that is so
pub record IsUnopened (tells : Bool) (words : List (List ℕ)) (notes : List FaultNote) (old new : FileState) : Type 0 where
  pub options : Options
  pub words_are : options_of words ≡ Some options
  pub unread : WordsNotRead tells words options notes old new

-- a file is not too long, if it is named
abbrev pub NamedFits : Bool → Option (List ℕ) → FileState → Type 0
NamedFits tells named s = IfSome named (λ name. Fits tells name s)

-- Status 103 comes in place of 101 for no file that was opened and is too long. Each opening gives one id: where one was
-- given, the keys file is not too long; and where more were given than that of the keys file, the script was opened, and is
-- not too long. Where there is a machine, neither of them is.
pub record AreMeasured (tells : Bool) (words : List (List ℕ)) (machine : Option MachineState) (old new : FileState) : Type 0 where
  pub options : Options
  pub words_are : options_of words ≡ Some options
  pub keys : old.given < new.given → NamedFits tells (keys_name words options) old
  pub script : old.given + keys_ids options.keys < new.given → NamedFits tells (script_name words options) old
  pub session : IsSome machine → NamedFits tells (keys_name words options) old × NamedFits tells (script_name words options) old

-- A file was opened, and these bytes of it are what was read: they are no keys file, and the first of their lines that is
-- none of one begins at that place.
pub record ReadsNoKeys (place : ℕ) (old new : FileState) : Type 0 where
  pub was_opened : old.given < new.given
  pub bytes : List ℕ
  pub faulty : keys_read bytes ≡ Err place

-- status 105 comes only where that is so
abbrev pub HasNoKeys : FileState → FileState → Type 0
HasNoKeys old new = (place : ℕ) × ReadsNoKeys place old new

-- ---- the parts

-- the notes of a reading: those of closings, and where a call failed before, that one
abbrev pub NotedAs : Subject → Result (Vec ℕ) WholeFault → List FaultNote → Type 0
NotedAs whose (Err whole.Failed) notes = AreRefusalOf whose notes
NotedAs whose bytes notes = AllClosings notes

-- Why the reading of a word's file answers so. The count of openings has risen by just as many as the notes of openings are,
-- and by one more where the file is missing of files that tell nothing.
pub record WordCause (tells : Bool) (whose : Subject) (name : List ℕ) (bytes : Result (Vec ℕ) WholeFault) (kept kept' : List FaultNote) (old new : FileState) : Type 0 where
  pub more : List FaultNote
  pub added : kept' ≡ kept ++ more
  pub noted : NotedAs whose bytes more
  pub openings : new.open_faults ≡ raised_by (one_if (is_missing bytes && not tells) + openings_noted more) old.open_faults
  pub cause : WholeCause tells name bytes old new

-- what is answered by what was read: a file that was read is not refused as one that was not, and as no keys file only by
-- its bytes
abbrev pub AnswersRead : {T : Type 0} → Result (Vec ℕ) WholeFault → Result T Refusal → Type 0
AnswersRead (Ok bytes) (Err (Unopened place)) = ⊥
AnswersRead (Ok bytes) (Err (BadKeys place)) = keys_read bytes.items ≡ Err place
AnswersRead (Ok bytes) result = Unit {0}
AnswersRead (Err whole.OutOfMemory) (Err OutOfMemory) = Unit {0}
AnswersRead (Err whole.OutOfMemory) result = ⊥
AnswersRead (Err why) (Err (Unopened place)) = Unit {0}
AnswersRead (Err why) result = ⊥

-- why the keys or the script were not taken
abbrev pub TakesCause : {T : Type 0} → Bool → Subject → Option (List ℕ) → Result T Refusal → List FaultNote → List FaultNote → FileState → FileState → Type 0
TakesCause tells whose None (Ok value) kept kept' old new = new.given ≡ old.given
TakesCause tells whose None (Err refusal) kept kept' old new = ⊥
TakesCause tells whose (Some name) (Ok value) kept kept' old new = Fits tells name old
TakesCause tells whose (Some name) (Err (Unopened place)) kept kept' old new = (more : List FaultNote) × (kept' ≡ kept ++ more) × NotRead tells whose name more old new
TakesCause tells whose (Some name) (Err (BadKeys place)) kept kept' old new = ReadsNoKeys place old new
TakesCause tells whose (Some name) (Err OutOfMemory) kept kept' old new = old.given < new.given → Fits tells name old

-- why the program does not begin, or begins, by the files of its words
abbrev pub BeginsCause : Bool → List (List ℕ) → Options → Result Beginning Refusal → List FaultNote → FileState → FileState → Type 0
BeginsCause tells words options (Ok beginning) notes old new = NamedFits tells (keys_name words options) old × NamedFits tells (script_name words options) old
BeginsCause tells words options (Err (Unopened place)) notes old new = WordsNotRead tells words options notes old new
BeginsCause tells words options (Err (BadKeys place)) notes old new = ReadsNoKeys place old new
BeginsCause tells words options (Err OutOfMemory) notes old new =
    (old.given < new.given → NamedFits tells (keys_name words options) old)
    × (old.given + keys_ids options.keys < new.given → NamedFits tells (script_name words options) old)
