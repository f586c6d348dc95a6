-- The files that the words name, and a text that refuses them.
use Rattle.std.specs.Prelude.{◌≡◌, ◌⊎◌, ℕ, ◌<◌, List, [], ◌∷◌, ◌++◌, length, get_or, map, Option, Some, None, IfSome, IsSome, false, Result, Ok, Err, Bool, IsTrue}
use Rattle.std.specs.Global.{Vec}
use Rattle.fault_counts.specs.Faults.{raised}
use Rattle.observations.specs.declared.exit_status.ExitStatus.TheVariants as exits
use Rattle.observations.specs.Status.{number_of}
use Rattle.file_traits.specs.declared.files.FileCall.{FileCall}
use Rattle.file_traits.specs.Lists.{NamedBytes}
use Rattle.file_traits.specs.Streams.{AddsPart}
use Rattle.file_commands.specs.declared.note.FaultNote.{FaultNote}
use Rattle.file_commands.specs.declared.note.Subject.{Subject}
use Rattle.file_commands.specs.Notes.{Note, Follow, notes_said}
use Rattle.file_commands.specs.Counts.{AreCounted, AreExact}
use Rattle.whole_files.specs.declared.whole.FailedCall.{FailedCall}
use Rattle.whole_files.specs.declared.whole.WholeFault.{WholeFault}
use Rattle.whole_files.specs.Whole.{WholeSaid, whole_act}
use Rattle.whole_files.specs.Claims.{said_of_bytes}
use Rattle.command_words.specs.declared.options.Options.{Options}
use Rattle.program_start.specs.declared.word_files.Refusal.{Refusal}
use Rattle.program_start.specs.declared.word_files.Refusal.TheVariants.{Unopened, BadKeys, OutOfMemory}
use Rattle.program_start.specs.declared.word_files.Beginning.{Beginning}
use Rattle.program_start.specs.Start.{Denial, unopened, bad_keys_text, calls_on, Start, Begins, denied, start_of}
use Rattle.std.specs.List.{AllByRecursion}
use Rattle.file_traits.specs.declared.files.FileCall.TheVariants.{Closing}
use Rattle.file_traits.specs.State.{FileState}

-- With these notes, before any of later commands, the program starts so, and uses them.
abbrev pub StartsWith : List (List ℕ) → Options → List NamedBytes → List Note → Start → Type 0
StartsWith words options files kept start = (more : List Note) → Follow 0 more → start_of (Some options) words files (kept ++ more) ≡ (start, length kept)

-- notes of closings of the files that the words name, which are before the first command
abbrev pub AreWordClosings : List Note → Type 0
AreWordClosings notes =
    AllByRecursion (λ (n : Note). (n.command ≡ 0) × (n.note.time ≡ 0) × (n.note.failure.call ≡ Closing)) notes

-- files tell where the words name one
unfoldable pub NamesTold : Bool → Options → Type 0
NamesTold files options = IsSome options.keys ⊎ IsSome options.script → IsTrue files

-- ---- the files of the words

-- the note of a failing call on the file of that subject
abbrev pub word_note : Subject → FailedCall → FaultNote
word_note whose f = record { command = 0; time = 0; subject = whose; file = f.file; call = f.call; done = 0 }

abbrev pub noted_call : Subject → Option FailedCall → List FaultNote
noted_call whose None = []
noted_call whose (Some f) = word_note whose f ∷ []

-- what the notes of these calls say
abbrev pub word_notes : Subject → List FileCall → List Note
word_notes whose calls = map (λ (call : FileCall). record { command = 0; note = record { time = 0; subject = whose; failure = record { call = call; done = 0 } } }) calls

-- notes were kept of closings alone
pub record AddsClosings (kept kept' : List FaultNote) : Type 0 where
  pub more : List FaultNote
  pub added : kept' ≡ kept ++ more
  pub are : AreWordClosings (notes_said more)

-- The notes that were kept are those of calls that failed: for each file there are just as many as its count rose, and of
-- openings there are at most as many.
pub record AddsNoted (kept kept' : List FaultNote) (old new : FileState) : Type 0 where
  pub more : List FaultNote
  pub added : kept' ≡ kept ++ more
  pub counted : AreCounted more old new
  pub exact : AreExact false more old new

-- the file of that name was read, with the notes that were kept in that
pub record ReadsFile (whose : Subject) (name : List ℕ) (files : List NamedBytes) (kept kept' : List FaultNote) (bytes : Result (Vec ℕ) WholeFault) : Type 0 where
  pub calls : List FileCall
  pub added : notes_said kept' ≡ notes_said kept ++ word_notes whose calls
  pub said : IfSome (said_of_bytes bytes) (λ said. whole_act calls name files ≡ (said, length calls))

-- by what a refusal is answered, but where memory ran out
abbrev pub denial_of : List (List ℕ) → Refusal → Option Denial
denial_of words (Unopened place) = Some (unopened (get_or words place []))
denial_of words (BadKeys place) = Some (record { status = number_of exits.BadKeys; text = bad_keys_text place })
denial_of words OutOfMemory = None

-- what comes of what was read of a file
abbrev pub ComesOf : {T : Type 0} → List (List ℕ) → (WholeSaid → Result T Denial) → Option WholeSaid → Result T Refusal → Type 0
ComesOf words from (Some said) (Ok value) = from said ≡ Ok value
ComesOf words from (Some said) (Err refusal) = IfSome (denial_of words refusal) (λ denial. from said ≡ Err denial)
ComesOf words from None (Ok value) = ⊥
ComesOf words from None (Err refusal) = denial_of words refusal ≡ None

-- the same was taken, and used so many notes
abbrev pub IsTaken : {T : Type 0} → List (List ℕ) → Result T Refusal → Result T Denial × ℕ → ℕ → Type 0
IsTaken words (Ok value) taken used = taken ≡ (Ok value, used)
IsTaken words (Err refusal) taken used = IfSome (denial_of words refusal) (λ denial. taken ≡ (Err denial, used))

-- The keys or the script were taken with the notes that were kept in that, whatever comes behind that is no failing call on
-- that file.
pub record Takes {T : Type 0} (whose : Subject) (words : List (List ℕ)) (act : List Note → Result T Denial × ℕ) (kept kept' : List FaultNote) (result : Result T Refusal) : Type 0 where
  pub calls : List FileCall
  pub added : notes_said kept' ≡ notes_said kept ++ word_notes whose calls
  pub taken : (more : List Note) → calls_on whose more ≡ [] → IsTaken words result (act (word_notes whose calls ++ more)) (length calls)

-- no file was refused: all is there, or memory ran out
abbrev pub IsWant : Refusal → Type 0
IsWant OutOfMemory = Unit {0}
IsWant refusal = ⊥

abbrev pub IsUnrefused : {T : Type 0} → Result T Refusal → Type 0
IsUnrefused (Ok value) = Unit {0}
IsUnrefused (Err refusal) = IsWant refusal

-- a file that was refused is that of a word, and named by the words
abbrev pub RefusalCause : List (List ℕ) → Options → Refusal → Type 0
RefusalCause words options (Unopened place) = (place < length words) × (IsSome options.keys ⊎ IsSome options.script)
RefusalCause words options (BadKeys place) = IsSome options.keys
RefusalCause words options OutOfMemory = Unit {0}

-- ---- the start

-- how the program begins, or by what it refuses that
abbrev pub BeginsAs : List (List ℕ) → Options → List NamedBytes → List Note → Result Beginning Refusal → Type 0
BeginsAs words options files kept (Ok b) = StartsWith words options files kept (Begins options b.keys b.script)
BeginsAs words options files kept (Err refusal) = IfSome (denial_of words refusal) (λ denial. StartsWith words options files kept (denied denial))

-- ---- what comes of it

-- the text was printed, with that status, or the console refused a byte of it
abbrev pub IsRefused : ℕ → List ℕ → ℕ → List ℕ → List ℕ → Type 0
IsRefused status_there text status before after = ((status ≡ status_there) × (after ≡ before ++ text)) ⊎ ((status ≡ number_of exits.Console) × AddsPart before text after)

abbrev pub RefusedCause : ℕ → ℕ → ℕ → ℕ → Type 0
RefusedCause status_there status sink sink_now = ((status ≡ status_there) × (sink_now ≡ sink)) ⊎ ((status ≡ number_of exits.Console) × (sink_now ≡ raised sink))

-- the status behind a text that was printed, or not
abbrev pub status_printed : {T E : Type 0} → Result T E → ℕ → ℕ
status_printed (Ok _) status = status
status_printed (Err _) status = number_of exits.Console

-- a file was refused by its text; nothing is printed where memory ran out
abbrev pub IsDenied : Option Denial → ℕ → List ℕ → List ℕ → Type 0
IsDenied (Some denial) status before after = IsRefused denial.status denial.text status before after
IsDenied None status before after = (status ≡ number_of exits.OutOfMemory) × (after ≡ before)

abbrev pub DeniedCause : Option Denial → ℕ → ℕ → ℕ → Type 0
DeniedCause (Some denial) status sink sink_now = RefusedCause denial.status status sink sink_now
DeniedCause None status sink sink_now = (status ≡ number_of exits.OutOfMemory) × (sink_now ≡ sink)
