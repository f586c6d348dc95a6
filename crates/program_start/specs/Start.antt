-- How the program starts: what is read of the files that the words name, and the texts that refuse it.
use Rattle.std.specs.Prelude.{ℕ, ◌+◌, ◌==◌, ◌&&◌, Bool, List, [], ◌∷◌, ◌++◌, codes, decimal, drop, map, take_while, Option, Some, None, Result, Ok, Err}
use Rattle.observations.specs.declared.exit_status.ExitStatus.TheVariants as exits
use Rattle.observations.specs.Status.{number_of}
use Rattle.file_traits.specs.declared.files.FileCall.{FileCall}
use Rattle.file_traits.specs.Lists.{NamedBytes}
use Rattle.file_commands.specs.declared.note.Subject.{Subject}
use Rattle.file_commands.specs.declared.note.Subject.TheVariants as subject
use Rattle.file_commands.specs.Notes.{CommandNote, Note, same_subject, handed}
use Rattle.whole_files.specs.Whole.{WholeSaid, WholeIs, whole_act}
use Rattle.expect_actions.specs.KeysFile.{Key, keys_read}
use Rattle.command_words.specs.declared.options.Options.{Options}
use Rattle.program_start.specs.Workload.{first_text}
use Rattle.command_words.specs.Words.{keys_name, script_name}

-- ---- the texts of words, names and keys files that are none

abbrev pub usage_text : List ℕ
usage_text = codes "usage: nova [-q] [-k keys] [-l instructions] [-m commands] [-g number] [script [arguments]]" ++ 10 ∷ []

abbrev pub unopened_text : List ℕ → List ℕ
unopened_text name = codes "Cannot open " ++ name ++ 10 ∷ []

abbrev pub bad_keys_text : ℕ → List ℕ
bad_keys_text place = codes "Bad keys file at " ++ decimal place ++ 10 ∷ []

-- ---- the files of the words

-- a failing call on the file of that subject: it comes at time 0, before the first command
abbrev pub is_call_on : Subject → CommandNote → Bool
is_call_on whose n = (n.time == 0) && same_subject n.subject whose

-- those of them that stand first
abbrev pub calls_on : Subject → List Note → List FileCall
calls_on whose notes = map (λ (n : CommandNote). n.failure.call) (take_while (is_call_on whose) (handed 0 notes))

-- what is read of the file of a word, and how many notes that uses
abbrev pub word_file : Subject → List ℕ → List NamedBytes → List Note → WholeSaid × ℕ
word_file whose name files notes = whole_act (calls_on whose notes) name files

-- why there is no session: a status and its text
pub record Denial : Type 0 where
  pub status : ℕ
  pub text : List ℕ

abbrev pub unopened : List ℕ → Denial
unopened name = record { status = number_of exits.Unopened; text = unopened_text name }

abbrev pub or_bad_keys : Result (List Key) ℕ → Result (List Key) Denial
or_bad_keys (Ok keys) = Ok keys
or_bad_keys (Err place) = Err (record { status = number_of exits.BadKeys; text = bad_keys_text place })

-- the keys of a keys file, by what was read of it
abbrev pub keys_from : List ℕ → WholeSaid → Result (List Key) Denial
keys_from name (WholeIs bytes) = or_bad_keys (keys_read bytes)
keys_from name said = Err (unopened name)

-- the keys, without a keys file none, and how many notes their taking uses
abbrev pub taken_keys : Option (List ℕ) → List NamedBytes → List Note → Result (List Key) Denial × ℕ
taken_keys None files notes = (Ok [], 0)
taken_keys (Some name) files notes = let read = word_file subject.Keys name files notes in (keys_from name read.0, read.1)

-- the text of a script, by what was read of it
abbrev pub script_from : List ℕ → WholeSaid → Result (Option (List ℕ)) Denial
script_from name (WholeIs text) = Ok (Some text)
script_from name said = Err (unopened name)

-- the script, where there is one, and how many notes its taking uses
abbrev pub taken_script : Option (List ℕ) → List NamedBytes → List Note → Result (Option (List ℕ)) Denial × ℕ
taken_script None files notes = (Ok None, 0)
taken_script (Some name) files notes = let read = word_file subject.Script name files notes in (script_from name read.0, read.1)

-- ---- how it starts

-- a text with a status, or a session with those keys and that script
pub data Start : Type 0 where
  Refused : ℕ → List ℕ → Start
  Begins : Options → List Key → Option (List ℕ) → Start

abbrev pub denied : Denial → Start
denied d = Refused d.status d.text

-- The keys come first, and the script is taken where they were. Where there is a workload, its commands are the script.
abbrev pub start_by : Options → Result (List Key) Denial × ℕ → Result (Option (List ℕ)) Denial × ℕ → Start × ℕ
start_by options (Err denial, used) script = (denied denial, used)
start_by options (Ok keys, used) (Err denial, more) = (denied denial, used + more)
start_by options (Ok keys, used) (Ok script, more) = (Begins options keys (first_text options.workload script), used + more)

-- how it starts, and how many of the notes that uses: first the keys', and then the script's
abbrev pub start_of : Option Options → List (List ℕ) → List NamedBytes → List Note → Start × ℕ
start_of None words files notes = (Refused (number_of exits.Usage) usage_text, 0)
start_of (Some options) words files notes =
    let keys = taken_keys (keys_name words options) files notes in
    start_by options keys (taken_script (script_name words options) files (drop keys.1 notes))

-- ---- what it does
