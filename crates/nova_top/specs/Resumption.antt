-- A program in which a saved session was restored goes on from there as that session, and as the program goes on that has
-- saved it.
use Rattle.std.specs.Prelude.{◌≡◌, ℕ, ◌+◌, Bool, IsTrue, List, ◌++◌, drop, Option}
use Rattle.observations.specs.Observations.{Observation, text_of, reads_of, sent_of}
use Rattle.host_lines.specs.Traffic.{Answer as LineAnswer}
use Rattle.host_lines.specs.Told.{ahead_of}
use Rattle.file_commands.specs.Notes.{Note}
use Rattle.expect_actions.specs.KeysFile.{Key}
use Rattle.unit_trait.specs.Calls.{UnitState}
use Rattle.nova_machine.specs.Machine.{MachineState}
use Rattle.nova_machine.specs.LineChanges.{heard_with, HearsOn}
use Rattle.command_session.specs.Live.{Live, Beyond}
use Rattle.scp_script.specs.Session.{State, Session, NothingSaid, Over, asking, step, trace, ComesTo}
use Rattle.script_laws.specs.Resumption.{RestoresSaved, resumed}
use Rattle.command_words.specs.declared.options.Options.{Options}
use Rattle.command_words.specs.Words.{options_of}
use Rattle.program_start.specs.Start.{Begins, start_of}
use Rattle.nova_top.specs.Outside.{opening, left_by}
use Rattle.nova_top.specs.Ends.{left_at}
use Rattle.nova_top.specs.Valid.{AreHandedBytes}

-- the session that the program begins comes to this one, with these observations
pub record Reaches (units : List UnitState) (words : List (List ℕ)) (input : List ℕ) (old : Beyond) (notes : List Note) (front : List (Observation State)) (at : Session) : Type 0 where
  pub options : Options
  pub keys : List Key
  pub script : Option (List ℕ)
  pub used : ℕ
  pub count : ℕ
  pub starts : start_of (options_of words) words old.files notes ≡ (Begins options keys script, used)
  pub comes : ComesTo count (opening units words options keys script old.files (ahead_of old.lines.told old.whole) input (drop used notes)) front at

-- The program's session came to a text in which something beside the disk has changed the disk's file, with the first of the
-- notes that were kept, and with what lines record in the end; where these tell nothing, with what they recorded up to there. All
-- up to there was printed and read, and sent where lines tell theirs, and nothing is said of what came behind that.
pub record SaysNoMore (tells : Bool) (units : List UnitState) (words : List (List ℕ)) (input left before after : List ℕ) (old new : Beyond) (notes : List Note) : Type 0 where
  pub own : List Note
  pub later : List Note
  pub kept : notes ≡ own ++ later
  pub recorded : List LineAnswer
  pub same : IsTrue tells → recorded ≡ old.whole
  pub front : List (Observation State)
  pub at : Session
  pub reaches : Reaches units words input (record old { whole = recorded }) own front at
  pub state : State
  pub last : (step at).next ≡ Over NothingSaid state
  pub more : List ℕ
  pub printed : after ≡ before ++ (text_of (front ++ (step at).made) ++ more)
  pub heard : IsTrue tells → HearsOn (heard_with old.lines.sent (sent_of (front ++ (step at).made))) new.lines.sent
  pub made : ℕ
  pub rest : left ≡ drop (reads_of (front ++ (step at).made) + made) input

-- Behind its first part the program ends as the session t does: its status, its machine with its lines, what is still to come
-- on these and all files, and what is left of the input are those that t leaves, and what is printed and sent from there on is
-- what t prints and sends.
pub record EndsAsThat (t : Session) (front : List (Observation State)) (left before after : List ℕ) (old new : Beyond) (status : ℕ) (machine : Option MachineState) : Type 0 where
  pub status_is : status ≡ (trace t).ended.status
  pub is : left_at machine new ≡ left_by (trace t).ended.state
  pub rest : left ≡ drop (reads_of (trace t).made) t.input
  pub printed : after ≡ before ++ (text_of front ++ text_of (trace t).made)
  pub heard : new.lines.sent ≡ heard_with old.lines.sent (sent_of front ++ sent_of (trace t).made)

-- Wherever the program comes to a RESTORE that is done while no action waits and no script is open, and whose file has the
-- text, in either version, of a session that was saved with units of the same kinds, all from there on is as the definition of
-- a session has it that begins at that one. The rest of the input, the budget, the limit of a run, the prompt, the keys and
-- what is to come on lines, less the listenings on the ports of that one, are the present ones. What was handed in is of
-- bytes, as all is that a program can be handed.
abbrev pub ResumesSaved : List UnitState → List (List ℕ) → List ℕ → List ℕ → List ℕ → List ℕ → Beyond → Beyond → ℕ → Option MachineState → List Note → Type 0
ResumesSaved units words input left before after old new status machine notes =
    (front : List (Observation State)) (at behind : Session) (s : Live) (used : ℕ) → AreHandedBytes words input old.files (ahead_of old.lines.told old.whole)
    → Reaches units words input old notes front at → RestoresSaved at behind s used
    → EndsAsThat (resumed s used behind) (front ++ asking at) left before after old new status machine
