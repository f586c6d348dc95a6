-- A session in which a saved one was restored goes on as that one, and as the one goes on that was saved.
use Rattle.std.specs.Prelude.{◌≡◌, ◌≢◌, ℕ, suc, ◌≤◌, Bool, List, [], ◌++◌, drop, None, Ok}
use Rattle.std.specs.List.{AllByRecursion}
use Rattle.file_traits.specs.Lists.{NamedBytes}
use Rattle.observations.specs.Observations.{Observation, text_of, sent_of}
use Rattle.file_commands.specs.Notes.{handed}
use Rattle.nova_machine.specs.Comes.{Output}
use Rattle.nova_machine.specs.LineChanges.{heard_with}
use Rattle.nova_machine.specs.Valid.{DiskIsItsFile}
use Rattle.scp_parser.specs.Command.{Save, Restore}
use Rattle.command_session.specs.Live.{Live}
use Rattle.command_session.specs.DiskFile.{disk_alone}
use Rattle.state_commands.specs.StateEffects.{flushed_with}
use Rattle.command_session.specs.Asked.{asked}
use Rattle.command_laws.specs.Resumption.{left_by_save, ahead_behind, ports_saved, continued, HasNobody, HaveLengths, HoldsSaved, HaveSameKinds, IsRestored}
use Rattle.scp_script.specs.declared.progress.Finish.{Finish}
use Rattle.scp_script.specs.declared.progress.Finish.TheVariants.{Exit, Console, Input, OutOfMemory}
use Rattle.session_texts.specs.Actions.{texts_of}
use Rattle.scp_script.specs.Session.{State, Session, Going, Comes, upcoming, asking, rested, going_on, step, course, trace, ComesTo}
use Rattle.script_laws.specs.Valid.{ValidSession}
use Rattle.script_laws.specs.Core.{SameCore, NoneFails, after_all}
use Rattle.scp_script.specs.Loop.{EndsAs}
use Rattle.scp_script.specs.Perform.{IsPerformed}

-- ---- sessions of one core, as calls perform them

-- the console has refused no byte, no read of the input has failed, and memory did not run out
abbrev pub IsFaultless : Finish → Type 0
IsFaultless (Exit status) = status ≤ 99
IsFaultless Console = ⊥
IsFaultless Input = ⊥
IsFaultless OutOfMemory = ⊥
IsFaultless finish = Unit {0}

-- two calls came to the same: the finish, the state, the rest of the input, what was printed, and what was sent
pub record SameFinish (finish other : Finish) (x y : Live) (rest left : List ℕ) (before after front behind : Output) : Type 0 where
  pub finishes : finish ≡ other
  pub states : x ≡ y
  pub rests : rest ≡ left
  pub added : List ℕ
  pub one : after.console ≡ before.console ++ added
  pub two : behind.console ≡ front.console ++ added
  pub sent : List (ℕ × ℕ)
  pub one_heard : after.heard ≡ heard_with before.heard sent
  pub two_heard : behind.heard ≡ heard_with front.heard sent

-- Calls that perform sessions of one core come to the same, where no call on a file fails, whatever was printed and sent
-- before, and however many units were spent.
abbrev pub SameCoreSameFinish : Type 0
SameCoreSameFinish =
    (s t : Session) (finish other : Finish) (x y : Live) (rest left : List ℕ) (before after front behind : Output) → SameCore s t → NoneFails s → NoneFails t
    → IsFaultless finish → IsFaultless other → IsPerformed s finish x rest before after → IsPerformed t other y left front behind
    → SameFinish finish other x y rest left before after front behind

-- ---- a session that is restored

-- The next text of a session is a RESTORE of that file, which is done and uses so many notes. No action waits and no script
-- is open behind it.
pub record Restores (at behind : Session) (force : Bool) (name : List ℕ) (used : ℕ) : Type 0 where
  pub line : List ℕ
  pub comes : upcoming at ≡ Comes line behind
  pub command : asked line ≡ Ok (Restore force name)
  pub alone : behind.texts ≡ texts_of [] []
  pub done : IsRestored behind.limit (handed behind.spent behind.notes) behind.live force name used

-- Its file has the text of what was saved of the session s, when the files were those, in either version; the files are those
-- of s, and the machine has units of the same kinds.
pub record RestoresSaved (at behind : Session) (s : Live) (used : ℕ) : Type 0 where
  pub force : Bool
  pub name : List ℕ
  pub then_files : List NamedBytes
  pub restores : Restores at behind force name used
  pub holds : HoldsSaved behind.live.files then_files name s
  pub files : behind.live.files ≡ s.files
  pub kinds : HaveSameKinds behind.live s

-- The session s goes on: the rest of the input, the budget, the limit of a run, the prompt, the keys and what is still to
-- come on lines are the present ones, and so are the calls on files that are still to fail.
abbrev pub resumed : Live → ℕ → Session → Session
resumed s used behind = record behind { live = continued s behind.live; notes = drop used behind.notes }

-- From there on all is as that session has it: by what it is over, what is printed and sent, and what it leaves.
pub record GoesOnAs (t : Session) (front : List (Observation State)) (status : ℕ) (before after : Output) (state : State) : Type 0 where
  pub status_is : status ≡ (trace t).ended.status
  pub printed : after.console ≡ before.console ++ (text_of front ++ text_of (trace t).made)
  pub heard : after.heard ≡ heard_with before.heard (sent_of front ++ sent_of (trace t).made)
  pub state_is : state ≡ (trace t).ended.state

pub record RestoredGoesOn : Type 0 where
  -- such a RESTORE leaves that session
  pub text : (at behind : Session) (s : Live) (used : ℕ) → ValidSession at → RestoresSaved at behind s used → step at ≡ record { made = asking at; next = Going (resumed s used behind) }
  -- so wherever a session comes to one, it comes to that session
  pub comes : (count : ℕ) (start at behind : Session) (s : Live) (used : ℕ) (front : List (Observation State)) → ValidSession start → ComesTo count start front at → RestoresSaved at behind s used
      → ComesTo (suc count) start (front ++ asking at) (resumed s used behind)
  -- and what it does from there on is what that session does
  pub all : (count : ℕ) (start at behind : Session) (s : Live) (used : ℕ) (front : List (Observation State)) → ValidSession start → ComesTo count start front at → RestoresSaved at behind s used
      → course start ≡ after_all (front ++ asking at) (course (resumed s used behind))
  -- with any console and input that refuse nothing
  pub ended : (count : ℕ) (start at behind : Session) (s : Live) (used : ℕ) (front : List (Observation State)) (status gives made : ℕ) (before after : Output) (state : State)
      → ValidSession start → ComesTo count start front at → RestoresSaved at behind s used → EndsAs (trace start) status gives made before after state → status ≢ 102 → status ≢ 106
      → GoesOnAs (resumed s used behind) (front ++ asking at) status before after state

-- ---- a session that was saved, and goes on

-- The next text of a session is a SAVE of that file. No action waits and no script is open behind it, and no call on a file
-- fails from there on.
pub record Saves (at behind : Session) (name : List ℕ) : Type 0 where
  pub line : List ℕ
  pub comes : upcoming at ≡ Comes line behind
  pub command : asked line ≡ Ok (Save name)
  pub alone : behind.texts ≡ texts_of [] []
  pub none : NoneFails behind

-- the session that goes on behind it
abbrev pub behind_save : List ℕ → Session → Session
behind_save name behind = rested (record behind { live = left_by_save name behind.live })

-- A session that was saved and one into which it is restored have units of the same kinds, and the same files, keys, rest of
-- the input, budget, limit of a run and prompt; and what is still to come on lines is the same, less the listenings on the ports
-- that were saved.
pub record HasSameOutside (saved present : Session) : Type 0 where
  pub kinds : HaveSameKinds present.live saved.live
  pub files : present.live.files ≡ saved.live.files
  pub keys : present.live.keys ≡ saved.live.keys
  pub ahead : ahead_behind (ports_saved saved.live) present.live.ahead ≡ saved.live.ahead
  pub limit : present.limit ≡ saved.limit
  pub budget : present.budget ≡ saved.budget
  pub reads : present.reads ≡ saved.reads
  pub prompt : present.prompt ≡ saved.prompt
  pub input : present.input ≡ saved.input
  pub open_ : present.open_ ≡ saved.open_

-- One session does a SAVE while nobody is connected, and goes on; another does a RESTORE of that file with the same outside. Each
-- file is so short that its length can be told, and no call on a file fails in the second one from there on.
pub record SavedAndRestored (saving behind restoring present : Session) (name : List ℕ) (used : ℕ) : Type 0 where
  pub force : Bool
  pub saves : Saves saving behind name
  pub goes : (step saving).next ≡ Going (behind_save name behind)
  pub nobody : AllByRecursion HasNobody behind.live.lines
  pub lengths : HaveLengths (flushed_with None behind.live).files
  pub restores : Restores restoring present force name used
  pub none : NoneFails present
  pub outside : HasSameOutside (behind_save name behind) present

-- two sessions end alike behind their first parts: by the same status, in the same state, with the same printed and sent
pub record EndAlike (front begin : List (Observation State)) (status other : ℕ) (before after start end : Output) (x y : State) : Type 0 where
  pub statuses : status ≡ other
  pub states : x ≡ y
  pub added : List ℕ
  pub one : after.console ≡ before.console ++ (text_of front ++ added)
  pub two : end.console ≡ start.console ++ (text_of begin ++ added)
  pub sent : List (ℕ × ℕ)
  pub one_heard : after.heard ≡ heard_with before.heard (sent_of front ++ sent)
  pub two_heard : end.heard ≡ heard_with start.heard (sent_of begin ++ sent)

pub record SavedAndRestoredGoOnAlike : Type 0 where
  -- the SAVE is done, and the session goes on where the disk alone has changed its file in it
  pub saves : (at behind : Session) (name : List ℕ) → Saves at behind name
      → step at ≡ record { made = asking at; next = going_on (disk_alone behind.live (left_by_save name behind.live)) (behind_save name behind) }
  -- and so the RESTORE restores what was saved
  pub restores : (saving behind restoring present : Session) (name : List ℕ) (used : ℕ) → ValidSession saving → DiskIsItsFile saving.live → ValidSession restoring
      → SavedAndRestored saving behind restoring present name used → RestoresSaved restoring present (behind_save name behind).live used
  -- the cores are one, and no call fails on either side
  pub core : (saving behind restoring present : Session) (name : List ℕ) (used : ℕ) → SavedAndRestored saving behind restoring present name used
      → SameCore (behind_save name behind) (resumed (behind_save name behind).live used present)
  pub none : (saving behind restoring present : Session) (name : List ℕ) (used : ℕ) → SavedAndRestored saving behind restoring present name used
      → NoneFails (resumed (behind_save name behind).live used present)
  -- so both do the same from there on
  pub all : (saving behind restoring present : Session) (name : List ℕ) (used : ℕ) → SavedAndRestored saving behind restoring present name used
      → course (behind_save name behind) ≡ course (resumed (behind_save name behind).live used present)
  -- with any consoles and inputs that refuse nothing
  pub ended : (count many : ℕ) (start saving behind other restoring present : Session) (name : List ℕ) (used : ℕ) (front begin : List (Observation State))
      (status gives made status' gives' made' : ℕ) (before after before' after' : Output) (x y : State)
      → ValidSession start → DiskIsItsFile start.live → ValidSession other → ComesTo count start front saving → ComesTo many other begin restoring → SavedAndRestored saving behind restoring present name used
      → EndsAs (trace start) status gives made before after x → EndsAs (trace other) status' gives' made' before' after' y
      → status ≢ 102 → status ≢ 106 → status' ≢ 102 → status' ≢ 106
      → EndAlike (front ++ asking saving) (begin ++ asking restoring) status status' before after before' after' x y
