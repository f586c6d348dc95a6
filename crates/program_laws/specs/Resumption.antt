-- Two programs, one of which saves a session that the other one restores, go on alike.
use Rattle.std.specs.Prelude.{◌≡◌, ◌≢◌, ℕ, List, ◌++◌, Option}
use Rattle.observations.specs.Observations.{Observation, text_of, sent_of}
use Rattle.host_lines.specs.Told.{ahead_of}
use Rattle.file_commands.specs.Notes.{Note}
use Rattle.unit_trait.specs.Calls.{UnitState}
use Rattle.nova_machine.specs.Machine.{MachineState}
use Rattle.nova_machine.specs.LineChanges.{heard_with}
use Rattle.command_session.specs.Live.{Beyond}
use Rattle.scp_script.specs.Session.{State, Session, asking}
use Rattle.script_laws.specs.Resumption.{SavedAndRestored}
use Rattle.command_words.specs.Standard.{IsStandard}
use Rattle.nova_top.specs.Ends.{IsOutcome, left_at}
use Rattle.nova_top.specs.Valid.{AreHandedBytes}
use Rattle.nova_top.specs.Resumption.{Reaches, ResumesSaved}

-- what was handed to a program, and what it came to
pub record Ran : Type 0 where
  pub units : List UnitState
  pub words : List (List ℕ)
  pub input : List ℕ
  pub left : List ℕ
  pub before : List ℕ
  pub after : List ℕ
  pub old : Beyond
  pub new : Beyond
  pub status : ℕ
  pub machine : Option MachineState
  pub notes : List Note

-- it was handed standard units and bytes, it ended as the definition says, with memory, and neither console nor input failed
pub record IsRun (r : Ran) : Type 0 where
  pub standard : IsStandard r.units
  pub handed : AreHandedBytes r.words r.input r.old.files (ahead_of r.old.lines.told r.old.whole)
  pub outcome : IsOutcome r.units r.words r.input r.left r.before r.after r.old r.new r.status r.machine r.notes
  pub no_byte : r.status ≢ 102
  pub no_read : r.status ≢ 106

-- Two programs end alike behind their first parts: by the same status, with the same machine and its lines, the same files,
-- and the same left of the input and of what comes on lines; and what both print and send is the same.
pub record EndAlike (front begin : List (Observation State)) (one other : Ran) : Type 0 where
  pub statuses : one.status ≡ other.status
  pub states : left_at one.machine one.new ≡ left_at other.machine other.new
  pub rests : one.left ≡ other.left
  pub added : List ℕ
  pub first : one.after ≡ one.before ++ (text_of front ++ added)
  pub second : other.after ≡ other.before ++ (text_of begin ++ added)
  pub sent : List (ℕ × ℕ)
  pub first_heard : one.new.lines.sent ≡ heard_with one.old.lines.sent (sent_of front ++ sent)
  pub second_heard : other.new.lines.sent ≡ heard_with other.old.lines.sent (sent_of begin ++ sent)

pub record RestoredProgramsGoOn : Type 0 where
  -- a program that restores a saved session
  pub restored : (r : Ran) → IsRun r → ResumesSaved r.units r.words r.input r.left r.before r.after r.old r.new r.status r.machine r.notes
  -- one that saves a session between two commands and goes on, and one that restores it with the same outside, end alike
  pub alike : (one other : Ran) (front begin : List (Observation State)) (saving behind restoring present : Session) (name : List ℕ) (used : ℕ) → IsRun one → IsRun other
      → Reaches one.units one.words one.input one.old one.notes front saving → Reaches other.units other.words other.input other.old other.notes begin restoring
      → SavedAndRestored saving behind restoring present name used → EndAlike (front ++ asking saving) (begin ++ asking restoring) one other
