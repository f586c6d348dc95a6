-- What a whole session comes to, from its opening on.
use Rattle.std.specs.Prelude.{◌≡◌, ℕ, ◌≤◌, Bool, true, IsTrue, List, [], ◌++◌, ◌+◌, drop}
use Rattle.host_lines.specs.Traffic.{Answer as LineAnswer}
use Rattle.file_commands.specs.Notes.{Note}
use Rattle.command_session.specs.Live.{Live, CommandState, Beyond, live_in}
use Rattle.nova_machine.specs.Comes.{Output}
use Rattle.nova_machine.specs.LineChanges.{heard_with, HearsOn}
use Rattle.scp_script.specs.declared.perform_session.Opening.{Opening}
use Rattle.scp_script.specs.declared.progress.Finish.{Finish}
use Rattle.scp_script.specs.declared.progress.Finish.TheVariants.{OutOfMemory}
use Rattle.session_texts.specs.Lines.{reads_left}
use Rattle.session_texts.specs.Scripts.{Script, first_script}
use Rattle.session_texts.specs.Actions.{texts_of}
use Rattle.scp_script.specs.Session.{State, Session, NothingSaid, Over, asking, step, course, trace, ComesTo}
use Rattle.scp_script.specs.Loop.{EndsAs, LetsThrough, NamesEnd, status_of, StopsShort, MayFollow}
use Rattle.observations.specs.Observations.{Observation, text_of, reads_of, sent_of}

-- a session before its first text, with those scripts and no action, in which these calls on files fail
unfoldable pub beginning_with : CommandState → Beyond → Bool → Bool → ℕ → List Script → List ℕ → List Note → Session
beginning_with state beyond reads prompt budget scripts input notes = record {
  live = live_in state beyond;
  notes = notes;
  spent = state.command;
  limit = state.limit;
  budget = budget;
  texts = texts_of [] scripts;
  reads = reads;
  prompt = prompt;
  input = input;
  open_ = true;
}

-- the same of an opening
unfoldable pub beginning : CommandState → Beyond → Opening → List ℕ → List Note → Session
beginning state beyond opening input notes = beginning_with state beyond opening.reads opening.prompt opening.budget (first_script opening.script opening.arguments.items) input notes

-- The whole session, which took the first bytes of the input and left the others. It has used every note.
pub record IsSession (start : Session) (finish : Finish) (live : Live) (left : List ℕ) (before after : Output) : Type 0 where
  pub gives : ℕ
  pub made : ℕ
  pub lets_through : LetsThrough finish gives made (reads_left start.open_ start.input)
  pub rest : left ≡ drop made start.input
  pub end : EndsAs (trace start) (status_of finish) gives made before after (record { live = live; notes = [] })
  pub named : NamesEnd finish (course start).end

-- A session for which memory ran out: it had come to a session in so many texts, and that one stopped short, so that what
-- the commands that were done have left stands.
pub record RunsShort (start : Session) (live : Live) (left : List ℕ) (before after : Output) : Type 0 where
  pub count : ℕ
  pub done : List (Observation State)
  pub reached : Session
  pub comes : ComesTo count start done reached
  pub mid : Output
  pub written : mid.console ≡ before.console ++ text_of done
  pub heard : mid.heard ≡ heard_with before.heard (sent_of done)
  pub made : ℕ
  pub few : made ≤ reads_of (asking reached)
  pub rest : left ≡ drop (reads_of done + made) start.input
  pub short : StopsShort reached live mid after

abbrev pub IsPerformed : Session → Finish → Live → List ℕ → Output → Output → Type 0
IsPerformed start OutOfMemory live left before after = RunsShort start live left before after
IsPerformed start finish live left before after = IsSession start finish live left before after

-- The session with exactly the notes that were kept.
pub record Performed (start : List Note → Session) (finish : Finish) (live : Live) (left : List ℕ) (before after : Output) (notes notes' : List Note) : Type 0 where
  pub own : List Note
  pub kept : notes' ≡ notes ++ own
  pub first : MayFollow (start []).spent (start []).live own
  pub is : IsPerformed (start own) finish live left before after

-- A session that came in so many texts, and one more, to where something beside the disk had changed the disk's file, with the
-- first of the notes that were kept: all up to there was printed and read, and sent where lines tell theirs, and nothing is said
-- of what came behind that.
pub record SaysUpTo (start : List Note → Session) (tells : Bool) (left : List ℕ) (before after : Output) (notes notes' : List Note) : Type 0 where
  pub own : List Note
  pub later : List Note
  pub kept : notes' ≡ notes ++ (own ++ later)
  pub first : MayFollow (start []).spent (start []).live own
  pub count : ℕ
  pub done : List (Observation State)
  pub reached : Session
  pub comes : ComesTo count (start own) done reached
  pub state : State
  pub last : (step reached).next ≡ Over NothingSaid state
  pub more : List ℕ
  pub written : after.console ≡ before.console ++ (text_of (done ++ (step reached).made) ++ more)
  pub heard : IsTrue tells → HearsOn (heard_with before.heard (sent_of (done ++ (step reached).made))) after.heard
  pub made : ℕ
  pub rest : left ≡ drop (reads_of (done ++ (step reached).made) + made) (start own).input

-- The same of what lines record in the end; and where they tell nothing, of what they recorded up to there.
pub record SaysNoMore (start : List LineAnswer → List Note → Session) (tells : Bool) (whole : List LineAnswer) (left : List ℕ) (before after : Output) (notes notes' : List Note) : Type 0 where
  pub recorded : List LineAnswer
  pub same : IsTrue tells → recorded ≡ whole
  pub says : SaysUpTo (start recorded) tells left before after notes notes'
