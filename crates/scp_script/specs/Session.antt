-- A session: one text after another, to EXIT, the end of the input, or the end of the budget.
use Rattle.std.specs.Prelude.{◌≡◌, ℕ, zero, suc, ◌+◌, ◌-◌, ◌^◌, min, max, nat_le, Bool, true, false, List, [], ◌∷◌, ◌++◌, length, drop, codes, Option, Some, None, Ok, Err, if◌then◌else◌}
use Rattle.observations.specs.declared.exit_status.ExitStatus.TheVariants as exits
use Rattle.observations.specs.Status.{number_of}
use Rattle.observations.specs.Observations.{Observation, Prints, Reads, Trace, after_made, map_made}
use Rattle.file_commands.specs.Notes.{CommandNote, Note, handed}
use Rattle.command_session.specs.declared.next.Next.TheVariants.{Exit, Ran}
use Rattle.command_session.specs.Live.{Live, Standing}
use Rattle.command_session.specs.Reply.{Answer, Reply}
use Rattle.command_session.specs.FaultText.{fault_text}
use Rattle.unit_trait.specs.declared.kind.UnitName.{UnitName}
use Rattle.expect_actions.specs.Watch.{forgotten}
use Rattle.file_commands.specs.AllUnits.{Emptied}
use Rattle.command_session.specs.FileEffects.{emptied_all, emptied_live}
use Rattle.command_session.specs.DiskFile.{disk_alone}
use Rattle.command_session.specs.Asked.{Asked, asked}
use Rattle.scp_commands.specs.Effect.{does}
use Rattle.command_session.specs.Remains.{flushes_of}
use Rattle.session_texts.specs.Scripts.{Script, still_open, cost_of_line, text_of_line, echo_text, past_line, checked, settled}
use Rattle.session_texts.specs.Actions.{Texts, texts_of, text_of_stop, overflow_text, texts_behind}
use Rattle.script_text.specs.Lines.{first_line, line_cost, has_lf}
use Rattle.session_texts.specs.Lines.{Arrival, InputEnds, Unpaid, LineComes, arrival, line_reads}

-- what an early end of a session shows: what commands work on, and the failing calls that are still to come
pub record State : Type 0 where
  pub live : Live
  pub notes : List Note

-- What the future of a session depends on: what commands work on, how many instructions a run may execute, the units of
-- budget left, the actions that wait and the scripts that are open, whether the input is read behind these, whether the
-- prompt is printed, the rest of the input, and whether its end is still to be read. Beside that it is handed the failing
-- calls that are still to come, each with the number of its command, which is how many units of the budget are spent, those
-- of the command included. At 2^64 - 1 the number stands still: the commands behind have one number, and each of them
-- is handed all leading notes that have it.
pub record Session : Type 0 where
  pub live : Live
  pub notes : List Note
  pub spent : ℕ
  pub limit : ℕ
  pub budget : ℕ
  pub texts : Texts
  pub reads : Bool
  pub prompt : Bool
  pub input : List ℕ
  pub open_ : Bool

-- how many units are spent behind so many more
abbrev pub spent_more : ℕ → ℕ → ℕ
spent_more spent cost = max spent (min (spent + cost) (2 ^ 64 - 1))

abbrev pub state_of : Session → State
state_of s = record { live = s.live; notes = s.notes }

-- a place within a command that was handed the first of these notes
abbrev pub state_at : List Note → Standing → State
state_at notes at = record { live = at.live; notes = drop at.used notes }

abbrev pub prompt_text : Bool → List ℕ
prompt_text on = if on then codes "sim> " else []

-- what is made before a line of the input is there: the prompt, where it is on, and the reads of the line
abbrev pub asking_input : Session → List (Observation State)
asking_input s = Prints (prompt_text s.prompt) (state_of s) ∷ Reads (line_reads s.budget s.open_ s.input) (state_of s) ∷ []

-- what is made before the next line is done: that, where no script is open and the input is read; and else the text of the
-- script's line, where it is to be printed, and the line is paid
abbrev pub asking_in : Session → List Script → List (Observation State)
asking_in s [] = if s.reads then asking_input s else []
asking_in s (script ∷ outer) = if nat_le (cost_of_line script) s.budget then Prints (echo_text script) (state_of s) ∷ [] else []

-- before an action nothing is
abbrev pub asking_at : Session → List (List ℕ) → List (Observation State)
asking_at s [] = asking_in s (still_open s.texts.scripts)
asking_at s (action ∷ others) = []

unfoldable pub asking : Session → List (Observation State)
asking s = asking_at s s.texts.actions

-- the session behind its next line of the input, which was read and paid: no script is open then
unfoldable pub behind_line : Session → Session
behind_line s = record s {
  texts = texts_of [] [];
  spent = spent_more s.spent (line_cost (length (first_line s.input)));
  budget = s.budget - line_cost (length (first_line s.input));
  input = drop (length (first_line s.input) + 1) s.input;
  open_ = has_lf s.input;
}

-- the session behind the next line of its innermost script, which was paid
unfoldable pub behind_script_line : Session → Script → List Script → Session
behind_script_line s script outer = record s {
  spent = spent_more s.spent (cost_of_line script);
  budget = s.budget - cost_of_line script;
  texts = texts_of [] (past_line script ∷ outer);
}

-- the session behind its next action, which costs a unit
unfoldable pub behind_action : Session → List (List ℕ) → Session
behind_action s others = record s {
  spent = spent_more s.spent 1;
  budget = s.budget - 1;
  texts = texts_of others s.texts.scripts;
}

-- By what a session is over where neither console nor input fails: EXIT with that status was done, all was done where the
-- input is not read, the input has ended, it has and a unit has kept its file since that could not be written back, or a
-- text was due for which no unit of the budget was left. Behind a text in which something beside the disk has changed the
-- disk's file, nothing more is said.
pub data SessionEnd : Type 0 where
  ExitDone : ℕ → SessionEnd
  AllDone : SessionEnd
  InputEnded : SessionEnd
  FlushFailed : SessionEnd
  BudgetSpent : SessionEnd
  NothingSaid : SessionEnd

-- its status; of a session of which nothing more is said it is none that is claimed
abbrev pub end_status : SessionEnd → ℕ
end_status (ExitDone status) = status
end_status AllDone = 0
end_status InputEnded = 0
end_status FlushFailed = number_of exits.FlushFailed
end_status BudgetSpent = number_of exits.Commands
end_status NothingSaid = 0

-- what comes next in a session: its end, or a text and the session behind it
pub data Upcoming : Type 0 where
  Ends : SessionEnd → Upcoming
  Comes : List ℕ → Session → Upcoming

-- where the input ends, all units lose their files, with the notes that have the number of the last command
abbrev pub emptied_in : Session → Emptied
emptied_in s = emptied_all (handed s.spent s.notes) s.live

abbrev pub input_end : Option UnitName → SessionEnd
input_end None = InputEnded
input_end (Some unit) = FlushFailed

abbrev pub upcoming_of : Session → Arrival → Upcoming
upcoming_of s InputEnds = Ends (input_end (emptied_in s).kept)
upcoming_of s Unpaid = Ends BudgetSpent
upcoming_of s (LineComes line) = Comes line (behind_line s)

-- the next line is the next one of the innermost script that is open, or else one of the input, where that is read
abbrev pub upcoming_in : Session → List Script → Upcoming
upcoming_in s [] = if s.reads then upcoming_of s (arrival s.budget s.open_ s.input) else Ends AllDone
upcoming_in s (script ∷ outer) =
    if nat_le (cost_of_line script) s.budget then Comes (text_of_line script) (behind_script_line s script outer) else Ends BudgetSpent

-- the next text is the first action that waits; then come lines
abbrev pub upcoming_at : Session → List (List ℕ) → Upcoming
upcoming_at s [] = upcoming_in s (still_open s.texts.scripts)
upcoming_at s (action ∷ others) = if nat_le 1 s.budget then Comes action (behind_action s others) else Ends BudgetSpent

unfoldable pub upcoming : Session → Upcoming
upcoming s = upcoming_at s s.texts.actions

-- whether the next text asks for what flushes the disk
abbrev pub flushes_in : Upcoming → Bool
flushes_in (Ends end) = false
flushes_in (Comes text behind) = flushes_of (asked text)

abbrev pub flushes_next : Session → Bool
flushes_next s = flushes_in (upcoming s)

-- the text of a fault is printed behind what its command has made, and so it is where the actions of a stop do not fit
-- in front of those that wait
abbrev pub complaint : List (List ℕ) → Answer → Standing → List (Observation Standing)
complaint waiting (Ok (Ran stop)) at = Prints (overflow_text (text_of_stop stop at.live.watch) waiting) at ∷ []
complaint waiting (Ok next) at = []
complaint waiting (Err fault) at = Prints (fault_text fault) at ∷ []

abbrev pub with_complaint : List (List ℕ) → Reply → Reply
with_complaint waiting reply = record reply { made = reply.made ++ complaint waiting reply.answer reply.after }

-- what a text does where these are still to come, and these calls on files fail
unfoldable pub text_reply : ℕ → Texts → List CommandNote → Live → Asked → Reply
text_reply limit t notes live what = with_complaint t.actions (settled t.scripts what (does limit notes live (checked t.scripts what)))

-- what comes behind a text: the session goes on, or is over by that, in that state
pub data Following : Type 0 where
  Going : Session → Following
  Over : SessionEnd → State → Following

-- between two texts no actions of a stop are kept: those that came last wait as texts, or were refused
abbrev pub rested : Session → Session
rested s = record s { live = record s.live { watch = forgotten s.live.watch } }

-- it goes on, if it was the disk alone that changed the disk's file; and else no more is said of it
abbrev pub going_on : Bool → Session → Following
going_on true s = Going s
going_on false s = Over NothingSaid (state_of s)

abbrev pub following : Answer → Bool → Session → Following
following (Ok (Exit status)) alone s = Over (ExitDone status) (state_of s)
following answer alone s = going_on alone (rested s)

-- what one text of a session comes to
pub record Step : Type 0 where
  pub made : List (Observation State)
  pub next : Following

-- a text is done in the session behind it: it is handed the leading notes that have its number, and leaves those that it
-- has not used
unfoldable pub text_step : List (Observation State) → Session → Asked → Step
text_step asked_first behind what = let reply = text_reply behind.limit behind.texts (handed behind.spent behind.notes) behind.live what in record {
  made = asked_first ++ map_made (state_at behind.notes) reply.made;
  next = following reply.answer (disk_alone behind.live reply.after.live) (record behind {
    live = reply.after.live;
    notes = drop reply.after.used behind.notes;
    texts = texts_behind behind.texts what reply.answer reply.after.live.watch;
  });
}

unfoldable pub closed : Session → State
closed s = record { live = emptied_live (emptied_in s) s.live; notes = drop (emptied_in s).used s.notes }

abbrev pub end_state : SessionEnd → Session → State
end_state InputEnded s = closed s
end_state FlushFailed s = closed s
end_state end s = state_of s

abbrev pub step_upcoming : Session → Upcoming → Step
step_upcoming s (Ends end) = record { made = asking s; next = Over end (end_state end s) }
step_upcoming s (Comes text behind) = text_step (asking s) behind (asked text)

unfoldable pub step : Session → Step
step s = step_upcoming s (upcoming s)

-- the course of a session: what it does where nothing fails, and by what it is over
pub record Course : Type 0 where
  pub trace : Trace State
  pub end : SessionEnd

-- a session that made this is over by that, and so with its status
abbrev pub over_by : List (Observation State) → SessionEnd → State → Course
over_by made end state = record { trace = record { made = made; ended = record { status = end_status end; state = state } }; end = end }

abbrev pub after_step : List (Observation State) → Following → (Session → Course) → Course
after_step made (Going s) goes_on = record { trace = after_made made (goes_on s).trace; end = (goes_on s).end }
after_step made (Over end state) goes_on = over_by made end state

-- so many texts at the most
unfoldable pub texts : ℕ → Session → Course
texts zero s = over_by [] BudgetSpent (state_of s)
texts (suc count) s = after_step (step s).made (step s).next (λ t. texts count t)

-- all that a session does: each text after which it goes on has cost a unit of the budget at least, so that the bound
-- is never reached
unfoldable pub course : Session → Course
course s = texts (suc s.budget) s

unfoldable pub trace : Session → Trace State
trace s = (course s).trace

-- the session s comes to t by that many texts, with these observations
abbrev pub ComesTo : ℕ → Session → List (Observation State) → Session → Type 0
ComesTo zero s made t = (made ≡ []) × (s ≡ t)
ComesTo (suc count) s made t = (mid : Session) × (more : List (Observation State)) × ((step s).next ≡ Going mid) × (made ≡ (step s).made ++ more) × ComesTo count mid more t
