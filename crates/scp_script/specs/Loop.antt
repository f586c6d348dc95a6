-- What the calls of the loop over texts come to, for a console that had and has these bytes, callers of lines that had and
-- have heard these, and an input that let so many reads through.
use Rattle.std.specs.Prelude.{◌≡◌, ◌≢◌, ◌⊎◌, ℕ, ◌+◌, ◌*◌, ◌^◌, ◌<◌, ◌≤◌, Bool, IsTrue, List, [], ◌++◌, length, drop, Option, Some, None, Ok, Err, true, false}
use Rattle.std.specs.List.{AllByRecursion}
use Rattle.fault_counts.specs.Faults.{raised}
use Rattle.file_traits.specs.declared.files.FileCall.TheVariants.{Closing}
use Rattle.file_traits.specs.Streams.{AddsPart}
use Rattle.observations.specs.declared.exit_status.ExitStatus.{ExitStatus}
use Rattle.observations.specs.declared.exit_status.ExitStatus.TheVariants as exits
use Rattle.observations.specs.Status.{number_of}
use Rattle.observations.specs.Observations.{Trace, text_of, reads_of, sent_of}
use Rattle.observations.specs.Cut.{ends, cut_trace, sent_until}
use Rattle.host_lines.specs.Traffic.{Quiet, replied}
use Rattle.unit_trait.specs.declared.kind.Kind.TheVariants.{Qty}
use Rattle.terminal_ports.specs.Listening.{listening_each}
use Rattle.file_commands.specs.AllUnits.{IsUnwritten}
use Rattle.scp_parser.specs.Command.{Request, AttachPort, Do, Restore}
use Rattle.command_session.specs.declared.next.Next.{Next}
use Rattle.command_session.specs.declared.next.Next.TheVariants.{Exit as ExitNext}
use Rattle.command_session.specs.declared.next.Next.TheVariants as next
use Rattle.command_session.specs.declared.fault.CommandFault.{CommandFault}
use Rattle.command_session.specs.declared.fault.CommandFault.TheVariants as fault
use Rattle.file_traits.specs.State.{FileState}
use Rattle.unit_files.specs.Attachments.{Held, file_units}
use Rattle.file_commands.specs.declared.note.Subject.{Subject}
use Rattle.file_commands.specs.declared.note.FaultNote.{FaultNote}
use Rattle.file_commands.specs.Notes.{CommandNote, Note, numbered, Follow}
use Rattle.whole_files.specs.Claims.{raised_by}
use Rattle.file_commands.specs.Counts.{openings_noted, AreCounted, AreExact}
use Rattle.command_session.specs.Live.{Live, Standing, CommandState, Beyond, live_in}
use Rattle.nova_machine.specs.Comes.{Output}
use Rattle.nova_machine.specs.LineChanges.{heard_with}
use Rattle.command_session.specs.Reply.{Answer, Reply}
use Rattle.command_session.specs.FaultText.{fault_text}
use Rattle.command_session.specs.Asked.{Asked, asked}
use Rattle.command_session.specs.Remains.{Remains, flushes_of, reader_of}
use Rattle.command_session.specs.DiskFile.{disk_alone}
use Rattle.command_session.specs.Doing.{IsSaid, IsBrokenOff, Does, ComeBehind, CommandOpens, OpensNone, opens_of, most_unnoted, most_opened}
use Rattle.scp_script.specs.declared.progress.CommandLoop.{CommandLoop}
use Rattle.scp_script.specs.declared.progress.Finish.{Finish}
use Rattle.scp_script.specs.declared.progress.Finish.TheVariants.{Exit, EndOfInput, FlushFailed, Commands, Console, Input, OutOfMemory}
use Rattle.scp_script.specs.declared.progress.Progress.{Progress}
use Rattle.scp_script.specs.declared.progress.Progress.TheVariants.{GoesOn, IsOver}
use Rattle.session_texts.specs.Lines.{reads_left}
use Rattle.session_texts.specs.Reading.{AreRead}
use Rattle.session_texts.specs.Scripts.{Script, most_scripts, settled}
use Rattle.expect_actions.specs.Watch.{WatchState}
use Rattle.session_texts.specs.Actions.{Texts, coming, texts_behind}
use Rattle.scp_script.specs.Session as ends
use Rattle.scp_script.specs.Session.{State, Session, SessionEnd, ExitDone, AllDone, InputEnded, BudgetSpent, NothingSaid, going_on, rested, asking, with_complaint, Upcoming, Ends, Comes, upcoming, text_reply, flushes_next, step, course, trace, spent_more}

-- the session that the loop stands in, to which these failing calls are still to come
abbrev pub session_of : CommandState → Beyond → CommandLoop → List ℕ → List Note → Session
session_of state beyond l input notes = record {
  live = live_in state beyond;
  notes = notes;
  spent = state.command;
  limit = state.limit;
  budget = l.budget;
  texts = coming l.texts;
  reads = l.reads;
  prompt = l.prompt;
  input = input;
  open_ = l.reader.open_;
}

-- the status with which an answer ends the session, if it does
abbrev pub exit_of : Answer → Option ℕ
exit_of (Ok (ExitNext status)) = Some status
exit_of answer = None

-- What a text comes to on the console: it was done and what it prints was printed, or a byte of that was refused. Where
-- the session goes on, these texts are still to come, which are those behind it. Where memory ran out, another clause says
-- what stands.
abbrev pub IsAnswer : Reply → (Answer → WatchState → Texts) → Progress → Texts → Standing → Bool → Output → Output → Type 0
IsAnswer reply behind GoesOn texts at tells before after =
    (exit_of reply.answer ≡ None) × (texts ≡ behind reply.answer reply.after.live.watch) × IsSaid reply at tells before after
IsAnswer reply behind (IsOver (Exit status)) texts at tells before after = (exit_of reply.answer ≡ Some status) × IsSaid reply at tells before after
IsAnswer reply behind (IsOver Console) texts at tells before after = IsBrokenOff reply at tells before after
IsAnswer reply behind (IsOver OutOfMemory) texts at tells before after = Unit {0}
IsAnswer reply behind (IsOver EndOfInput) texts at tells before after = ⊥
IsAnswer reply behind (IsOver FlushFailed) texts at tells before after = ⊥
IsAnswer reply behind (IsOver Commands) texts at tells before after = ⊥
IsAnswer reply behind (IsOver Input) texts at tells before after = ⊥

-- A text was answered where these were still to come, with the notes that were kept in it: it has used all of them and no
-- others, whatever comes behind.
pub record Answers (limit : ℕ) (old : Live) (texts : Texts) (what : Asked) (number : ℕ) (result : Progress) (new : Live) (texts' : Texts) (tells : Bool) (before after : Output) (notes notes' : List Note) : Type 0 where
  pub own : List CommandNote
  pub kept : notes' ≡ notes ++ numbered number own
  pub answers : (behind : List CommandNote) → ComeBehind new behind
      → IsAnswer (text_reply limit texts (own ++ behind) old what) (texts_behind texts what) result texts' (record { live = new; used = length own }) tells before after

-- there is room for the script of a DO
abbrev pub FitsIn : List Script → Request → Type 0
FitsIn scripts (Do echo strict name arguments) = length scripts < most_scripts
FitsIn scripts request = Unit {0}

abbrev pub HasRoom : List Script → Next → Type 0
HasRoom scripts (next.Do file) = length scripts < most_scripts
HasRoom scripts other = Unit {0}

-- what comes to be of a command that was done, has left the watch tables so, and has that to say, where its bytes are
-- written
abbrev pub Follows : WatchState → Next → Request → Progress → Texts → Texts → Bool → Output → Output → Type 0
Follows watch next request result texts texts' tells written after =
    (reply : Reply) (at : Standing) (before : Output) → at.live.watch ≡ watch → HasRoom texts.scripts next → Does reply (Ok next) at tells before written
    → IsAnswer (with_complaint texts.actions (settled texts.scripts (Ok request) reply)) (texts_behind texts (Ok request)) result texts' at tells before after

-- the text of a fault was printed, or a byte of it was refused
abbrev pub Complains : Bool → List ℕ → List ℕ → Progress → List ℕ → Type 0
Complains tells before text GoesOn after = IsTrue tells → after ≡ before ++ text
Complains tells before text (IsOver Console) after = IsTrue tells → AddsPart before text after
Complains tells before text (IsOver finish) after = ⊥

-- a text's only fault is the console's, no text ends the input, and none is done that was not paid
abbrev pub AnswerCounts : Progress → ℕ → ℕ → Type 0
AnswerCounts (IsOver Console) sink sink_now = sink_now ≡ raised sink
AnswerCounts (IsOver Input) sink sink_now = ⊥
AnswerCounts (IsOver FlushFailed) sink sink_now = ⊥
AnswerCounts (IsOver Commands) sink sink_now = ⊥
AnswerCounts (IsOver finish) sink sink_now = sink_now ≡ sink
AnswerCounts GoesOn sink sink_now = sink_now ≡ sink

-- the status of EXIT is 0 to 99
abbrev pub IsExitStatus : Finish → Type 0
IsExitStatus (Exit status) = status ≤ 99
IsExitStatus finish = Unit {0}

abbrev pub HasExitStatus : Progress → Type 0
HasExitStatus (IsOver finish) = IsExitStatus finish
HasExitStatus GoesOn = Unit {0}

-- a fault is answered by its text, and that of the console or of memory by the end of the session
abbrev pub Denies : CommandFault → Bool → Progress → List ℕ → List ℕ → ℕ → ℕ → Type 0
Denies fault.Console tells result before after sink sink_now = (result ≡ IsOver Console) × (after ≡ before) × (sink_now ≡ sink)
Denies fault.OutOfMemory tells result before after sink sink_now = (result ≡ IsOver OutOfMemory) × (after ≡ before) × (sink_now ≡ sink)
Denies fault tells result before after sink sink_now = Complains tells before (fault_text fault) result after × AnswerCounts result sink sink_now × HasExitStatus result

-- the exit status of a finish, and its number
abbrev pub exit_status : Finish → ExitStatus
exit_status (Exit status) = exits.Exit status
exit_status EndOfInput = exits.Exit 0
exit_status FlushFailed = exits.FlushFailed
exit_status Commands = exits.Commands
exit_status Console = exits.Console
exit_status Input = exits.Input
exit_status OutOfMemory = exits.OutOfMemory

abbrev pub status_of : Finish → ℕ
status_of finish = number_of (exit_status finish)

-- the finish of a session in which nothing failed, if one is said
abbrev pub finish_of : SessionEnd → Option Finish
finish_of (ExitDone status) = Some (Exit status)
finish_of AllDone = Some (Exit 0)
finish_of InputEnded = Some EndOfInput
finish_of ends.FlushFailed = Some FlushFailed
finish_of BudgetSpent = Some Commands
finish_of NothingSaid = None

-- the notes of a command for which memory ran out: where it was reading a file whole those of its closing, and else
-- none
abbrev pub AreClosings : Option Subject → ℕ → List Note → Type 0
AreClosings None number notes = notes ≡ []
AreClosings (Some who) number notes =
    AllByRecursion (λ (n : Note). (n.command ≡ number) × (n.note.subject ≡ who) × (n.note.failure.call ≡ Closing)) notes

-- that is a RESTORE, or an ATTACH of the multiplexer: it may listen on several ports
abbrev pub AsksPorts : Asked → Type 0
AsksPorts (Ok (Restore force name)) = Unit {0}
AsksPorts (Ok (AttachPort Qty port)) = Unit {0}
AsksPorts what = ⊥

-- Ports were listened on, one behind another, and none was refused. All is as it was, but for what is still to come on lines,
-- which has moved on by these listenings.
pub record HasListened (old new : Live) : Type 0 where
  pub ports : List ℕ
  pub listened : listening_each ports old.ahead ≡ replied Quiet new.ahead
  pub all : new ≡ record old { ahead = new.ahead }

-- what stands where memory ran out at a text: what `Remains` says, or one that asks for several ports had listened on the first of
-- them
abbrev pub StandsShort : Asked → Live → Live → Type 0
StandsShort what old new = Remains (flushes_of what) old new ⊎ (AsksPorts what × HasListened old new)

-- Where memory ran out at a text, nothing was done, but that one that flushes the disk may have done so, that one that
-- asks for several ports may have listened on some, which are given up again, and one that was reading a file has closed it, with these notes.
abbrev pub IsShort : Asked → ℕ → Progress → Live → Live → List Note → Output → Output → Type 0
IsShort what number (IsOver OutOfMemory) old new own before after =
    StandsShort what old new × AreClosings (reader_of what) number own × (after ≡ before)
IsShort what number result old new own before after = Unit {0}

-- A finish that is no fault says by what the session is over. A fault comes before that, wherever the session would
-- have ended.
abbrev pub NamesEnd : Finish → SessionEnd → Type 0
NamesEnd finish end = finish ≢ Console → finish ≢ Input → Some finish ≡ finish_of end

-- the input let through the reads that were made, where it failed, and else all that there can be
abbrev pub LetsThrough : Finish → ℕ → ℕ → ℕ → Type 0
LetsThrough Input gives made all = gives ≡ made
LetsThrough finish gives made all = gives ≡ all

-- The trace comes to that end on the console, which had and has these bytes; up to it was sent what callers have heard.
pub record EndsAs (t : Trace State) (status gives made : ℕ) (before after : Output) (state : State) : Type 0 where
  pub taken : List ℕ
  pub written : after.console ≡ before.console ++ taken
  pub outcome : cut_trace (length taken) gives t ≡ ends status taken made state
  pub heard : after.heard ≡ heard_with before.heard (sent_until (length taken) gives t.made)

-- the session is over
pub record Finishes (old : Session) (finish : Finish) (new : Session) (before after : Output) : Type 0 where
  pub gives : ℕ
  pub made : ℕ
  pub lets_through : LetsThrough finish gives made (reads_left old.open_ old.input)
  pub reads : AreRead made old.open_ old.input new.open_ new.input
  pub end : EndsAs (trace old) (status_of finish) gives made before after (record { live = new.live; notes = new.notes })
  pub named : NamesEnd finish (course old).end

-- The session goes on behind its next text, all of whose observations were made; the actions of a stop are let go of then.
-- Of what comes behind it something is said only where the disk alone has changed the disk's file.
pub record GoesPast (old new : Session) (before after : Output) : Type 0 where
  pub next : (step old).next ≡ going_on (disk_alone old.live new.live) (rested new)
  pub written : after.console ≡ before.console ++ text_of (step old).made
  pub heard : after.heard ≡ heard_with before.heard (sent_of (step old).made)
  pub reads : AreRead (reads_of (step old).made) old.open_ old.input new.open_ new.input

-- the notes that are left where memory ran out at the next text, or before it
abbrev pub AreShort : Upcoming → List Note → Type 0
AreShort (Ends end) notes = notes ≡ []
AreShort (Comes text behind) notes = AreClosings (reader_of (asked text)) behind.spent notes

-- the next text is one that asks for several ports, and has listened on some
abbrev pub HasListenedAt : Upcoming → Live → Live → Type 0
HasListenedAt (Ends end) old new = ⊥
HasListenedAt (Comes text behind) old new = AsksPorts (asked text) × HasListened old new

-- A session for which memory ran out before its next text, or at it: nothing of the text was done, but that one that
-- flushes the disk may have done so, that one that asks for several ports may have listened on some, and one that was reading a
-- file has closed it; the notes that are left are of that closing. Of what is printed before the text is done comes all or nothing, and nothing was sent.
pub record StopsShort (old : Session) (live : Live) (before after : Output) : Type 0 where
  pub live_is : Remains (flushes_next old) old.live live ⊎ HasListenedAt (upcoming old) old.live live
  pub notes : AreShort (upcoming old) old.notes
  pub written : (after.console ≡ before.console) ⊎ (after.console ≡ before.console ++ text_of (asking old))
  pub heard : after.heard ≡ before.heard

-- the same, with the reads that were made of its line
pub record RunsOut (old new : Session) (before after : Output) : Type 0 where
  pub short : StopsShort old new.live before after
  pub made : ℕ
  pub few : made ≤ reads_of (asking old)
  pub reads : AreRead made old.open_ old.input new.open_ new.input

abbrev pub Progresses : Session → Progress → Session → Output → Output → Type 0
Progresses old GoesOn new before after = GoesPast old new before after
Progresses old (IsOver OutOfMemory) new before after = RunsOut old new before after
Progresses old (IsOver finish) new before after = Finishes old finish new before after

-- Notes that may come behind those of the command with that number, which left that: those of closings at the end of the
-- session, which have the same number, and then those of later commands.
pub record MayFollow (number : ℕ) (live : Live) (notes : List Note) : Type 0 where
  pub behind : List CommandNote
  pub later : List Note
  pub are : notes ≡ numbered number behind ++ later
  pub closings : ComeBehind live behind
  pub follows : Follow number later

-- the same where the session goes on; behind one that is over there are none
abbrev pub MayCome : Progress → ℕ → Live → List Note → Type 0
MayCome GoesOn number live notes = MayFollow number live notes
MayCome (IsOver finish) number live notes = notes ≡ []

-- The numbers suffice for so many units more: each command that is still to come has a number of its own, and so its
-- notes are told from those of the others.
abbrev pub NumbersSuffice : ℕ → ℕ → Type 0
NumbersSuffice spent budget = spent + budget < 2 ^ 64

-- The next text was done, with the notes that were kept in it: with these before any that may follow, the session goes on to
-- where those are left.
pub record Stepped (old : List Note → Session) (p : Progress) (new : List Note → Session) (before after : Output) (notes notes' : List Note) : Type 0 where
  pub own : List Note
  pub kept : notes' ≡ notes ++ own
  pub first : (more : List Note) → MayCome p (new []).spent (new []).live more → MayFollow (old []).spent (old []).live (own ++ more)
  pub goes : (more : List Note) → MayCome p (new []).spent (new []).live more → Progresses (old (own ++ more)) p (new more) before after

-- what a text opens: one that is no command opens nothing
abbrev pub opens_asked : Asked → CommandOpens
opens_asked (Ok request) = opens_of request
opens_asked (Err fault) = OpensNone

-- How many openings of a text may have failed that have no note: none where files tell or it opens nothing; and else one,
-- where its answer is that a file is missing, and those few that its answer does not name either.
abbrev pub most_missed : Bool → CommandOpens → ℕ
most_missed true opens = 0
most_missed false OpensNone = 0
most_missed false opens = 1 + most_unnoted opens false

-- The same of so many units, each of which pays for one text at most: two of an ATTACH that looks for its file before it
-- makes it.
abbrev pub missed_for : Bool → ℕ → ℕ
missed_for true units = 0
missed_for false units = 2 * units

-- how many ids the texts give at most that so many units pay for: a RESTORE gives one for its own file, and one for each
-- unit that can have a file
abbrev pub given_for : ℕ → ℕ
given_for units = (1 + file_units) * units

-- The notes that were kept are those of calls that failed: for each file there are just as many as its count rose, or one
-- less, and that only where files may be given back, for one that was opened in between, whose closing then has none. The
-- count of openings has risen by just as many as the notes of openings are, and by so many that have none at most; and no
-- more ids than these were given.
pub record KeptAs (gives_back : Bool) (most given_most : ℕ) (notes notes' : List FaultNote) (old new : FileState) : Type 0 where
  pub kept : List FaultNote
  pub added : notes' ≡ notes ++ kept
  pub counted : AreCounted kept old new
  pub exact : AreExact gives_back kept old new
  pub missed : ℕ
  pub few : missed ≤ most
  pub openings : new.open_faults ≡ raised_by (missed + openings_noted kept) old.open_faults
  pub given : new.given ≤ old.given + given_most

-- the same of a session, whose commands may give files back
abbrev pub AreKept : ℕ → ℕ → List FaultNote → List FaultNote → FileState → FileState → Type 0
AreKept most given_most notes notes' old new = KeptAs true most given_most notes notes' old new

-- the same of a text, by what it asks
abbrev pub AreKeptBy : Bool → Asked → List FaultNote → List FaultNote → FileState → FileState → Type 0
AreKeptBy tells what notes notes' old new = AreKept (most_missed tells (opens_asked what)) (most_opened (opens_asked what)) notes notes' old new

-- the same of the texts that so many units have paid for
abbrev pub AreKeptFor : Bool → ℕ → List FaultNote → List FaultNote → FileState → FileState → Type 0
AreKeptFor tells units notes notes' old new = AreKept (missed_for tells units) (given_for units) notes notes' old new

-- The same of a whole session: it has spent so many units of its budget, by which the number of its last command rose, up
-- to where that stands still.
pub record SessionKept (tells : Bool) (budget number number' : ℕ) (notes notes' : List FaultNote) (old new : FileState) : Type 0 where
  pub spent : ℕ
  pub within : spent ≤ budget
  pub number_is : number' ≡ spent_more number spent
  pub kept : AreKeptFor tells spent notes notes' old new

-- Each finish has its cause: the console's count rose by one where it failed, and stood still else, and so did the
-- input's.
pub record FinishCause (finish : Finish) (sink sink_now source source_now : ℕ) : Type 0 where
  pub console : finish ≡ Console → sink_now ≡ raised sink
  pub input : finish ≡ Input → source_now ≡ raised source
  pub console_only : finish ≢ Console → sink_now ≡ sink
  pub input_only : finish ≢ Input → source_now ≡ source
  pub exit : IsExitStatus finish

abbrev pub ProgressCause : Progress → ℕ → ℕ → ℕ → ℕ → Type 0
ProgressCause GoesOn sink sink_now source source_now = (sink_now ≡ sink) × (source_now ≡ source)
ProgressCause (IsOver finish) sink sink_now source source_now = FinishCause finish sink sink_now source source_now

-- The input has ended and the disk has kept its file only where a write of that failed, for which its count rose.
abbrev pub KeptCause : Finish → List (Option Held) → List FaultNote → FileState → FileState → Type 0
KeptCause FlushFailed slots notes old new = IsUnwritten slots notes old new
KeptCause finish slots notes old new = Unit {0}

abbrev pub KeptInLine : Progress → List (Option Held) → List FaultNote → FileState → FileState → Type 0
KeptInLine GoesOn slots notes old new = Unit {0}
KeptInLine (IsOver finish) slots notes old new = KeptCause finish slots notes old new

-- of an input nothing was taken but so many first bytes
abbrev pub TakesFirst : List ℕ → List ℕ → Type 0
TakesFirst input left = (count : ℕ) × (left ≡ drop count input)

-- a text after which the session goes on costs a unit, told or not
abbrev pub PaysFor : ℕ → Progress → ℕ → Type 0
PaysFor budget GoesOn now = now < budget
PaysFor budget (IsOver finish) now = now ≤ budget
