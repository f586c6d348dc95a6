-- What a call comes to that does a command: on a console that had and has these bytes, with callers of lines that had and
-- have heard these, and with the notes that it kept.
use Rattle.std.specs.Prelude.{◌≡◌, ℕ, ◌≤◌, ◌<◌, ◌+◌, ◌&&◌, not, Bool, true, IsTrue, List, [], ◌∷◌, ◌++◌, length, Option, is_some, Result, Ok, Err, false, if◌then◌else◌, Some, None}
use Rattle.std.specs.List.{AllByRecursion, list_any}
use Rattle.fault_counts.specs.Faults.{raised, Rose}
use Rattle.observations.specs.Observations.{text_of, sent_of, StandsAt}
use Rattle.observations.specs.Cut.{BreaksOff}
use Rattle.file_traits.specs.declared.files.FileCall.{FileCall}
use Rattle.file_traits.specs.declared.files.FileCall.TheVariants.{Write, Closing}
use Rattle.file_traits.specs.State.{FileState}
use Rattle.host_lines.specs.Traffic.{Answer as LineAnswer}
use Rattle.host_lines.specs.Told.{IsFirst, record_in}
use Rattle.host_lines.specs.State.{LineState}
use Rattle.telnet_lines.specs.Line.{LineOf}
use Rattle.telnet_lines.specs.Many.{AreApart}
use Rattle.unit_trait.specs.declared.kind.Kind.{Kind}
use Rattle.unit_trait.specs.declared.kind.UnitName.{UnitName}
use Rattle.unit_trait.specs.Kinds.{same_unit}
use Rattle.unit_files.specs.declared.faults.UnitFault.{UnitFault}
use Rattle.unit_files.specs.declared.modes.AttachMode.{AttachMode}
use Rattle.unit_files.specs.Causes.{IsNewFault, most_unnamed}
use Rattle.unit_files.specs.Attachments.{Held, attachment_at, file_units, is_disk}
use Rattle.file_commands.specs.declared.note.Subject.{Subject}
use Rattle.file_commands.specs.declared.note.Subject.TheVariants as subject
use Rattle.file_commands.specs.declared.note.FaultNote.{FaultNote}
use Rattle.file_commands.specs.Notes.{CommandNote, Note, numbered, notes_said}
use Rattle.whole_files.specs.Claims.{raised_by}
use Rattle.file_commands.specs.Counts.{one_if, openings_noted, AreCounted, AreExact}
use Rattle.file_commands.specs.OwnFiles.{AreOwn}
use Rattle.file_commands.specs.declared.stamp.Stamp.{Stamp}
use Rattle.file_commands.specs.Kept.{fault_note}
use Rattle.file_commands.specs.AllUnits.{attachable}
use Rattle.nova_machine.specs.declared.machine.Stop.{Stop}
use Rattle.nova_machine.specs.declared.machine.Stop.TheVariants.{ConsoleFault, FileFault}
use Rattle.nova_machine.specs.Comes.{Output, output, AreTold, FileCause as StopCause}
use Rattle.nova_machine.specs.LineChanges.{heard_with, AreLinesTold, LinesGoOn}
use Rattle.nova_machine.specs.Wants.{HasUnit}
use Rattle.nova_machine.specs.Seen.{attached_in}
use Rattle.scp_parser.specs.Command.{Request, Attach, Do, Dump, Load, Restore, Save}
use Rattle.command_session.specs.declared.next.Next.{Next}
use Rattle.command_session.specs.declared.next.Next.TheVariants.{Exit, Ran}
use Rattle.command_session.specs.declared.fault.CommandFault.TheVariants.{Console, OutOfMemory, NoFile, FileTooLong, FileFailed, PortFailed}
use Rattle.command_session.specs.declared.fault.CommandFault.TheVariants.{LoadTruncated, LoadSum, PastMemory, NotState, Version, BadDigest, BadField, Truncated, MissingUnit, Changed}
use Rattle.command_session.specs.Live.{Live, Standing, standing, CommandState, beyond, live_in}
use Rattle.command_session.specs.Nature.{Telling, nature}
use Rattle.command_session.specs.Nature.Telling.{Nothing, Ported, Listening, Attached, Named, Whole}
use Rattle.command_session.specs.Remains.{Remains, StepsIf, AreLeft}
use Rattle.command_session.specs.Reply.{Answer, Reply, bare_answer}
use Rattle.command_session.specs.FileEffects.{mode_of, emptied_all, filed_live, emptied_live}

-- ---- what is printed, and what is left

-- it has left its place, and all that it prints and sends was printed and sent
pub record IsSaid (reply : Reply) (at : Standing) (tells : Bool) (before after : Output) : Type 0 where
  pub after_is : at ≡ reply.after
  pub written : IsTrue tells → after.console ≡ before.console ++ text_of reply.made
  pub heard : after.heard ≡ heard_with before.heard (sent_of reply.made)

-- the first bytes of what it makes were printed, and the next one was refused at that place; nothing behind it was sent
pub record BrokenOff (reply : Reply) (at : Standing) (before after : Output) : Type 0 where
  pub taken : List ℕ
  pub written : after.console ≡ before.console ++ taken
  pub breaks : BreaksOff reply.made taken at
  pub heard : after.heard ≡ heard_with before.heard breaks.sent

-- The console refused a byte. The place is that at which the byte was to be printed, and, where bytes are not told, that
-- of one of the texts.
pub record IsBrokenOff (reply : Reply) (at : Standing) (tells : Bool) (before after : Output) : Type 0 where
  pub stands : StandsAt at reply.made
  pub told : IsTrue tells → BrokenOff reply at before after

-- The answer is that of the definition, or that the console refused a byte. Where memory ran out, another clause says
-- what stands.
abbrev pub Does : Reply → Answer → Standing → Bool → Output → Output → Type 0
Does reply (Err Console) at tells before after = IsBrokenOff reply at tells before after
Does reply (Err OutOfMemory) at tells before after = Unit {0}
Does reply answer at tells before after = (bare_answer answer ≡ reply.answer) × IsSaid reply at tells before after

-- The console has what it had, and more behind it.
abbrev pub Grows : Bool → List ℕ → List ℕ → Type 0
Grows tells before after = IsTrue tells → (added : List ℕ) × (after ≡ before ++ added)

-- ---- the notes of a command

-- the calls by which a unit loses its file: a closing, or a write of what the disk holds, where a sector of that was
-- written
abbrev pub IsLastCall : Bool → Kind → FileCall → Type 0
IsLastCall written kind Closing = Unit {0}
IsLastCall written kind Write = (is_disk kind ≡ true) × (written ≡ true)
IsLastCall written kind call = ⊥

-- a note of such a call on a file that is still attached where a command has left off
pub record IsLate (live : Live) (n : CommandNote) : Type 0 where
  pub unit : UnitName
  pub subject_is : n.subject ≡ subject.Unit unit
  pub among : IsTrue (list_any (λ u. same_unit u unit) attachable)
  pub call : IsLastCall live.machine.disk.written unit.kind n.failure.call
  pub there : IsTrue (is_some (attachment_at (attached_in live.machine) unit))

-- Notes that may come behind a command's own under its number: where the session ends with it, the units lose their files
-- that still have one, and a call of that which fails has the number of the last command.
abbrev pub ComeBehind : Live → List CommandNote → Type 0
ComeBehind live notes = AllByRecursion (IsLate live) notes

-- A command was done, with the notes that were kept in it: it has used all of them and no others, whatever comes behind.
pub record Did (reply : List CommandNote → Reply) (number : ℕ) (answer : Answer) (new : Live) (tells : Bool) (before after : Output) (notes notes' : List Note) : Type 0 where
  pub own : List CommandNote
  pub kept : notes' ≡ notes ++ numbered number own
  pub does : (behind : List CommandNote) → ComeBehind new behind → Does (reply (own ++ behind)) answer (standing (length own) new) tells before after

-- what is done is told where of files and lines that is told which the command needs: a run needs the lines, and so does what
-- gives a terminal its port or takes it away
abbrev pub told_by : Telling → Bool → List (Option Held) → Bool → LineState → List (LineOf ℕ) → Type 0
told_by Named tells slots line_tells s lines = IsTrue tells
told_by Whole tells slots line_tells s lines = IsTrue tells × IsTrue line_tells × AreApart s lines
told_by Ported tells slots line_tells s lines = AreLinesTold line_tells s lines
told_by Listening tells slots line_tells s lines = IsTrue line_tells × AreApart s lines
told_by Attached tells slots line_tells s lines = AreTold tells slots × AreLinesTold line_tells s lines
told_by Nothing tells slots line_tells s lines = Unit {0}

abbrev pub IsTold : Bool → List (Option Held) → Bool → LineState → List (LineOf ℕ) → Request → Type 0
IsTold tells slots line_tells s lines request = told_by (nature request).telling tells slots line_tells s lines

-- ---- causes, whether anything is told or not

-- a note that was kept for a refusal: it is of that subject, and of no closing
abbrev pub IsRefusalOf : Subject → FaultNote → Type 0
IsRefusalOf who n = (n.subject ≡ who) × (n.call ≡ Closing → ⊥)

-- a note of a closing of that subject
abbrev pub IsClosingOf : Subject → FaultNote → Type 0
IsClosingOf who n = (n.subject ≡ who) × (n.call ≡ Closing)

-- notes of closings, if there are any
abbrev pub AllClosings : List FaultNote → Type 0
AllClosings notes = AllByRecursion (λ (n : FaultNote). n.call ≡ Closing) notes

-- Exactly one note is that of the call for which it was refused, wherever it stands. All others are of closings, and
-- those behind it of that subject.
pub record AreRefusalOf (who : Subject) (notes : List FaultNote) : Type 0 where
  pub before : List FaultNote
  pub own : FaultNote
  pub behind : List FaultNote
  pub are : notes ≡ before ++ own ∷ behind
  pub refused : IsRefusalOf who own
  pub earlier : AllClosings before
  pub later : AllByRecursion (IsClosingOf who) behind

-- the notes that are kept for a stop
abbrev pub stop_notes : Stamp → Stop → List FaultNote
stop_notes stamp (FileFault f) = fault_note stamp f ∷ []
stop_notes stamp stop = []

-- Why an answer comes, by the notes that were kept. A file was missing only where none was kept and, if names are not
-- told, the count of openings rose. A call on a file failed only where exactly one note is of that call. A run keeps
-- the note of the call for which it stopped, if it did for one, also where the console refused a byte of the stop's
-- text. What was done otherwise, a file that is too long, a tape with a fault and want of memory have only notes of
-- closings, and what was refused otherwise has none.
abbrev pub FileCause : Stamp → Bool → Answer → List FaultNote → FileState → FileState → Type 0
FileCause stamp tells (Err NoFile) kept old new = (kept ≡ []) × ((IsTrue tells → ⊥) → Rose old.open_faults new.open_faults)
FileCause stamp tells (Err (FileFailed who)) kept old new = AreRefusalOf who kept
FileCause stamp tells (Err FileTooLong) kept old new = AllClosings kept
FileCause stamp tells (Err (LoadTruncated place)) kept old new = AllClosings kept
FileCause stamp tells (Err (LoadSum place)) kept old new = AllClosings kept
FileCause stamp tells (Err (PastMemory origin)) kept old new = AllClosings kept
FileCause stamp tells (Err NotState) kept old new = AllClosings kept
FileCause stamp tells (Err (Version version)) kept old new = AllClosings kept
FileCause stamp tells (Err (BadDigest given found)) kept old new = AllClosings kept
FileCause stamp tells (Err (BadField place)) kept old new = AllClosings kept
FileCause stamp tells (Err Truncated) kept old new = AllClosings kept
FileCause stamp tells (Err MissingUnit) kept old new = AllClosings kept
FileCause stamp tells (Err (Changed unit)) kept old new = AllClosings kept
FileCause stamp tells (Err OutOfMemory) kept old new = AllClosings kept
FileCause stamp tells (Err Console) kept old new = (stop : Stop) × (kept ≡ stop_notes stamp stop)
FileCause stamp tells (Err fault) kept old new = kept ≡ []
FileCause stamp tells (Ok (Ran stop)) kept old new = kept ≡ stop_notes stamp stop
FileCause stamp tells (Ok next) kept old new = AllClosings kept

-- The same of RESTORE, which reads its own file whole before those of units are attached: a closing of it that failed is
-- noted whatever comes behind it.
abbrev pub RestoreFileCause : Stamp → Bool → Answer → List FaultNote → FileState → FileState → Type 0
RestoreFileCause stamp tells (Err NoFile) kept old new = AllClosings kept × ((IsTrue tells → ⊥) → Rose old.open_faults new.open_faults)
RestoreFileCause stamp tells (Err PortFailed) kept old new = AllClosings kept
RestoreFileCause stamp tells answer kept old new = FileCause stamp tells answer kept old new

-- what stands on a note
abbrev pub IsStamped : ℕ → ℕ → FaultNote → Type 0
IsStamped number time n = (n.command ≡ number) × (n.time ≡ time)

-- ---- no failed call without a note

-- Whether a file that was opened may have been given back: ATTACH and RESTORE answer so behind an opening that succeeded.
abbrev pub gives_back : Answer → Bool
gives_back (Err NoFile) = true
gives_back (Err FileTooLong) = true
gives_back (Err (FileFailed who)) = true
gives_back (Err (Changed unit)) = true
gives_back (Err PortFailed) = true
gives_back (Err OutOfMemory) = true
gives_back answer = false

-- whether a file is missing
abbrev pub is_missing : Answer → Bool
is_missing (Err NoFile) = true
is_missing answer = false

-- what a command opens
pub data CommandOpens : Type 0 where
  -- no file
  OpensNone : CommandOpens
  -- a file of its own, in one call
  OpensOwn : CommandOpens
  -- a file for a unit
  OpensForUnit : AttachMode → CommandOpens
  -- a file of its own, and those of a saved session for their units, each in one call
  OpensSaved : CommandOpens

abbrev pub opens_of : Request → CommandOpens
opens_of (Attach option unit name) = OpensForUnit (mode_of option)
opens_of (Restore force name) = OpensSaved
opens_of (Do echo strict name arguments) = OpensOwn
opens_of (Load name) = OpensOwn
opens_of (Dump from to name) = OpensOwn
opens_of (Save name) = OpensOwn
opens_of request = OpensNone

-- whether that attaches a file to a unit
abbrev pub attaches : CommandOpens → Bool
attaches OpensNone = false
attaches OpensOwn = false
attaches (OpensForUnit mode) = true
attaches OpensSaved = true

-- how many openings may have failed that neither a note nor the answer names: where a file is made that is not there, it is
-- looked for first, and that it was not found counts where names are not told
abbrev pub most_unnoted : CommandOpens → Bool → ℕ
most_unnoted OpensNone tells = 0
most_unnoted OpensOwn tells = 0
most_unnoted (OpensForUnit mode) tells = most_unnamed mode tells
most_unnoted OpensSaved tells = 0

-- how many ids it gives at most: one for each file that it opens
abbrev pub most_opened : CommandOpens → ℕ
most_opened OpensNone = 0
most_opened OpensOwn = 1
most_opened (OpensForUnit mode) = 1
most_opened OpensSaved = 1 + file_units

-- The count of openings has risen by just as many as the notes of openings are, by one more where a file is missing of
-- files that tell nothing, and by those few that nothing names.
pub record OpeningsAre (most : ℕ) (tells : Bool) (answer : Answer) (kept : List FaultNote) (old new : FileState) : Type 0 where
  pub unnoted : ℕ
  pub few : unnoted ≤ most
  pub count : new.open_faults ≡ raised_by (unnoted + (openings_noted kept + one_if (is_missing answer && not tells))) old.open_faults

-- The notes that were kept are those of calls that failed just now: they have the command's number and the time at which
-- the machine stands, there is just one for each such call, but for the one closing of each file that was given back, and
-- they are why a file was refused.
pub record KeepsAs (opens : CommandOpens) (number time : ℕ) (tells : Bool) (answer : Answer) (notes notes' : List FaultNote) (old new : FileState) : Type 0 where
  pub kept : List FaultNote
  pub added : notes' ≡ notes ++ kept
  pub few : length kept ≤ 16
  pub stamped : AllByRecursion (IsStamped number time) kept
  pub counted : AreCounted kept old new
  pub exact : AreExact (attaches opens && gives_back answer) kept old new
  pub openings : OpeningsAre (most_unnoted opens tells) tells answer kept old new
  pub given : new.given ≤ old.given + most_opened opens
  pub cause : FileCause (record { command = number; time = time }) tells answer kept old new

-- those of a command that opens no file: each note stands for a call that failed, and no such call is without one
abbrev pub Keeps : ℕ → ℕ → Bool → Answer → List FaultNote → List FaultNote → FileState → FileState → Type 0
Keeps number time tells answer notes notes' old new = KeepsAs OpensNone number time tells answer notes notes' old new

-- the same of a command that opens a file of its own, and attaches none
abbrev pub KeepsOwn : ℕ → ℕ → Bool → Answer → List FaultNote → List FaultNote → FileState → FileState → Type 0
KeepsOwn number time tells answer notes notes' old new = KeepsAs OpensOwn number time tells answer notes notes' old new

-- whether that is RESTORE
abbrev pub is_restore : Request → Bool
is_restore (Restore force name) = true
is_restore request = false

-- The notes of RESTORE have the time before it: the machine that is put back has a time of its own.
abbrev pub note_time : Bool → ℕ → ℕ → ℕ
note_time true before now = before
note_time false before now = now

abbrev pub CauseBy : Bool → Stamp → Bool → Answer → List FaultNote → FileState → FileState → Type 0
CauseBy true stamp tells answer kept old new = RestoreFileCause stamp tells answer kept old new
CauseBy false stamp tells answer kept old new = FileCause stamp tells answer kept old new

-- the notes of any command
pub record KeepsBy (restores : Bool) (opens : CommandOpens) (number before now : ℕ) (tells : Bool) (answer : Answer) (notes notes' : List FaultNote) (old new : FileState) : Type 0 where
  pub kept : List FaultNote
  pub added : notes' ≡ notes ++ kept
  pub few : length kept ≤ 16
  pub stamped : AllByRecursion (IsStamped number (note_time restores before now)) kept
  pub counted : AreCounted kept old new
  pub exact : AreExact (attaches opens && gives_back answer) kept old new
  pub openings : OpeningsAre (most_unnoted opens tells) tells answer kept old new
  pub given : new.given ≤ old.given + most_opened opens
  pub cause : CauseBy restores (record { command = number; time = note_time restores before now }) tells answer kept old new

-- The console's count of faults rises by one where the answer is that it refused a byte, and stands still with every
-- other answer.
abbrev pub ConsoleCounts : Answer → ℕ → ℕ → Type 0
ConsoleCounts (Err Console) before now = now ≡ raised before
ConsoleCounts answer before now = now ≡ before

-- an answer that is not the console's, and speaks of no port
abbrev pub IsOwn : Answer → Type 0
IsOwn (Err Console) = ⊥
IsOwn (Err PortFailed) = ⊥
IsOwn (Ok (Ran stop)) = ⊥
IsOwn answer = Unit {0}

-- an answer of ATTACH of a port
abbrev pub IsOfPort : Answer → Type 0
IsOfPort (Err Console) = ⊥
IsOfPort (Err NoFile) = ⊥
IsOfPort (Err (FileFailed who)) = ⊥
IsOfPort (Ok (Ran stop)) = ⊥
IsOfPort (Ok (Exit status)) = ⊥
IsOfPort answer = Unit {0}

-- an answer of RESTORE
abbrev pub IsRestoreAnswer : Answer → Type 0
IsRestoreAnswer (Err Console) = ⊥
IsRestoreAnswer (Ok (Ran stop)) = ⊥
IsRestoreAnswer (Ok (Exit status)) = ⊥
IsRestoreAnswer answer = Unit {0}

-- the same of a call that takes no memory
abbrev pub IsPlain : Answer → Type 0
IsPlain (Err Console) = ⊥
IsPlain (Err OutOfMemory) = ⊥
IsPlain (Err PortFailed) = ⊥
IsPlain (Ok (Ran stop)) = ⊥
IsPlain answer = Unit {0}

-- an answer of a call that prints: it may be the console's
abbrev pub IsShown : Answer → Type 0
IsShown (Ok (Ran stop)) = ⊥
IsShown (Ok (Exit status)) = ⊥
IsShown (Err OutOfMemory) = ⊥
IsShown (Err PortFailed) = ⊥
IsShown answer = Unit {0}

-- an answer of a run: the stop of its machine, which is never that of the console, or that the console refused a byte
abbrev pub IsRunAnswer : Answer → Type 0
IsRunAnswer (Ok (Ran ConsoleFault)) = ⊥
IsRunAnswer (Ok (Exit status)) = ⊥
IsRunAnswer (Err OutOfMemory) = ⊥
IsRunAnswer (Err PortFailed) = ⊥
IsRunAnswer answer = Unit {0}

-- a command was refused; that the console refused a byte is no refusal
abbrev pub IsRefused : Answer → Type 0
IsRefused (Err Console) = ⊥
IsRefused (Err fault) = Unit {0}
IsRefused (Ok next) = ⊥

-- A run that stopped for a failing call names the unit, the file that is attached to it, and a call that a run makes there,
-- with what a write had written; and the count of that very file rose by one, and no other.
abbrev pub RunCause : Answer → List (Option Held) → FileState → FileState → Type 0
RunCause (Ok (Ran stop)) slots old new = HasUnit stop × StopCause (Some stop) slots old new
RunCause answer slots old new = Unit {0}

-- A failing call of an ATTACH is of openings, with no file, or of the very file that it opened, whose count rose; its note is
-- the one that is kept.
abbrev pub AttachNote : Request → Answer → Stamp → List FaultNote → List FaultNote → FileState → FileState → Type 0
AttachNote (Attach option unit name) (Err (FileFailed who)) stamp notes notes' old new =
    (f : UnitFault) × (who ≡ subject.Unit unit) × (notes' ≡ notes ++ fault_note stamp f ∷ []) × IsNewFault f unit old new
AttachNote request answer stamp notes notes' old new = Unit {0}

-- the status of an exit is 0 to 99
abbrev pub IsExitAnswer : Answer → Type 0
IsExitAnswer (Ok (Exit status)) = status ≤ 99
IsExitAnswer answer = Unit {0}

-- what a command that runs promises: what it is told of comes whatever the record of the lines comes to in the end
pub record RunDone (reply : List LineAnswer → List CommandNote → Reply) (answer : Answer) (old new : CommandState) (files files' : FileState) (ports ports' : LineState)
    (named line_tells tells : Bool) (before after : List ℕ) (sink sink_now : ℕ) : Type 0 where
  pub told : AreTold named old.machine.slots → AreLinesTold line_tells ports old.machine.lines
      → (whole : List LineAnswer) → IsFirst (record_in ports'.told) whole
      → Did (reply whole) old.command answer (live_in new (beyond files'.files ports' whole)) tells (output before ports.sent) (output after ports'.sent)
      (notes_said old.notes) (notes_said new.notes)
  pub lines : LinesGoOn line_tells ports old.machine.lines ports' new.machine.lines
  pub keeps : Keeps old.command new.machine.time named answer old.notes new.notes files files'
  pub whose : AreOwn old.machine.slots new.machine.slots old.notes new.notes files files'
  pub keys : new.keys ≡ old.keys
  pub limit : new.limit ≡ old.limit
  pub command : new.command ≡ old.command
  pub slots : new.machine.slots ≡ old.machine.slots
  pub opened : files'.opened ≡ files.opened
  pub counts : ConsoleCounts answer sink sink_now
  pub ran : RunCause answer old.machine.slots files files'
  pub own : IsRunAnswer answer
  pub exit : IsExitAnswer answer

-- ---- want of memory

-- memory may be wanted where the room of 16 notes is not there yet, and by a command that takes some of its own
abbrev pub want_by : Bool → ℕ → Type 0
want_by true spare = Unit {0}
want_by false spare = spare < 16

abbrev pub MayWant : ℕ → Request → Type 0
MayWant spare request = want_by (nature request).takes_memory spare

-- Whether it is said of all files that they are as they were: behind a command that was reading one, only where files are
-- told.
abbrev pub says_files : Bool → Request → Bool
says_files tells request = if is_some (nature request).reads_whole then tells else true

-- a note of a closing of that subject, in the command with that number, at that time
abbrev pub IsShutNote : Subject → ℕ → ℕ → FaultNote → Type 0
IsShutNote who number time n = IsStamped number time n × IsClosingOf who n

-- The notes that a command leaves for which memory ran out: those that were there, and behind them, where it was
-- reading a file whole, those of its closing.
abbrev pub NotesRemain : Option Subject → ℕ → ℕ → List FaultNote → List FaultNote → Type 0
NotesRemain None number time notes notes' = notes' ≡ notes
NotesRemain (Some who) number time notes notes' =
    (kept : List FaultNote) × (notes' ≡ notes ++ kept) × AllByRecursion (IsShutNote who number time) kept

-- Nothing was done, but that a command may have flushed the disk, or closed the file that it was reading. What a flush makes of
-- files is said where the disk's file was in step with the copy of it.
pub record IsUndone (flushes : Bool) (reads : Option Subject) (says : Bool) (old new : CommandState) (before after : List ℕ) (files files' : FileState) : Type 0 where
  pub left : AreLeft flushes old new
  pub notes : NotesRemain reads old.command old.machine.time old.notes new.notes
  pub written : after ≡ before
  pub lines : new.machine.lines ≡ old.machine.lines
  pub live : IsTrue says → StepsIf flushes old.machine files.files → (lines : LineState) (whole : List LineAnswer)
      → Remains flushes (live_in old (beyond files.files lines whole)) (live_in new (beyond files'.files lines whole))

-- ---- the end of the input

-- All units have lost their files, up to one that has kept it, with the notes that were kept for it: they are used, and
-- they may come behind those of the last command. The files are what that makes of them where the disk's file was in step with
-- the copy of it; all else is so whatever files there are.
pub record ClosesFiles (step : Type 0) (number : ℕ) (live new : Live) (keeper : Option UnitName) (notes notes' : List Note) : Type 0 where
  pub own : List CommandNote
  pub kept : notes' ≡ notes ++ numbered number own
  pub used : (emptied_all own live).used ≡ length own
  pub keeps : (emptied_all own live).kept ≡ keeper
  pub after : new ≡ record (filed_live (emptied_all own live) live) { files = new.files }
  pub content : step → new.files ≡ (filed_live (emptied_all own live) live).files
  pub behind : ComeBehind live own

-- the same at the end, where the ports of the terminal lines are given up behind that, if no unit has kept its file
pub record Closes (step : Type 0) (number : ℕ) (live new : Live) (keeper : Option UnitName) (notes notes' : List Note) : Type 0 where
  pub own : List CommandNote
  pub kept : notes' ≡ notes ++ numbered number own
  pub used : (emptied_all own live).used ≡ length own
  pub keeps : (emptied_all own live).kept ≡ keeper
  pub after : new ≡ record (emptied_live (emptied_all own live) live) { files = new.files }
  pub content : step → new.files ≡ (emptied_live (emptied_all own live) live).files
  pub behind : ComeBehind live own

-- what a function answers that prints and then has that to say
abbrev pub told_or_console : {T E : Type 0} → Result T E → Next → Answer
told_or_console (Ok _) next = Ok next
told_or_console (Err _) next = Err Console
