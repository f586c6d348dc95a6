-- What the program comes to, for a console that took so many bytes, an input that let so many reads through, and the calls
-- on files that failed.
use Rattle.std.specs.Prelude.{◌≡◌, ◌≢◌, ◌⊎◌, ℕ, ◌+◌, ◌≤◌, ◌&&◌, ◌||◌, not, Bool, true, false, IsTrue, List, [], ◌++◌, length, drop, map, Option, Some, None, IsSome, is_some, option_map}
use Rattle.fault_counts.specs.Faults.{raised, Rose}
use Rattle.observations.specs.Observations.{Trace, text_of, reads_of, sent_of}
use Rattle.observations.specs.Cut.{ends}
use Rattle.file_traits.specs.State.{Opened, FileState}
use Rattle.host_lines.specs.Traffic.{Peer}
use Rattle.host_lines.specs.Told.{ahead_of}
use Rattle.host_lines.specs.State.{LineState}
use Rattle.telnet_lines.specs.Line.{LineOf}
use Rattle.telnet_lines.specs.Joined.{seen_line}
use Rattle.unit_files.specs.Open.{AllOpen, Around}
use Rattle.file_commands.specs.declared.note.FaultNote.{FaultNote}
use Rattle.file_commands.specs.Notes.{Note}
use Rattle.file_commands.specs.Counts.{one_if, openings_noted}
use Rattle.file_commands.specs.AllUnits.{IsUnwritten}
use Rattle.whole_files.specs.Claims.{raised_by}
use Rattle.expect_actions.specs.KeysFile.{Key}
use Rattle.unit_trait.specs.Calls.{UnitState}
use Rattle.nova_machine.specs.Machine.{MachineState, lines_for}
use Rattle.nova_machine.specs.Seen.{erased}
use Rattle.nova_machine.specs.Comes.{output}
use Rattle.nova_machine.specs.LineChanges.{HasConnection, heard_with}
use Rattle.command_session.specs.Live.{Live, Beyond}
use Rattle.command_session.specs.Doing.{AllClosings}
use Rattle.command_session.specs.LinesLeft.{HasPort, AreListened}
use Rattle.terminal_ports.specs.Ports.{HavePortsApart}
use Rattle.scp_script.specs.Loop.{missed_for, given_for}
use Rattle.scp_script.specs.Perform.{RunsShort}
use Rattle.command_words.specs.declared.options.Options.{Options}
use Rattle.command_words.specs.Words.{options_of}
use Rattle.nova_top.specs.Outside.{trace_of, Outside, Left, left_by, opening, outcome, sent_by, whole_trace}
use Rattle.program_start.specs.Start.{Begins, start_of}
use Rattle.program_start.specs.WordFiles.{AreWordClosings}
use Rattle.program_start.specs.WordCounts.{files_named}

-- a machine without the numbers of open files, where there is one
abbrev pub machine_left : Option MachineState → Option MachineState
machine_left machine = option_map erased machine

-- its lines, each with who is behind its connection
abbrev pub lines_left : Option MachineState → LineState → List (LineOf Peer)
lines_left None s = []
lines_left (Some m) s = map (seen_line s) m.lines

-- what is left of it all, where every failing call was used
abbrev pub left_at : Option MachineState → Beyond → Left
left_at machine new = record {
  machine = machine_left machine;
  lines = lines_left machine new.lines;
  ahead = ahead_of new.lines.told new.whole;
  files = new.files;
  notes = [];
}

-- what is handed in, to a console that takes so many bytes and an input that lets so many reads through
abbrev pub handed_in : List UnitState → List (List ℕ) → List ℕ → Beyond → List Note → ℕ → ℕ → Outside
handed_in units words input old notes takes gives = record {
  units = units;
  words = words;
  input = input;
  files = old.files;
  ahead = ahead_of old.lines.told old.whole;
  notes = notes;
  takes = takes;
  gives = gives;
}

-- The end of the program is that of the definition, for the bytes that the console took and the reads that the input let
-- through: those that were made, at status 106, and else all that there can be; and with exactly the notes that were kept,
-- all of which it uses. The bytes of the input that were consumed are exactly those of the reads that were made, and
-- callers of lines have heard what was sent to them until then.
pub record IsOutcome (units : List UnitState) (words : List (List ℕ)) (input left before after : List ℕ) (old new : Beyond) (status : ℕ) (machine : Option MachineState) (notes : List Note) : Type 0 where
  pub taken : List ℕ
  pub gives : ℕ
  pub made : ℕ
  pub failed_read : status ≡ 106 → gives ≡ made
  pub no_failed_read : status ≢ 106 → gives ≡ length input + 1
  pub written : after ≡ before ++ taken
  pub rest : left ≡ drop made input
  pub is : outcome (handed_in units words input old notes (length taken) gives) ≡ ends status taken made (left_at machine new)
  pub heard : new.lines.sent ≡ heard_with old.lines.sent (sent_by (handed_in units words input old notes (length taken) gives))

-- Memory ran out before the first line: there is no machine, nothing was printed or read, no file has changed, nothing was
-- asked on lines, and no call has failed but closings.
pub record StopsBefore (input left before after : List ℕ) (old new : Beyond) (machine : Option MachineState) (notes : List Note) : Type 0 where
  pub none : machine ≡ None
  pub unprinted : after ≡ before
  pub unread : left ≡ input
  pub unchanged : new ≡ old
  pub closings : AreWordClosings notes

-- Memory ran out in the session, which stopped short: what the commands that were done have left stands, but that a RESTORE
-- that memory ran out in may have listened on ports.
pub record StopsInside (units : List UnitState) (words : List (List ℕ)) (options : Options) (input left before after : List ℕ) (old new : Beyond) (machine : Option MachineState) (notes : List Note) : Type 0 where
  pub keys : List Key
  pub script : Option (List ℕ)
  pub used : ℕ
  pub starts : start_of (Some options) words old.files notes ≡ (Begins options keys script, used)
  pub live : Live
  pub is : left_at machine new ≡ left_by (record { live = live; notes = [] })
  pub short : RunsShort (opening units words options keys script old.files (ahead_of old.lines.told old.whole) input (drop used notes)) live left
      (output before old.lines.sent) (output after new.lines.sent)

-- memory ran out, with words that are in their grammar
pub record IsCutShort (units : List UnitState) (words : List (List ℕ)) (input left before after : List ℕ) (old new : Beyond) (machine : Option MachineState) (notes : List Note) : Type 0 where
  pub options : Options
  pub words_are : options_of words ≡ Some options
  pub cut : StopsBefore input left before after old new machine notes ⊎ StopsInside units words options input left before after old new machine notes

-- a keys file is among the words
pub record HasKeysFile (words : List (List ℕ)) : Type 0 where
  pub options : Options
  pub words_are : options_of words ≡ Some options
  pub named : IsSome options.keys

-- a script is among the words
pub record HasScript (words : List (List ℕ)) : Type 0 where
  pub options : Options
  pub words_are : options_of words ≡ Some options
  pub named : IsSome options.script

-- a workload is among the words
pub record HasWorkload (words : List (List ℕ)) : Type 0 where
  pub options : Options
  pub words_are : options_of words ≡ Some options
  pub given : IsSome options.workload

-- the input tells its bytes where it is read, which it is where no workload is among the words
abbrev pub InputTells : List (List ℕ) → Bool → Type 0
InputTells words tells = (HasWorkload words → ⊥) → IsTrue tells

-- Each status has its cause, told or not: 100 comes exactly where the words are outside their grammar, yielding only to
-- 102; 101 comes only where there is a keys file or a script, and 105 only where there is a keys file; 102 comes only where the console's count rose by one (at the end
-- of its type by none), and at any other status that count stands still; so it is with 106 and the input's; and there is no
-- other status than these.
pub record StatusCause (words : List (List ℕ)) (status sink sink_now source source_now : ℕ) : Type 0 where
  pub usage : status ≡ 100 → options_of words ≡ None
  pub bad_words : options_of words ≡ None → (status ≡ 100) ⊎ (status ≡ 102)
  pub unopened : status ≡ 101 → HasKeysFile words ⊎ HasScript words
  pub bad_keys : status ≡ 105 → HasKeysFile words
  pub console : status ≡ 102 → sink_now ≡ raised sink
  pub input : status ≡ 106 → source_now ≡ raised source
  pub console_only : status ≢ 102 → sink_now ≡ sink
  pub input_only : status ≢ 106 → source_now ≡ source
  pub listed : (status ≤ 99) ⊎ (status ≡ 100) ⊎ (status ≡ 101) ⊎ (status ≡ 102) ⊎ (status ≡ 103) ⊎ (status ≡ 104) ⊎ (status ≡ 105) ⊎ (status ≡ 106) ⊎ (status ≡ 107)

-- There is no machine where the words are outside their grammar, or where the keys file or the script was refused. Else there
-- may be none only where memory ran out, or where there is a keys file or a script and the console refused a byte.
pub record MachineThere (words : List (List ℕ)) (status : ℕ) (machine : Option MachineState) : Type 0 where
  pub none : options_of words ≡ None → machine ≡ None
  pub refused : (status ≡ 101) ⊎ (status ≡ 105) → machine ≡ None
  pub some : (options : Options) → options_of words ≡ Some options → options.keys ≡ None → options.script ≡ None → status ≢ 103 → IsSome machine
  pub with_files : (options : Options) → options_of words ≡ Some options → status ≢ 101 → status ≢ 102 → status ≢ 103 → status ≢ 105 → IsSome machine

-- The disk has kept its file at the end of the input only where a write of it failed: its note is the last one, and the
-- count of that file has risen.
abbrev pub KeptUnwritten : Option MachineState → List FaultNote → FileState → FileState → Type 0
KeptUnwritten None notes old new = ⊥
KeptUnwritten (Some m) notes old new = IsUnwritten m.slots notes old new

-- How many openings may have failed that have no note: none where files tell. Else, without a machine, that of a file that
-- the words name; and where there is a machine, two for each unit that they give to pay for texts. None with words outside
-- their grammar.
abbrev pub missed_at_most : Bool → Bool → Option Options → ℕ
missed_at_most tells machine None = 0
missed_at_most tells false (Some options) = one_if ((is_some options.keys || is_some options.script) && not tells)
missed_at_most tells true (Some options) = missed_for tells options.budget

-- how many ids are given at most: one for each file that the words name, and those that texts give
abbrev pub given_at_most : Bool → Option Options → ℕ
given_at_most machine None = 0
given_at_most false (Some options) = files_named options
given_at_most true (Some options) = files_named options + given_for options.budget

-- and at least: where there is a machine, all files of the words were opened
abbrev pub given_at_least : Bool → Option Options → ℕ
given_at_least machine None = 0
given_at_least false (Some options) = 0
given_at_least true (Some options) = files_named options

-- The count of openings has risen by just as many as the notes of openings are, and by so many that have no note at most.
-- Without a machine that is a file of the words which was not read, and nothing else failed but closings. And no more ids were
-- given than these.
pub record OpeningsAtEnd (tells : Bool) (words : List (List ℕ)) (status : ℕ) (machine : Option MachineState) (notes : List FaultNote) (old new : FileState) : Type 0 where
  pub missed : ℕ
  pub few : missed ≤ missed_at_most tells (is_some machine) (options_of words)
  pub unread : machine ≡ None → 1 ≤ missed → ((status ≡ 101) ⊎ (status ≡ 102)) × AllClosings notes
  pub openings : new.open_faults ≡ raised_by (missed + openings_noted notes) old.open_faults
  pub given : new.given ≤ old.given + given_at_most (is_some machine) (options_of words)
  pub opened : old.given + given_at_least (is_some machine) (options_of words) ≤ new.given

-- The files of the machine's units are open, and beside them those that were open before, and no others; without a machine
-- these alone.
abbrev pub FilesAtEnd : Option MachineState → List Opened → List Opened → Type 0
FilesAtEnd None old new = new ≡ old
FilesAtEnd (Some m) old new = AllOpen m.slots new × Around m.slots old new

-- The machine has the lines of its units, of which no two have one port. The port of each is listened on, where it has
-- one; each port that is listened on and each connection that stands is that of a line, or was there before; and the count of
-- faults has not fallen.
pub record PortsAtEnd (units : List UnitState) (lines : List (LineOf ℕ)) (old new : LineState) : Type 0 where
  pub count : length lines ≡ length (lines_for units)
  pub session : HavePortsApart lines
  pub listened : AreListened new lines
  pub ports : (port : ℕ) → IsTrue (new.listens port) → HasPort port lines ⊎ IsTrue (old.listens port)
  pub owned : (conn : ℕ) → IsTrue (new.stands conn) → HasConnection conn lines ⊎ IsTrue (old.stands conn)
  pub later : old.faults ≤ new.faults

-- that, told or not; without a machine nothing was asked of the ports and connections
abbrev pub LinesAtEnd : List UnitState → Option MachineState → LineState → LineState → Type 0
LinesAtEnd units None old new = new ≡ old
LinesAtEnd units (Some m) old new = PortsAtEnd units m.lines old new

-- no call on a file has failed
abbrev pub NoneFailed : FileState → FileState → Type 0
NoneFailed old new = ((file : ℕ) → Rose (old.faults file) (new.faults file) → ⊥) × (Rose old.open_faults new.open_faults → ⊥)

-- all that the program does with them, where no call on a file fails
abbrev pub whole_with : List UnitState → List (List ℕ) → List ℕ → Beyond → Trace Left
whole_with units words input old = whole_trace units words input old.files (ahead_of old.lines.told old.whole) []

-- The status and what is left are those of the whole trace, all of whose text was printed, all of whose reads were made, and
-- all of whose bytes for callers were sent: so it is without a failing call and with memory.
pub record IsComplete (units : List UnitState) (words : List (List ℕ)) (input left before after : List ℕ) (old new : Beyond) (status : ℕ) (machine : Option MachineState) : Type 0 where
  pub status_is : status ≡ (whole_with units words input old).ended.status
  pub is : left_at machine new ≡ (whole_with units words input old).ended.state
  pub printed : after ≡ before ++ text_of (whole_with units words input old).made
  pub rest : left ≡ drop (reads_of (whole_with units words input old).made) input
  pub heard : new.lines.sent ≡ heard_with old.lines.sent (sent_of (whole_with units words input old).made)

-- where no byte was refused and no read failed, the outcome is that of the whole trace
pub record IsWholeOutcome (o : Outside) : Type 0 where
  pub status : (outcome o).status ≡ (trace_of o).ended.status
  pub console : (outcome o).console ≡ text_of (trace_of o).made
  pub reads : (outcome o).reads ≡ reads_of (trace_of o).made
  pub state : (outcome o).state ≡ (trace_of o).ended.state
  pub sent : sent_by o ≡ sent_of (trace_of o).made
