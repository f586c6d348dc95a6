-- All that is handed to the program, and what it comes to.
use Rattle.std.specs.Prelude.{ℕ, List, [], ◌∷◌, drop, take, map, false, is_none, true, Option, Some, None}
use Rattle.observations.specs.Observations.{Prints, Trace, map_trace}
use Rattle.observations.specs.Cut.{Outcome, cut_trace, sent_until}
use Rattle.file_traits.specs.Lists.{NamedBytes}
use Rattle.host_lines.specs.Traffic.{Peer, Gone, Ahead}
use Rattle.telnet_lines.specs.Line.{LineOf, renamed}
use Rattle.file_commands.specs.Notes.{Note}
use Rattle.unit_trait.specs.Calls.{UnitState}
use Rattle.expect_actions.specs.KeysFile.{Key}
use Rattle.expect_actions.specs.Watch.{empty_watch}
use Rattle.nova_machine.specs.Machine.{MachineState, new_machine}
use Rattle.nova_machine.specs.Seen.{erased}
use Rattle.command_session.specs.Live.{Live}
use Rattle.session_texts.specs.Scripts.{Script, begun}
use Rattle.scp_script.specs.Session.{State, Session, trace}
use Rattle.session_texts.specs.Actions.{texts_of}
use Rattle.command_words.specs.declared.options.Options.{Options}
use Rattle.program_start.specs.Start.{Start, Refused, Begins, start_of}
use Rattle.program_start.specs.Workload.{with_workload}
use Rattle.command_words.specs.Words.{options_of, script_words}

-- The units of the machine; the words and the input; all files by their names; what is still to come on lines; the calls on
-- files that fail, in order; how many bytes the console takes; and how many reads the input lets through before one fails,
-- where to find its end counts as one.
pub record Outside : Type 0 where
  pub units : List UnitState
  pub words : List (List ℕ)
  pub input : List ℕ
  pub files : List NamedBytes
  pub ahead : Ahead
  pub notes : List Note
  pub takes : ℕ
  pub gives : ℕ

-- What the program leaves, or would leave: the machine without the numbers of open files, where there is a session; its
-- lines, each with who is behind its connection, and what is still to come on them; all files; and the failing calls that
-- it has not used.
pub record Left : Type 0 where
  pub machine : Option MachineState
  pub lines : List (LineOf Peer)
  pub ahead : Ahead
  pub files : List NamedBytes
  pub notes : List Note

abbrev pub left_by : State → Left
left_by s = record {
  machine = Some s.live.machine;
  lines = s.live.lines;
  ahead = s.live.ahead;
  files = s.live.files;
  notes = s.notes;
}

-- ---- what it does

-- What commands work on before a session's first line: nothing is watched, and nobody is behind a line.
abbrev pub first_live : MachineState → List Key → List NamedBytes → Ahead → Live
first_live m keys files ahead = record {
  machine = erased m;
  watch = empty_watch;
  keys = keys;
  files = files;
  lines = map (renamed (λ _. Gone)) m.lines;
  ahead = ahead;
}

-- the script with which a session begins, and these words for its name and its arguments: its lines are not printed, and of
-- failed commands only ASSERT ends it
abbrev pub first_scripts : Option (List ℕ) → List (List ℕ) → List Script
first_scripts None words = []
first_scripts (Some text) words = begun (take 10 words) (record { text = text; echo = false; strict = false }) ∷ []

-- A session with that machine, those keys and those scripts, before its first line. The input is read where there is no
-- workload.
unfoldable pub session_with : MachineState → List Key → Options → List Script → List NamedBytes → Ahead → List ℕ → List Note → Session
session_with m keys options scripts files ahead input notes = record {
  live = first_live m keys files ahead;
  notes = notes;
  spent = 0;
  limit = options.limit;
  budget = options.budget;
  texts = texts_of [] scripts;
  reads = is_none options.workload;
  prompt = options.prompt;
  input = input;
  open_ = true;
}

-- a new session, with a new machine of those units, in whose memory a workload may be, and with a script whose name and
-- arguments are among the words
abbrev pub opening : List UnitState → List (List ℕ) → Options → List Key → Option (List ℕ) → List NamedBytes → Ahead → List ℕ → List Note → Session
opening units words options keys script files ahead input notes =
    session_with (with_workload options.workload (new_machine units)) keys options (first_scripts script (script_words words options)) files ahead input notes

-- What it does from there on, with the notes that are left. A text that refuses the words, the keys file or the script is all
-- that is printed then, there is no machine, and the input is unread.
abbrev pub trace_from : List UnitState → List (List ℕ) → Start → List NamedBytes → Ahead → List ℕ → List Note → Trace Left
trace_from units words (Refused status text) files ahead input notes =
    let left : Left = record { machine = None; lines = []; ahead = ahead; files = files; notes = notes } in
    record { made = Prints text left ∷ []; ended = record { status = status; state = left } }
trace_from units words (Begins options keys script) files ahead input notes =
    map_trace left_by (trace (opening units words options keys script files ahead input notes))

-- all that the program does with those units, words, input, files and lines, and those failing calls on files, where nothing else
-- fails
unfoldable pub whole_trace : List UnitState → List (List ℕ) → List ℕ → List NamedBytes → Ahead → List Note → Trace Left
whole_trace units words input files ahead notes =
    let start = start_of (options_of words) words files notes in
    trace_from units words start.0 files ahead input (drop start.1 notes)

abbrev pub trace_of : Outside → Trace Left
trace_of o = whole_trace o.units o.words o.input o.files o.ahead o.notes

-- what all that is handed in comes to: the status, what the console has, how many reads were made, and what is left
unfoldable pub outcome : Outside → Outcome Left
outcome o = cut_trace o.takes o.gives (trace_of o)

-- what callers of lines were sent until then, each byte with its caller
unfoldable pub sent_by : Outside → List (ℕ × ℕ)
sent_by o = sent_until o.takes o.gives (trace_of o).made
