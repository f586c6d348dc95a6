-- What a session uses of files and lines: contents are claimed where these tell theirs.
use Rattle.std.specs.Prelude.{◌≡◌, ◌⊎◌, ℕ, Bool, IsTrue, List, [], map, Option, None, Ok, Err}
use Rattle.std.specs.List.{AllByRecursion}
use Rattle.observations.specs.Observations.{Observation}
use Rattle.host_lines.specs.Traffic.{Peer, Answer as LineAnswer}
use Rattle.telnet_lines.specs.Line.{LineOf}
use Rattle.unit_files.specs.Attachments.{Held}
use Rattle.file_commands.specs.Notes.{Note}
use Rattle.nova_machine.specs.Machine.{MachineState}
use Rattle.nova_machine.specs.Comes.{AreTold}
use Rattle.nova_machine.specs.LineChanges.{ports_of}
use Rattle.command_session.specs.Live.{Live}
use Rattle.command_session.specs.Nature.{Telling, nature}
use Rattle.command_session.specs.Nature.Telling.{Nothing, Ported, Listening, Attached, Named, Whole}
use Rattle.command_session.specs.Asked.{Asked, asked}
use Rattle.session_texts.specs.Scripts.{Script, checked}
use Rattle.scp_script.specs.Session.{State, Session, SessionEnd, InputEnded, FlushFailed, Upcoming, Ends, Comes, upcoming, ComesTo}
use Rattle.scp_script.specs.Loop.{MayFollow}

-- ---- a command

-- Files tell where it uses one: it works on one by its name, or it runs and a unit has one.
abbrev pub FilesTold : Telling → Bool → List (Option Held) → Type 0
FilesTold Named tells slots = IsTrue tells
FilesTold Whole tells slots = IsTrue tells
FilesTold Attached tells slots = AreTold tells slots
FilesTold Ported tells slots = Unit {0}
FilesTold Listening tells slots = Unit {0}
FilesTold Nothing tells slots = Unit {0}

-- where a line has one of these ports
abbrev pub PortsTold : Bool → List (Option ℕ) → Type 0
PortsTold tells ports = IsTrue tells ⊎ AllByRecursion (λ (port : Option ℕ). port ≡ None) ports

-- Lines tell where it uses one: it listens on a port, or it runs, or gives up a port or a connection, and a line has a
-- port.
abbrev pub LinesTold : Telling → Bool → List (Option ℕ) → Type 0
LinesTold Listening tells ports = IsTrue tells
LinesTold Whole tells ports = IsTrue tells
LinesTold Ported tells ports = PortsTold tells ports
LinesTold Attached tells ports = PortsTold tells ports
LinesTold Named tells ports = Unit {0}
LinesTold Nothing tells ports = Unit {0}

abbrev pub UsedTold : Bool → Bool → Telling → List (Option Held) → List (Option ℕ) → Type 0
UsedTold files lines telling slots ports = FilesTold telling files slots × LinesTold telling lines ports

-- what is refused before any command uses nothing
abbrev pub telling_of : Asked → Telling
telling_of (Ok request) = (nature request).telling
telling_of (Err fault) = Nothing

-- the same of a text, where a machine stands so and these scripts are open
abbrev pub TextTold : Bool → Bool → MachineState → List Script → Asked → Type 0
TextTold files lines m scripts what = UsedTold files lines (telling_of (checked scripts what)) m.slots (ports_of m.lines)

-- ---- a session

-- the ports of its lines
abbrev pub ports_in : Live → List (Option ℕ)
ports_in live = map (λ (line : LineOf Peer). line.port) live.lines

-- at the end of the input the port is given up, if there is one
abbrev pub EndTold : Bool → SessionEnd → List (Option ℕ) → Type 0
EndTold lines InputEnded ports = PortsTold lines ports
EndTold lines FlushFailed ports = PortsTold lines ports
EndTold lines end ports = Unit {0}

abbrev pub UpcomingTold : Bool → Bool → Live → Upcoming → Type 0
UpcomingTold files lines live (Ends end) = EndTold lines end (ports_in live)
UpcomingTold files lines live (Comes text behind) =
    UsedTold files lines (telling_of (checked behind.texts.scripts (asked text))) live.machine.slots (ports_in live)

-- what its next text uses, or its end, tells
unfoldable pub NextTold : Bool → Bool → Session → Type 0
NextTold files lines s = UpcomingTold files lines s.live (upcoming s)

-- So it is wherever a session may come that begins so, whatever its lines record and whichever calls on files fail. A
-- session uses no file that attaches none and names none, and no line where it listens on no port.
abbrev pub CourseTold : Bool → Bool → (List LineAnswer → List Note → Session) → Type 0
CourseTold files lines begin =
    (whole : List LineAnswer) (notes : List Note) → MayFollow (begin whole []).spent (begin whole []).live notes
    → (count : ℕ) (made : List (Observation State)) (at : Session) → ComesTo count (begin whole notes) made at → NextTold files lines at
