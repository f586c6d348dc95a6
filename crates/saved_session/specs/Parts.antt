-- What a saved session says, as numbers and lists.
use Rattle.std.specs.Prelude.{ℕ, List, map}
use Rattle.std.specs.String.{string_bytes}
use Rattle.saved_session.specs.declared.saved.Saved.{Saved}
use Rattle.saved_session.specs.declared.saved.SavedCpu.{SavedCpu}
use Rattle.saved_session.specs.declared.saved.SavedUnit.{SavedUnit}
use Rattle.saved_session.specs.declared.saved.SavedEvent.{SavedEvent}
use Rattle.saved_session.specs.declared.saved.SavedFile.{SavedFile}
use Rattle.saved_session.specs.declared.saved.SavedBreak.{SavedBreak}
use Rattle.saved_session.specs.declared.saved.SavedExpect.{SavedExpect}
use Rattle.saved_session.specs.declared.saved.SavedPorts.{SavedPorts}
use Rattle.saved_session.specs.declared.saved.SavedSend.{SavedSend}

-- a unit, by its position in bus order, and what its registers hold
pub record UnitPart : Type 0 where
  pub position : ℕ
  pub registers : List ℕ

-- an attached file: its unit, whether it is only read, its name, and the length and digest of its bytes
pub record FilePart : Type 0 where
  pub position : ℕ
  pub unit : ℕ
  pub read_only : ℕ
  pub name : List ℕ
  pub size : ℕ
  pub digest : List ℕ

-- a break
pub record BreakPart : Type 0 where
  pub address : ℕ
  pub count : ℕ
  pub actions : List ℕ

-- a text that is waited for
pub record ExpectPart : Type 0 where
  pub count : ℕ
  pub text : List ℕ
  pub actions : List ℕ

-- the machine: its processor with interrupts and time, the words of memory, the units, and the events in their order
pub record MachinePart : Type 0 where
  pub cpu : SavedCpu
  pub words : List ℕ
  pub units : List UnitPart
  pub agenda : List SavedEvent

-- what a run watches: breaks, texts that are waited for with the bytes that were printed last, and bytes that are sent
pub record WatchPart : Type 0 where
  pub breaks : List BreakPart
  pub expects : List ExpectPart
  pub tail : List ℕ
  pub sends : List SavedSend

-- all that is saved: beside these the attached files, and the ports of the terminal lines
pub record State : Type 0 where
  pub machine : MachinePart
  pub files : List FilePart
  pub ports : SavedPorts
  pub watch : WatchPart

-- ---- what a value of the program says

abbrev pub unit_in : SavedUnit → UnitPart
unit_in u = record { position = u.position; registers = u.registers.items }

abbrev pub file_in : SavedFile → FilePart
file_in f = record {
  position = f.position;
  unit = f.unit;
  read_only = f.read_only;
  name = string_bytes f.name;
  size = f.length;
  digest = f.digest;
}

abbrev pub break_in : SavedBreak → BreakPart
break_in b = record { address = b.address; count = b.count; actions = b.actions.items }

abbrev pub expect_in : SavedExpect → ExpectPart
expect_in e = record { count = e.count; text = e.text.items; actions = e.actions.items }

abbrev pub state_in : Saved → State
state_in s = record {
  machine = record { cpu = s.cpu; words = s.words.items; units = map unit_in s.units.items; agenda = s.agenda.items };
  files = map file_in s.attachments.items;
  ports = s.ports;
  watch = record {
    breaks = map break_in s.breaks.items;
    expects = map expect_in s.expects.items;
    tail = s.tail.items;
    sends = s.sends.items;
  };
}
