-- What is said of a machine and of notes that the program lets go at its end.
use Rattle.std.specs.Prelude.{List, Option}
use Rattle.file_commands.specs.declared.note.FaultNote.{FaultNote}
use Rattle.nova_machine.specs.Machine.{MachineState}

-- of one machine and of one list of notes
abbrev pub OfSomeEnding : (Option MachineState → List FaultNote → Type 0) → Type 0
OfSomeEnding Said = (machine : Option MachineState) × (faults : List FaultNote) × Said machine faults

-- all that `simulate` promises of them, by the names of its clauses
pub record Promised (Outcome Memory Complete Resumed Ports Unopened Measured Notes Exact Openings Whose Unwritten Machine Files Unread : Type 0) : Type 0 where
  pub outcome : Outcome
  pub memory : Memory
  pub complete : Complete
  pub resumed : Resumed
  pub ports : Ports
  pub unopened : Unopened
  pub measured : Measured
  pub notes : Notes
  pub exact : Exact
  pub openings : Openings
  pub whose : Whose
  pub unwritten : Unwritten
  pub machine : Machine
  pub files : Files
  pub unread : Unread
