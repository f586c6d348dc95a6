-- RUN, GO, CONT, STEP and RESET (SIMH Users' Guide, "Running A Simulated Program" and "Resetting Devices"), and what a stop
-- prints.
use Rattle.std.specs.Prelude.{ℕ, ◌^◌, ◌-◌, min, nat_le, ◌&&◌, List, [], ◌∷◌, ◌++◌, codes, Bool, true, false, not, Option, Some, None, Ok, if◌then◌else◌, decimal}
use Rattle.observations.specs.Observations.{Prints, map_made}
use Rattle.nova_word.specs.Numbers.{octal_digits}
use Rattle.nova_memory.specs.Memory.{get}
use Rattle.unit_trait.specs.declared.processor.CpuReg.TheVariants.{Pc}
use Rattle.unit_trait.specs.declared.kind.Kind.{Kind}
use Rattle.unit_trait.specs.Kinds.{unit_name}
use Rattle.file_traits.specs.declared.files.FileCall.{FileCall}
use Rattle.file_traits.specs.declared.files.FileCall.TheVariants.{Read, Write, Length, SetLength}
use Rattle.unit_files.specs.Attachments.{is_disk, is_tape}
use Rattle.unit_files.specs.Acts.{Failure}
use Rattle.file_commands.specs.declared.note.Subject.{Subject}
use Rattle.file_commands.specs.declared.note.Subject.TheVariants as subject
use Rattle.file_commands.specs.Notes.{CommandNote}
use Rattle.nova_machine.specs.declared.machine.Stop.{Stop}
use Rattle.nova_machine.specs.declared.machine.Stop.TheVariants.{Halt, ChainLimit, UnknownDevice, Break, Expect, Stepped, Limit, UnitEnd, UnitNone, BadImage, Wru, FileFault, ConsoleFault}
use Rattle.nova_machine.specs.Machine.{MachineState, reset_machine}
use Rattle.nova_machine.specs.Registers.{with_register}
use Rattle.nova_machine.specs.Notes.{RunNote}
use Rattle.nova_machine.specs.Parts.{Part}
use Rattle.nova_machine.specs.Run.{run}
use Rattle.command_session.specs.declared.next.Next.TheVariants.{Go, Ran}
use Rattle.command_session.specs.declared.fault.CommandFault.TheVariants.{OutOfRange}
use Rattle.command_session.specs.Live.{Live, standing, with_machine}
use Rattle.command_session.specs.Reply.{Answer, Reply, goes, refused}

-- the name of a stop; that of a refused byte has none, as there is nothing left to print it on
abbrev pub stop_name : Stop → List ℕ
stop_name Halt = codes "HALT instruction"
stop_name ChainLimit = codes "Indirect chain limit"
stop_name UnknownDevice = codes "Unknown device"
stop_name (Break place) = codes "Breakpoint"
stop_name (Expect place) = codes "Expect matched"
stop_name Stepped = codes "Step expired"
stop_name Limit = codes "Instruction limit"
stop_name (UnitEnd unit) = codes "End of file on " ++ unit_name unit
stop_name (UnitNone unit) = codes "No file attached to " ++ unit_name unit
stop_name (BadImage unit place) = codes "Bad tape image on " ++ unit_name unit ++ codes " at " ++ decimal place
stop_name Wru = codes "Simulation stopped"
stop_name (FileFault f) = codes "File error on " ++ unit_name f.unit
stop_name ConsoleFault = []

-- what a stop prints: a newline, its name, PC, the word there, and a newline
unfoldable pub stop_text : Stop → MachineState → List ℕ
stop_text stop m =
    10 ∷ [] ++ stop_name stop ++ codes ", PC: " ++ octal_digits 5 m.processor.cpu.pc ++ codes " (" ++ octal_digits 6 (get m.processor.memory m.processor.cpu.pc)
    ++ codes ")" ++ 10 ∷ []

abbrev pub stop_line : Option Stop → MachineState → List ℕ
stop_line (Some stop) m = stop_text stop m
stop_line None m = []

abbrev pub run_answer : Option Stop → Answer
run_answer (Some stop) = Ok (Ran stop)
run_answer None = Ok Go

-- the calls on files that a run makes: those for a byte, and those of an operation on a tape; it makes none on the disk's
abbrev pub is_run_call : Kind → FileCall → Bool
is_run_call kind Read = not (is_disk kind)
is_run_call kind Write = not (is_disk kind)
is_run_call kind Length = is_tape kind
is_run_call kind SetLength = is_tape kind
is_run_call kind call = false

-- a failing call as a run meets it
abbrev pub met_by_run : ℕ → Subject → Failure → Option RunNote
met_by_run time (subject.Unit unit) f = if is_run_call unit.kind f.call then Some (record { time = time; note = record { unit = unit; failure = f } }) else None
met_by_run time subject f = None

-- the failing call that a run is handed: the first of the command's notes, where it is one for a byte
abbrev pub run_failure : List CommandNote → Option RunNote
run_failure [] = None
run_failure (n ∷ notes) = met_by_run n.time n.subject n.failure

-- a run uses its note where it stops for it
abbrev pub used_by : Option Stop → ℕ
used_by (Some (FileFault f)) = 1
used_by stop = 0

-- a run prints what was made in it, and then its stop
unfoldable pub ran : Part → Reply
ran p = record {
  made = map_made (standing 0) p.made ++ Prints (stop_line p.stop p.after.machine) (standing (used_by p.stop) p.after) ∷ [];
  answer = run_answer p.stop;
  after = standing (used_by p.stop) p.after;
}

-- a run from PC, up to the limit of the session
abbrev pub running : ℕ → List CommandNote → Live → Reply
running limit notes live = ran (run (run_failure notes) false limit live)

-- the largest address
abbrev pub last_address : ℕ
last_address = 2 ^ 15 - 1

abbrev pub address_fits : Option ℕ → Bool
address_fits None = true
address_fits (Some address) = nat_le address last_address

-- the machine with another PC, where one is given
abbrev pub starting_at : Option ℕ → MachineState → MachineState
starting_at None m = m
starting_at (Some address) m = with_register m Pc address

abbrev pub reset_where : Bool → MachineState → MachineState
reset_where resets m = if resets then reset_machine m else m

abbrev pub started : Bool → Option ℕ → Live → Live
started resets address live = with_machine live (starting_at address (reset_where resets live.machine))

-- a run from an address, or from PC where none is given; RUN resets the machine first
unfoldable pub run_from : ℕ → List CommandNote → Bool → Option ℕ → Live → Reply
run_from limit notes resets address live = if address_fits address then running limit notes (started resets address live) else refused OutOfRange live

-- STEP runs that many instructions, or as many as the limit of the session allows, and then stops as a limit does
unfoldable pub stepped : ℕ → List CommandNote → ℕ → Live → Reply
stepped limit notes count live = ran (run (run_failure notes) (nat_le count limit) (min count limit) live)

-- a STEP is one of 1 to 2 ^ 48 instructions
abbrev pub count_fits : ℕ → Bool
count_fits count = nat_le 1 count && nat_le count (2 ^ 48)

unfoldable pub step_of : ℕ → List CommandNote → ℕ → Live → Reply
step_of limit notes count live = if count_fits count then stepped limit notes count live else refused OutOfRange live

-- RESET resets the machine and prints nothing
unfoldable pub reset_reply : Live → Reply
reset_reply live = goes (with_machine live (reset_machine live.machine))
