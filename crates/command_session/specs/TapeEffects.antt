-- LOAD and DUMP (SIMH Users' Guide, "Loading and Saving Programs"), of loader tapes.
use Rattle.std.specs.Prelude.{ℕ, ◌&&◌, nat_le, nat_lt, Bool, List, [], Result, Ok, Err, if◌then◌else◌}
use Rattle.std.specs.Global.{Vec}
use Rattle.file_commands.specs.declared.note.Subject.TheVariants as subject
use Rattle.file_commands.specs.Notes.{CommandNote}
use Rattle.whole_files.specs.declared.whole.WholeFault.{WholeFault}
use Rattle.whole_files.specs.Whole.{WholeSaid, WholeIs, whole_act}
use Rattle.whole_files.specs.Writing.{WriteSaid, WriteAct, write_act}
use Rattle.binary_load.specs.declared.faults.LoadFault.{LoadFault}
use Rattle.binary_load.specs.Tape.{Tape, tape, put_all}
use Rattle.binary_load.specs.Dump.{dumped}
use Rattle.nova_machine.specs.Machine.{MachineState}
use Rattle.nova_machine.specs.Turn.{with_memory}
use Rattle.command_session.specs.declared.next.Next.TheVariants.{Go}
use Rattle.command_session.specs.declared.fault.CommandFault.TheVariants.{OutOfRange}
use Rattle.command_session.specs.Live.{Live, standing, with_machine}
use Rattle.command_session.specs.Reply.{Answer, Reply, refused}
use Rattle.command_session.specs.FaultText.{tape_fault}
use Rattle.command_session.specs.RunEffects.{starting_at}
use Rattle.command_session.specs.WholeCalls.{whole_calls, write_calls, said_answer, wrote_answer}

-- ---- LOAD

-- what bytes say as a tape for the memory of a machine
abbrev pub tape_in : MachineState → List ℕ → Result Tape LoadFault
tape_in m bytes = tape m.processor.memory.size bytes

abbrev pub tape_answer : Result Tape LoadFault → Answer
tape_answer (Ok says) = Ok Go
tape_answer (Err fault) = Err (tape_fault fault)

-- The machine with the words of a tape at their addresses, and with PC at its start, where it has one. A tape with a fault
-- changes nothing.
abbrev pub tape_machine : Result Tape LoadFault → MachineState → MachineState
tape_machine (Ok says) m = starting_at says.start (with_memory m (put_all m.processor.memory says.stores))
tape_machine (Err fault) m = m

-- the same of a file that was to be read
abbrev pub loaded_machine : WholeSaid → MachineState → MachineState
loaded_machine (WholeIs bytes) m = tape_machine (tape_in m bytes) m
loaded_machine said m = m

-- the same of what a reading answered
abbrev pub read_machine : Result (Vec ℕ) WholeFault → MachineState → MachineState
read_machine (Ok v) m = tape_machine (tape_in m v.items) m
read_machine (Err why) m = m

abbrev pub load_answer : MachineState → WholeSaid → Answer
load_answer m said = said_answer subject.Load (λ bytes. tape_answer (tape_in m bytes)) said

-- LOAD reads a file whole, closes it again, and loads it as a tape. It prints nothing.
unfoldable pub load_reply : List CommandNote → Live → List ℕ → Reply
load_reply notes live name =
    let read = whole_act (whole_calls subject.Load live.machine.time notes) name live.files in
    record {
      made = [];
      answer = load_answer live.machine read.0;
      after = standing read.1 (with_machine live (loaded_machine read.0 live.machine));
    }

-- ---- DUMP

-- Whether words from one address up to another can be dumped: the memory has them. No memory has more than 32768 words.
abbrev pub can_dump : MachineState → ℕ → ℕ → Bool
can_dump m from to = nat_le from to && nat_lt to m.processor.memory.size

-- the tape of these words, which starts at PC
abbrev pub dump_of : MachineState → ℕ → ℕ → List ℕ
dump_of m from to = dumped m.processor.memory from to m.processor.cpu.pc

abbrev pub dump_answer : WriteSaid → Answer
dump_answer said = wrote_answer subject.Dump said

-- what a file that was written leaves
abbrev pub dump_after : WriteAct → Live → Reply
dump_after act live = record {
  made = [];
  answer = dump_answer act.said;
  after = standing act.met (record live { files = act.files });
}

-- DUMP makes a file, or empties it, writes the tape, and closes it again. It prints nothing. Where an address is out of
-- range no file is opened.
unfoldable pub dump_reply : List CommandNote → Live → ℕ → ℕ → List ℕ → Reply
dump_reply notes live from to name =
    if can_dump live.machine from to then dump_after
    (write_act (write_calls subject.Dump live.machine.time notes) name (dump_of live.machine from to) live.files) live
    else refused OutOfRange live
