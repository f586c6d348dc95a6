-- A machine with a part of a saved one in it, and all else as it was.
use Rattle.std.specs.Prelude.{◌≡◌, IsTrue, Bool, false, List, Option, map, Result, Err}
use Rattle.host_lines.specs.Traffic.{Answer}
use Rattle.host_lines.specs.Told.{ahead_of}
use Rattle.nova_machine.specs.Seen.{Beside, seen}
use Rattle.file_traits.specs.Lists.{NamedBytes}
use Rattle.unit_files.specs.Attachments.{Attachment, attachments_of, attachment_at}
use Rattle.unit_files.specs.Buffer.{disk_unit}
use Rattle.nova_machine.specs.Machine.{MachineState}
use Rattle.nova_machine.specs.Seen.{erased}
use Rattle.nova_machine.specs.Turn.{with_memory}
use Rattle.state_transfer.specs.Listening.{AreClosed}
use Rattle.saved_session.specs.Parts.{MachinePart, State}
use Rattle.state_transfer.specs.Processor.{is_set, with_cpu_of}
use Rattle.state_transfer.specs.PutBack.{memory_from, units_from, event_from, machine_from, put_back}
use Rattle.saved_files.specs.Putting.{copy_of}
use Rattle.saved_files.specs.declared.file_faults.RestoreFault.{RestoreFault}
use Rattle.saved_files.specs.declared.file_faults.RestoreFault.TheVariants as fault

-- all but its files and its lines
abbrev pub with_machine_of : MachineState → MachinePart → MachineState
with_machine_of m p = record (with_memory (with_cpu_of m p.cpu) (memory_from (is_set p.cpu.autobit) p.cpu.size_k p.words)) {
  units = units_from p.units m.units;
  events = map event_from p.agenda;
}

-- It is seen as the saved machine, where these files are attached to it and the disk's copy is that of its file.
abbrev pub IsSeenAs : MachineState → MachineState → MachinePart → Type 0
IsSeenAs old new p =
    (attached : List (Option Attachment)) (files : List NamedBytes) → attachments_of old.slots ≡ attached
    → old.disk ≡ copy_of (attachment_at attached disk_unit) files → erased new ≡ machine_from p old.units attached files

-- A session that no line of which had a port is seen as the saved one put back into it, but that the listening was one
-- call on the lines.
abbrev pub IsPutBack : State → Beside → MachineState → Beside → MachineState → Type 0
IsPutBack s before old after new =
    AreClosed old.lines → before.keys ≡ after.keys → (whole : List Answer)
    → seen after whole new ≡ record (put_back s (seen before whole old)) { ahead = ahead_of after.lines.told whole }

-- `MissingUnit` is the answer exactly where a unit is missing.
abbrev pub SaysMissing : Result (Unit {0}) RestoreFault → Bool → Type 0
SaysMissing (Err fault.MissingUnit) misses = IsTrue misses
SaysMissing answer misses = misses ≡ false
