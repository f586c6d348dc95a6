-- ATTACH, DETACH, and SHOW of a unit (SIMH Users' Guide, "Attaching Devices").
use Rattle.std.specs.Prelude.{ℕ, ◌==◌, ◌||◌, Bool, not, is_none, List, [], ◌∷◌, ◌++◌, codes, Option, Some, None, Ok, Err, if◌then◌else◌}
use Rattle.unit_trait.specs.declared.kind.Kind.{Kind}
use Rattle.unit_trait.specs.declared.kind.UnitName.{UnitName}
use Rattle.unit_trait.specs.Kinds.{code_of, unit_name}
use Rattle.unit_trait.specs.Calls.{UnitState}
use Rattle.unit_trait.specs.Registers.{pos_number, drive_pos_number}
use Rattle.unit_list.specs.Bus.{unit_at, with_register_in}
use Rattle.unit_files.specs.declared.modes.AttachMode.{AttachMode}
use Rattle.unit_files.specs.declared.modes.AttachMode.TheVariants.{Any, MustExist, New, ReadOnly as Reading}
use Rattle.unit_files.specs.Attachments.{Attachment, attachment_at, is_paper, is_tape, only_writes, takes_files}
use Rattle.unit_files.specs.Acts.{AttachSaid, Attached, UnitHasFile, OnlyWrites, NotThere, TooLong, CallFailed, attach_said, attach_files, attached_by, buffer_by}
use Rattle.unit_files.specs.Acts.{Failure, DetachSaid, HadNone, StillHeld, Detached, detach_said, detached, buffer_left, flush_files}
use Rattle.file_traits.specs.Lists.{NamedBytes, bytes_of}
use Rattle.file_commands.specs.declared.note.Subject.TheVariants as subject
use Rattle.file_commands.specs.Notes.{CommandNote, failure_now}
use Rattle.file_commands.specs.AllUnits.{attachable, Filed, Emptied, emptied}
use Rattle.nova_machine.specs.Machine.{MachineState}
use Rattle.nova_machine.specs.Seen.{attached_in}
use Rattle.command_session.specs.declared.next.Next.{Next}
use Rattle.command_session.specs.declared.next.Next.TheVariants.{Go}
use Rattle.command_session.specs.declared.fault.CommandFault.TheVariants.{AlreadyAttached, NotAttached, ReadOnly, NoFile, FileTooLong, FileFailed, NoSuchName}
use Rattle.command_session.specs.Live.{Live, standing, with_attached}
use Rattle.command_session.specs.Reply.{Answer, Reply, refused}
use Rattle.command_session.specs.LineEffects.{is_terminal, every_row, unported, detach_port_reply}

-- whether the units of a kind have files
abbrev pub has_files : Kind → Bool
has_files kind = takes_files kind

-- the unit has no files, or the machine has no unit of its kind
abbrev pub lacks_unit : MachineState → UnitName → Bool
lacks_unit m unit = not (has_files unit.kind) || is_none (unit_at (code_of unit.kind) m.units)

-- ---- ATTACH

-- how a file is attached, by the letter of the option
abbrev pub mode_of : ℕ → AttachMode
mode_of option = if option == 69 then MustExist else if option == 78 then New else if option == 82 then Reading else Any

abbrev pub attach_answer : UnitName → AttachSaid → Answer
attach_answer unit (Attached count) = Ok Go
attach_answer unit UnitHasFile = Err AlreadyAttached
attach_answer unit OnlyWrites = Err ReadOnly
attach_answer unit NotThere = Err NoFile
attach_answer unit TooLong = Err FileTooLong
attach_answer unit (CallFailed f) = Err (FileFailed (subject.Unit unit))

-- it uses a note where its call failed
abbrev pub attach_used : AttachSaid → ℕ
attach_used (CallFailed f) = 1
attach_used said = 0

-- where a unit goes on in its file: one that only writes at its end, and one that reads at its beginning
abbrev pub first_place : Kind → ℕ → ℕ
first_place kind count = if only_writes kind then count else 0

-- whether a unit goes through its file from place to place: one that reads or writes it byte by byte, and a tape drive
abbrev pub has_position : Kind → Bool
has_position kind = is_tape kind || is_paper kind

-- the number of the register that says where a unit is in its file: POS, and POS0 to POS7 of the eight drives
abbrev pub position_number : UnitName → ℕ
position_number unit = if is_tape unit.kind then drive_pos_number unit.unit else pos_number

-- the units, where that register of a unit holds a place
abbrev pub positioned : UnitName → ℕ → List UnitState → List UnitState
positioned unit place units = if has_position unit.kind then with_register_in unit.kind (position_number unit) place units else units

-- the unit has its file, which has these bytes, and POS is the place where it goes on; the disk holds a copy of them
abbrev pub attached_machine : AttachSaid → AttachMode → UnitName → List ℕ → List ℕ → MachineState → MachineState
attached_machine (Attached count) mode unit name bytes m =
    record (with_attached m (attached_by (Attached count) mode unit name (attached_in m))) {
      units = positioned unit (first_place unit.kind count) m.units;
      disk = buffer_by (Attached count) unit bytes m.disk;
    }
attached_machine said mode unit name bytes m = m

abbrev pub attach_with : Option Failure → AttachMode → UnitName → List ℕ → Live → Reply
attach_with fault mode unit name live =
    let said = attach_said fault mode unit name (attached_in live.machine) live.files in
    let files = attach_files fault mode unit name (attached_in live.machine) live.files in
    record {
      made = [];
      answer = attach_answer unit said;
      after = standing (attach_used said) (record live {
        machine = attached_machine said mode unit name (bytes_of files name) live.machine;
        files = files;
      });
    }

-- ATTACH opens a file for a unit. A call on it fails where the first of the command's notes says so.
unfoldable pub attach_reply : List CommandNote → Live → ℕ → UnitName → List ℕ → Reply
attach_reply notes live option unit name =
    if lacks_unit live.machine unit then refused NoSuchName live
    else attach_with (failure_now live.machine.time (subject.Unit unit) notes) (mode_of option) unit name live

-- ---- DETACH

abbrev pub detach_answer : UnitName → DetachSaid → Answer
detach_answer unit HadNone = Err NotAttached
detach_answer unit (StillHeld f) = Err (FileFailed (subject.Unit unit))
detach_answer unit (Detached fault) = Ok Go

-- it uses a note where a call failed
abbrev pub detach_used : DetachSaid → ℕ
detach_used HadNone = 0
detach_used (StillHeld f) = 1
detach_used (Detached None) = 0
detach_used (Detached (Some f)) = 1

abbrev pub detached_machine : DetachSaid → UnitName → MachineState → MachineState
detached_machine (Detached fault) unit m =
    record (with_attached m (detached unit (attached_in m))) { disk = buffer_left (Detached fault) unit m.disk }
detached_machine said unit m = m

-- what the disk holds is written back
abbrev pub flushed_files : Option Failure → UnitName → Live → List NamedBytes
flushed_files fault unit live =
    flush_files fault unit (attachment_at (attached_in live.machine) unit) live.machine.disk live.files

abbrev pub detach_with : Option Failure → UnitName → Live → Reply
detach_with fault unit live =
    let said = detach_said fault unit (attached_in live.machine) live.machine.disk in
    record {
      made = [];
      answer = detach_answer unit said;
      after = standing (detach_used said) (record live {
        machine = detached_machine said unit live.machine;
        files = flushed_files fault unit live;
      });
    }

-- DETACH writes back what the disk holds of its file, and closes a unit's file. Where the write fails, the unit keeps its
-- file; where the closing fails, it has none all the same.
unfoldable pub detach_reply : List CommandNote → Live → UnitName → Reply
detach_reply notes live unit =
    if lacks_unit live.machine unit then refused NoSuchName live
    else detach_with (failure_now live.machine.time (subject.Unit unit) notes) unit live

-- the files of a machine's units, with all files
abbrev pub filed_in : Live → Filed
filed_in live = record { attached = attached_in live.machine; disk = live.machine.disk; files = live.files }

-- what all units lose their files to, with the command's notes
abbrev pub emptied_all : List CommandNote → Live → Emptied
emptied_all notes live = emptied live.machine.time attachable (filed_in live) notes

-- what stands behind that: where one has kept its file, all have, and only files may have changed
abbrev pub left_by : Option UnitName → Filed → Live → Live
left_by None s live = record live { machine = record (with_attached live.machine s.attached) { disk = s.disk }; files = s.files }
left_by (Some unit) s live = record live { files = s.files }

-- the terminal lines have no port any more, where no unit has kept its file
abbrev pub unported_by : Option UnitName → Live → Live
unported_by None live = record live { lines = unported every_row live.lines }
unported_by (Some unit) live = live

abbrev pub filed_live : Emptied → Live → Live
filed_live e live = left_by e.kept e.left live

abbrev pub emptied_live : Emptied → Live → Live
emptied_live e live = unported_by e.kept (filed_live e live)

-- what is answered then, where that comes next
abbrev pub kept_answer : Option UnitName → Next → Answer
kept_answer None next = Ok next
kept_answer (Some unit) next = Err (FileFailed (subject.Unit unit))

abbrev pub emptied_reply : Next → Emptied → Live → Reply
emptied_reply next e live = record { made = []; answer = kept_answer e.kept next; after = standing e.used (emptied_live e live) }

-- DETACH ALL takes the files of all units away, in bus order, up to one that could not be written back, and then the
-- ports of the terminal lines
unfoldable pub detach_all_reply : List CommandNote → Live → Reply
detach_all_reply notes live = emptied_reply Go (emptied_all notes live) live

abbrev pub detach_one_or_all : List CommandNote → Live → Option UnitName → Reply
detach_one_or_all notes live None = detach_all_reply notes live
detach_one_or_all notes live (Some unit) =
    if is_terminal unit then detach_port_reply live unit.kind else detach_reply notes live unit

-- ---- SHOW

abbrev pub read_only_text : Bool → List ℕ
read_only_text read_only = if read_only then codes ", read only" else []

abbrev pub attachment_text : Option Attachment → List ℕ
attachment_text None = codes ", not attached"
attachment_text (Some a) = codes ", attached to " ++ a.name ++ read_only_text a.read_only

-- the line of a unit with that attachment
abbrev pub unit_line : UnitName → Option Attachment → List ℕ
unit_line unit a = unit_name unit ++ attachment_text a ++ 10 ∷ []

-- what SHOW prints of a unit
abbrev pub unit_text : MachineState → UnitName → List ℕ
unit_text m unit = unit_line unit (attachment_at (attached_in m) unit)
