-- SAVE and RESTORE (SIMH Users' Guide, "Saving and Restoring Simulator State").
use Rattle.std.specs.Prelude.{ℕ, ◌+◌, ◌==◌, Bool, true, false, List, [], ◌∷◌, drop, Option, Some, None, Result, Ok, Err, if◌then◌else◌}
use Rattle.host_lines.specs.Traffic.{Answer as LineAnswer, Failed, Replied}
use Rattle.terminal_ports.specs.Listening.{listening_each}
use Rattle.unit_trait.specs.declared.kind.UnitName.{UnitName}
use Rattle.unit_files.specs.Acts.{Failure}
use Rattle.unit_files.specs.Attachments.{no_attachments}
use Rattle.file_commands.specs.declared.note.Subject.{Subject}
use Rattle.file_commands.specs.declared.note.Subject.TheVariants as subject
use Rattle.file_commands.specs.declared.note.FaultNote.{FaultNote}
use Rattle.file_commands.specs.declared.stamp.Stamp.{Stamp}
use Rattle.file_commands.specs.Kept.{fault_note}
use Rattle.file_commands.specs.Notes.{CommandNote}
use Rattle.whole_files.specs.Whole.{WholeSaid, WholeIs, NotThere, TooLong, CallFailed, whole_act}
use Rattle.whole_files.specs.Writing.{WriteAct, write_act}
use Rattle.nova_machine.specs.Seen.{attached_in}
use Rattle.state_text.specs.declared.fault.StateFault.{StateFault}
use Rattle.saved_files.specs.declared.file_faults.SaveFault.{SaveFault}
use Rattle.saved_files.specs.declared.file_faults.SaveFault.TheVariants as save
use Rattle.saved_files.specs.declared.file_faults.RestoreFault.{RestoreFault}
use Rattle.saved_files.specs.declared.file_faults.RestoreFault.TheVariants as restore
use Rattle.state_transfer.specs.Ports.{ports_wanted}
use Rattle.saved_session.specs.Parts.{State}
use Rattle.state_transfer.specs.PutBack.{misses_unit, put_back}
use Rattle.state_text.specs.Reading.{reading}
use Rattle.saved_files.specs.Putting.{FileRefusal, IsMissing, IsTooLong, HasChanged, CallFails, first_refused}
use Rattle.saved_files.specs.Taking.{first_unsaved, files_flushed, copy_flushed}
use Rattle.state_transfer.specs.Session.{saved}
use Rattle.state_text.specs.Text.{text}
use Rattle.command_session.specs.declared.fault.CommandFault.{CommandFault}
use Rattle.command_session.specs.declared.fault.CommandFault.TheVariants.{AlreadyAttached, NoFile, FileTooLong, FileFailed, MissingUnit, Changed}
use Rattle.state_commands.specs.StateFaults.{state_fault}
use Rattle.command_session.specs.LineEffects.{listen_answer}
use Rattle.command_session.specs.Live.{Live, standing}
use Rattle.command_session.specs.Reply.{Reply, refused}
use Rattle.command_session.specs.WholeCalls.{whole_calls, write_calls, wrote_answer}
use Rattle.command_session.specs.Occupied.{is_occupied}

-- ---- the failing call of a unit's file

abbrev pub claim_by : Subject → Failure → Option (UnitName × Failure)
claim_by (subject.Unit unit) f = Some (unit, f)
claim_by who f = None

-- the first of a command's notes, where it is of this time and of a unit
abbrev pub unit_claim : ℕ → List CommandNote → Option (UnitName × Failure)
unit_claim time [] = None
unit_claim time (n ∷ notes) = if n.time == time then claim_by n.subject n.failure else None

-- ---- SAVE

-- the disk's copy was written back, unless that is the call that fails
abbrev pub flushed_with : Option (UnitName × Failure) → Live → Live
flushed_with claim live = record live {
  machine = record live.machine { disk = copy_flushed claim (attached_in live.machine) live.machine.disk };
  files = files_flushed claim (attached_in live.machine) live.machine.disk live.files;
}

-- the state file was written, or as much of it as there is
abbrev pub state_written : WriteAct → Live → Reply
state_written act live = record {
  made = [];
  answer = wrote_answer subject.State act.said;
  after = standing act.met (record live { files = act.files });
}

abbrev pub save_written : List CommandNote → List ℕ → Live → Reply
save_written notes name live =
    state_written (write_act (write_calls subject.State live.machine.time notes) name (text (saved live)) live.files) live

-- by the call that fails while the files of units are written back and digested, if one does
abbrev pub save_by : Option (UnitName × Failure) → List CommandNote → List ℕ → Live → Reply
save_by (Some call) notes name live = record {
  made = [];
  answer = Err (FileFailed (subject.Unit call.0));
  after = standing 1 live;
}
save_by None notes name live = save_written notes name live

-- SAVE writes back what the disk holds of its file, reads the files of all units for their digests, and makes the state file, or
-- empties it, and writes it. It prints nothing.
unfoldable pub save_reply : List CommandNote → Live → List ℕ → Reply
save_reply notes live name =
    let claim = unit_claim live.machine.time notes in
    save_by (first_unsaved claim (attached_in live.machine) live.machine.disk live.files) notes name (flushed_with claim live)

-- the notes that are kept where a session was not saved
abbrev pub save_notes : Stamp → SaveFault → List FaultNote
save_notes stamp (save.Failed f) = fault_note stamp f ∷ []
save_notes stamp save.OutOfMemory = []

-- ---- RESTORE

-- why it is refused, by the file of a unit
abbrev pub refusal_fault : UnitName → FileRefusal → CommandFault
refusal_fault unit IsMissing = NoFile
refusal_fault unit IsTooLong = FileTooLong
refusal_fault unit HasChanged = Changed unit
refusal_fault unit (CallFails f) = FileFailed (subject.Unit unit)

-- it uses a note where a call failed
abbrev pub refusal_used : FileRefusal → ℕ
refusal_used (CallFails f) = 1
refusal_used refusal = 0

-- the notes that are kept where it was not put back
abbrev pub restore_notes : Stamp → RestoreFault → List FaultNote
restore_notes stamp (restore.Failed f) = fault_note stamp f ∷ []
restore_notes stamp fault = []

-- the saved session is put back, where all its ports are listened on
abbrev pub heard_live : LineAnswer → State → Live → Live
heard_live Failed s live = live
heard_live answer s live = put_back s live

abbrev pub listened_back : Replied → ℕ → State → Live → Reply
listened_back said used s live = record {
  made = [];
  answer = listen_answer said.answer;
  after = standing used (record (heard_live said.answer s live) { ahead = said.ahead });
}

-- by the first of its files that is refused, if one is
abbrev pub restored_by : Option (UnitName × FileRefusal) → ℕ → State → Live → Reply
restored_by (Some refusal) used s live = record {
  made = [];
  answer = Err (refusal_fault refusal.0 refusal.1);
  after = standing (used + refusal_used refusal.1) live;
}
restored_by None used s live = listened_back (listening_each (ports_wanted s.ports live.lines) live.ahead) used s live

-- no file is asked for where the session has a unit that is missing
abbrev pub unless_missing : Bool → ℕ → Live → Reply → Reply
unless_missing true used live reply = record { made = []; answer = Err MissingUnit; after = standing used live }
unless_missing false used live reply = reply

-- by what the bytes of its file say
abbrev pub restored_as : Bool → ℕ → List CommandNote → Result State StateFault → Live → Reply
restored_as force used notes (Err fault) live = record { made = []; answer = Err (state_fault fault); after = standing used live }
restored_as force used notes (Ok s) live =
    unless_missing (misses_unit s.machine live.machine.units) used live
    (restored_by (first_refused (unit_claim live.machine.time notes) force s.files no_attachments live.files) used s live)

-- by what is said of its file
abbrev pub restored_from : Bool → WholeSaid × ℕ → List CommandNote → Live → Reply
restored_from force (WholeIs bytes, used) notes live = restored_as force used (drop used notes) (reading bytes) live
restored_from force (NotThere, used) notes live = record { made = []; answer = Err NoFile; after = standing used live }
restored_from force (TooLong, used) notes live = record { made = []; answer = Err FileTooLong; after = standing used live }
restored_from force (CallFailed, used) notes live = record { made = []; answer = Err (FileFailed subject.State); after = standing used live }

-- RESTORE reads a state file whole and closes it again, attaches the files that it names, of which each has to be as it was
-- unless that is forced, listens on its ports, and puts the machine and the watch tables back. It prints nothing. A session
-- that has something attached is left as it is, and so is one that lacks a unit of the saved one.
unfoldable pub restore_reply : List CommandNote → Live → Bool → List ℕ → Reply
restore_reply notes live force name =
    if is_occupied (attached_in live.machine) live.lines then refused AlreadyAttached live
    else restored_from force (whole_act (whole_calls subject.State live.machine.time notes) name live.files) notes live
