-- The faults of state files and sessions, as those of commands.
use Rattle.file_commands.specs.declared.note.Subject.TheVariants as subject
use Rattle.state_text.specs.declared.fault.StateFault.{StateFault}
use Rattle.state_text.specs.declared.fault.StateFault.TheVariants as state
use Rattle.saved_files.specs.declared.file_faults.SaveFault.{SaveFault}
use Rattle.saved_files.specs.declared.file_faults.SaveFault.TheVariants as save
use Rattle.saved_files.specs.declared.file_faults.RestoreFault.{RestoreFault}
use Rattle.saved_files.specs.declared.file_faults.RestoreFault.TheVariants as restore
use Rattle.command_session.specs.declared.fault.CommandFault.{CommandFault}
use Rattle.command_session.specs.declared.fault.CommandFault.TheVariants.{NoFile, FileTooLong, FileFailed, PortFailed, OutOfMemory}
use Rattle.command_session.specs.declared.fault.CommandFault.TheVariants.{NotState, Version, BadDigest, BadField, Truncated, MissingUnit, Changed}

-- the fault of a state file
abbrev pub state_fault : StateFault → CommandFault
state_fault state.NotState = NotState
state_fault (state.Version version) = Version version
state_fault (state.BadDigest kept found) = BadDigest kept found
state_fault (state.BadField place) = BadField place
state_fault state.Truncated = Truncated
state_fault state.OutOfMemory = OutOfMemory

-- the fault of a session that was not saved, and of one that was not put back
abbrev pub save_fault : SaveFault → CommandFault
save_fault (save.Failed f) = FileFailed (subject.Unit f.unit)
save_fault save.OutOfMemory = OutOfMemory

abbrev pub restore_fault : RestoreFault → CommandFault
restore_fault restore.MissingUnit = MissingUnit
restore_fault (restore.NoFile unit) = NoFile
restore_fault (restore.TooLong unit) = FileTooLong
restore_fault (restore.Changed unit) = Changed unit
restore_fault (restore.Failed f) = FileFailed (subject.Unit f.unit)
restore_fault restore.Port = PortFailed
restore_fault restore.OutOfMemory = OutOfMemory
