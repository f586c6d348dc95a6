-- What a command on a file does, whatever its file holds: the bytes of the file, or its length, are free, and all else is as it
-- is defined. A file of the system, which tells nothing, leaves no more than that open.
use Rattle.std.specs.Prelude.{◌≡◌, true}
use Rattle.file_traits.specs.State.{FileState}
use Rattle.scp_parser.specs.Command.{Request, Save, Restore}
use Rattle.command_session.specs.Live.{CommandState}
use Rattle.command_session.specs.Reply.{Answer}
use Rattle.command_session.specs.Remains.{MachineRemains}
use Rattle.host_commands.specs.HostEffect.{HostWorks}
use Rattle.state_commands.specs.StateWorks.{RestoreWorks}

-- Of a SAVE the machine has written the disk's copy back, or is as it was; of a DUMP and a DO it is as it was. None of them but
-- a RESTORE changes what is watched.
abbrev pub Works : Request → Answer → CommandState → CommandState → FileState → FileState → Type 0
Works (Save name) answer s t old new = MachineRemains true s.machine t.machine × (t.watch ≡ s.watch)
Works (Restore force name) answer s t old new = RestoreWorks answer old new
Works request answer s t old new = HostWorks request answer s t old new
