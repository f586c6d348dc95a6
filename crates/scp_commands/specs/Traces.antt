-- What a command that is refused may leave behind.
use Rattle.std.specs.Prelude.{◌≡◌, ◌⊎◌, true, [], Bool, false}
use Rattle.nova_machine.specs.Machine.{MachineState}
use Rattle.scp_parser.specs.Command.{Request}
use Rattle.command_session.specs.declared.fault.CommandFault.{CommandFault}
use Rattle.command_session.specs.declared.fault.CommandFault.TheVariants.{FileFailed, PortFailed}
use Rattle.command_session.specs.Live.{Live}
use Rattle.command_session.specs.Nature.{nature}
use Rattle.command_session.specs.Remains.{flushed_machine}
use Rattle.command_session.specs.Reply.{Reply}

-- the commands that may leave something behind where they are refused with that fault: ATTACH, which may have made or
-- emptied its file before a call on it failed; DETACH, EXIT and SAVE, whose write may have changed a first part of the
-- disk's file; and DUMP and SAVE, whose file may have a first part of the tape or of the state
abbrev pub traces_by : Bool → CommandFault → Type 0
traces_by true (FileFailed who) = Unit {0}
traces_by true fault = ⊥
traces_by false fault = ⊥

-- beside them ATTACH of a port that was not listened on, and RESTORE of such a one: the call was made
abbrev pub LeavesTraces : Request → CommandFault → Type 0
LeavesTraces request PortFailed = Unit {0}
LeavesTraces request fault = traces_by (nature request).leaves_part fault

-- a machine that is left by a command that flushes or does not, as it is seen
abbrev pub SeenRemains : Bool → MachineState → MachineState → Type 0
SeenRemains false old new = new ≡ old
SeenRemains true old new = (new ≡ old) ⊎ (new ≡ flushed_machine old)

-- it has printed nothing, and changed nothing but files, the mark of a disk that was flushed, and what is still to come on lines
pub record IsUntouched (flushes : Bool) (live : Live) (reply : Reply) : Type 0 where
  pub machine : SeenRemains flushes live.machine reply.after.live.machine
  pub watch : reply.after.live.watch ≡ live.watch
  pub keys : reply.after.live.keys ≡ live.keys
  pub lines : reply.after.live.lines ≡ live.lines
  pub text : reply.made ≡ []
