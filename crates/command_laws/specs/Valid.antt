-- What every state is within a session, and what commands make of it.
use Rattle.std.specs.Prelude.{◌≡◌, ◌≢◌, ◌≤◌, ℕ, Bool, true, false, IsTrue, List, [], map, drop, length, Some, Ok, Err}
use Rattle.observations.specs.Observations.{StandsAt}
use Rattle.nova_machine.specs.Comes.{Output}
use Rattle.nova_machine.specs.Run.{last_time}
use Rattle.nova_machine.specs.Machine.{MachineState, lines_for, place_of as line_place}
use Rattle.nova_machine.specs.Seen.{unnumbered}
use Rattle.nova_machine.specs.Valid.{AreBytes, Valid, DiskIsItsFile, LeavesDiskFile}
use Rattle.file_commands.specs.Notes.{CommandNote}
use Rattle.unit_files.specs.Buffer.{disk_unit}
use Rattle.state_transfer.specs.SavedValid.{AreStandard}
use Rattle.scp_parser.specs.Command.{Request, Attach, Detach, IsKept}
use Rattle.scp_parser.specs.Laws.{IsOfBytes}
use Rattle.command_session.specs.declared.next.Next.TheVariants.{Go, Do}
use Rattle.command_session.specs.declared.fault.CommandFault.TheVariants.{OutOfMemory}
use Rattle.command_session.specs.Live.{Live, Standing}
use Rattle.command_session.specs.DiskFile.{disk_alone}
use Rattle.command_session.specs.Nature.{nature}
use Rattle.command_session.specs.Reply.{Answer, Reply}
use Rattle.scp_commands.specs.Effect.{effect}
use Rattle.command_session.specs.Doing.{Does}
use Rattle.command_session.specs.Remains.{Remains}
use Rattle.terminal_ports.specs.Ports.{HavePortsApart, AreNumbered}

-- a machine of this program, as it is seen: it has the standard units, and no numbers of files, nothing kept aside and no lines of
-- its own
pub record IsProgramMachine (m : MachineState) : Type 0 where
  pub units : AreStandard m.units
  pub numbers : map unnumbered m.slots ≡ m.slots
  pub aside : m.aside ≡ []
  pub lines : m.lines ≡ []

-- A state that commands work on: all is in range, no time comes past the end of time, and it has a machine of this program,
-- with as many lines as its units say, no two of which have one port. The ports of the multiplexer's lines rise by one.
pub record ValidLive (live : Live) : Type 0 where
  pub valid : Valid live
  pub time : live.machine.time ≤ last_time
  pub machine : IsProgramMachine live.machine
  pub count : length live.lines ≡ length (lines_for live.machine.units)
  pub ports : HavePortsApart live.lines
  pub numbered : AreNumbered (drop (line_place 1) live.lines)

-- the script that a DO has read is of bytes
abbrev pub GivesBytes : Answer → Type 0
GivesBytes (Ok (Do file)) = AreBytes file.text
GivesBytes answer = Unit {0}

-- What the disk holds of its file is what is in it in a later state too, where the disk alone has changed its file.
abbrev pub CopyFollows : Live → Live → Type 0
CopyFollows old new = DiskIsItsFile old → IsTrue (disk_alone old new) → DiskIsItsFile new

-- So it is where the file has the bytes that it had, if nothing was to be written back; behind a SAVE, where that had nothing to
-- write back.
abbrev pub CopyStays : Bool → Live → Live → Type 0
CopyStays flushes old new =
    DiskIsItsFile old → (flushes ≡ true → old.machine.disk.written ≡ false)
    → (new.machine.disk.written ≡ false → old.machine.disk.written ≡ false → LeavesDiskFile old new) → DiskIsItsFile new

-- a command leaves such a state, each text of it comes in one, and a script that it has read is of bytes
pub record IsValidReply (reply : Reply) : Type 0 where
  pub after : ValidLive reply.after.live
  pub made : (at : Standing) → StandsAt at reply.made → ValidLive at.live
  pub script : GivesBytes reply.answer

pub record CommandsKeepStates : Type 0 where
  -- a command with its facts, whose texts are of bytes, keeps such a state, and the disk's copy that of its file, where the disk
  -- alone has changed that, and where it is as it was
  pub valid : (limit : ℕ) (notes : List CommandNote) (live : Live) (r : Request) → ValidLive live → IsKept r
      → IsOfBytes r → IsValidReply (effect limit notes live r)
  pub disk : (limit : ℕ) (notes : List CommandNote) (live : Live) (r : Request) → ValidLive live → IsKept r
      → IsOfBytes r → CopyFollows live (effect limit notes live r).after.live
  pub stays : (limit : ℕ) (notes : List CommandNote) (live : Live) (r : Request) → ValidLive live → IsKept r
      → IsOfBytes r → CopyStays (nature r).flushes live (effect limit notes live r).after.live
  -- an ATTACH of the disk and a DETACH of it make that so anew
  pub attached : (limit : ℕ) (notes : List CommandNote) (live : Live) (option : ℕ) (name : List ℕ) → ValidLive live
      → (effect limit notes live (Attach option disk_unit name)).answer ≡ Ok Go
      → DiskIsItsFile (effect limit notes live (Attach option disk_unit name)).after.live
  pub detached : (limit : ℕ) (notes : List CommandNote) (live : Live) → ValidLive live
      → (effect limit notes live (Detach (Some disk_unit))).answer ≡ Ok Go
      → DiskIsItsFile (effect limit notes live (Detach (Some disk_unit))).after.live
  -- what a call has left that does such a command, also where the console refused a byte; and what one has left that
  -- was refused or that memory ran out in
  pub left : (reply : Reply) (answer : Answer) (at : Standing) (tells : Bool) (before after : Output)
      → IsValidReply reply → answer ≢ Err OutOfMemory → Does reply answer at tells before after → ValidLive at.live
  pub remains : (flushes : Bool) (old new : Live) → ValidLive old → Remains flushes old new → ValidLive new
