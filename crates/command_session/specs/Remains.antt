-- What stands where a command was refused, or where memory ran out in it: all is as it was. Behind a command that
-- flushes the disk before its own work that may be done, and it stays so.
use Rattle.std.specs.Prelude.{◌≡◌, ◌⊎◌, Bool, true, false, List, Option, None, Ok, Err}
use Rattle.file_traits.specs.Lists.{NamedBytes}
use Rattle.unit_files.specs.Buffer.{disk_unit}
use Rattle.unit_files.specs.Aside.{nothing_aside}
use Rattle.unit_files.specs.InStep.{InStep}
use Rattle.file_commands.specs.declared.note.Subject.{Subject}
use Rattle.nova_machine.specs.Machine.{MachineState, attached_files}
use Rattle.command_session.specs.Live.{Live, CommandState}
use Rattle.command_session.specs.Nature.{nature}
use Rattle.command_session.specs.FileEffects.{flushed_files}
use Rattle.command_session.specs.Asked.{Asked}

-- a machine behind a flush: the disk holds nothing that is to be written back
abbrev pub flushed_machine : MachineState → MachineState
flushed_machine m = record m { disk = record m.disk { written = false } }

-- the same with all files: that of the disk, by its name, has what the disk holds
abbrev pub flushed : Live → Live
flushed live = record live { machine = flushed_machine live.machine; files = flushed_files None disk_unit live }

-- A machine that is left by a command that flushes or does not: behind a flush nothing is kept beside the copy, of which no
-- definition speaks.
abbrev pub MachineRemains : Bool → MachineState → MachineState → Type 0
MachineRemains false old new = new ≡ old
MachineRemains true old new = (new ≡ old) ⊎ (new ≡ record (flushed_machine old) { aside = nothing_aside })

-- the disk's file is in step with the copy of it, where a command flushes
abbrev pub StepsIf : Bool → MachineState → List NamedBytes → Type 0
StepsIf false m files = Unit {0}
StepsIf true m files = InStep (attached_files m) files

-- the same of all that commands work on
abbrev pub Remains : Bool → Live → Live → Type 0
Remains false old new = new ≡ old
Remains true old new = (new ≡ old) ⊎ (new ≡ flushed old)

-- machine and watch tables behind a command that was refused
pub record AreLeft (flushes : Bool) (old new : CommandState) : Type 0 where
  pub machine : MachineRemains flushes old.machine new.machine
  pub watch : new.watch ≡ old.watch

-- whether that which a line asks for flushes
abbrev pub flushes_of : Asked → Bool
flushes_of (Ok request) = (nature request).flushes
flushes_of (Err fault) = false

-- the subject of the file that this reads whole, if it does
abbrev pub reader_of : Asked → Option Subject
reader_of (Ok request) = (nature request).reads_whole
reader_of (Err fault) = None
