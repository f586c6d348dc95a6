-- What ATTACH, LOAD and DO do, whatever their file holds: its bytes, or its length, are free, and all else is as it is defined.
use Rattle.std.specs.Prelude.{◌≡◌, ◌<◌, ℕ, false, List, Ok, Err}
use Rattle.file_traits.specs.State.{FileState}
use Rattle.unit_trait.specs.declared.kind.UnitName.{UnitName}
use Rattle.unit_files.specs.Attachments.{is_disk}
use Rattle.unit_files.specs.Acts.{Attached, attached_by}
use Rattle.nova_machine.specs.Machine.{MachineState}
use Rattle.nova_machine.specs.Seen.{attached_in}
use Rattle.command_session.specs.declared.fault.CommandFault.TheVariants.{LoadTruncated, LoadSum, PastMemory}
use Rattle.command_session.specs.Reply.{Answer}
use Rattle.command_session.specs.FileEffects.{mode_of, first_place, positioned}
use Rattle.command_session.specs.TapeEffects.{tape_in, tape_answer, tape_machine}

-- a file was opened in between: more ids are given than were
abbrev pub IsOpened : FileState → FileState → Type 0
IsOpened old new = old.given < new.given

-- A file was opened, and these bytes of it are what was loaded as a tape: the answer and the machine are those of them.
pub record LoadsBytes (answer : Answer) (m m' : MachineState) (old new : FileState) : Type 0 where
  pub was_opened : IsOpened old new
  pub bytes : List ℕ
  pub answer_is : answer ≡ tape_answer (tape_in m bytes)
  pub machine_is : m' ≡ tape_machine (tape_in m bytes) m

-- with every other answer the machine is as it was
abbrev pub LoadWorks : Answer → MachineState → MachineState → FileState → FileState → Type 0
LoadWorks (Ok next) m m' old new = LoadsBytes (Ok next) m m' old new
LoadWorks (Err (LoadTruncated place)) m m' old new = LoadsBytes (Err (LoadTruncated place)) m m' old new
LoadWorks (Err (LoadSum place)) m m' old new = LoadsBytes (Err (LoadSum place)) m m' old new
LoadWorks (Err (PastMemory origin)) m m' old new = LoadsBytes (Err (PastMemory origin)) m m' old new
LoadWorks (Err fault) m m' old new = m' ≡ m

-- a script is one of a file that was opened
abbrev pub DoWorks : Answer → FileState → FileState → Type 0
DoWorks (Ok next) old new = IsOpened old new
DoWorks (Err fault) old new = Unit {0}

-- The unit has that file, POS is the place where the unit goes on in one of some length, and all else of the machine is as it
-- was, but for the disk's copy, where the unit is the disk. Of what is kept beside that nothing is said.
pub record IsAttached (option : ℕ) (unit : UnitName) (name : List ℕ) (m m' : MachineState) : Type 0 where
  pub length : ℕ
  pub attached : attached_in m' ≡ attached_by (Attached length) (mode_of option) unit name (attached_in m)
  pub rest : m' ≡ record m { slots = m'.slots; disk = m'.disk; aside = m'.aside; units = positioned unit (first_place unit.kind length) m.units }
  pub copy : is_disk unit.kind ≡ false → m'.disk ≡ m.disk

abbrev pub AttachWorks : ℕ → UnitName → List ℕ → Answer → MachineState → MachineState → Type 0
AttachWorks option unit name (Ok next) m m' = IsAttached option unit name m m'
AttachWorks option unit name (Err fault) m m' = m' ≡ m
