-- The faults of commands, and what each prints.
use Rattle.std.specs.Prelude.{ℕ, nat_lt, List, [], ◌∷◌, ◌++◌, codes, decimal, Option, Some, None, if◌then◌else◌}
use Rattle.nova_word.specs.Numbers.{octal_digits}
use Rattle.binary_load.specs.declared.faults.LoadFault.{LoadFault}
use Rattle.binary_load.specs.declared.faults.LoadFault.TheVariants as tape
use Rattle.expect_actions.specs.declared.full.AddFault.{AddFault}
use Rattle.expect_actions.specs.declared.full.AddFault.TheVariants as add
use Rattle.whole_files.specs.declared.whole.WholeFault.{WholeFault}
use Rattle.whole_files.specs.declared.whole.WholeFault.TheVariants as whole
use Rattle.scp_parser.specs.declared.fault.ParseFault.{ParseFault}
use Rattle.scp_parser.specs.declared.fault.ParseFault.TheVariants as parse
use Rattle.unit_files.specs.declared.faults.AttachFault.{AttachFault}
use Rattle.unit_files.specs.declared.faults.AttachFault.TheVariants as attach
use Rattle.unit_files.specs.declared.faults.DetachFault.{DetachFault}
use Rattle.unit_files.specs.declared.faults.DetachFault.TheVariants as detach
use Rattle.file_commands.specs.declared.note.Subject.{Subject}
use Rattle.file_commands.specs.declared.note.Subject.TheVariants as subject
use Rattle.unit_trait.specs.declared.kind.UnitName.{UnitName}
use Rattle.unit_trait.specs.Kinds.{units_of, unit_name}
use Rattle.command_session.specs.declared.fault.CommandFault.{CommandFault}
use Rattle.command_session.specs.declared.fault.Detail.{Detail}
use Rattle.command_session.specs.declared.fault.Detail.TheVariants.{Nothing, Place, Address, Version as AVersion, Unit as AUnit}
use Rattle.command_session.specs.declared.fault.CommandFault.TheVariants.{Parse, NoSuchName, OutOfRange, ReadOnlyName, Console}
use Rattle.command_session.specs.declared.fault.CommandFault.TheVariants.{AlreadyAttached, NotAttached, ReadOnly, NoFile, FileTooLong, FileFailed, PortTaken, PortFailed, Full, AssertFailed, TooDeep, NoLabel, NotInDo, OutOfMemory}
use Rattle.command_session.specs.declared.fault.CommandFault.TheVariants.{NotState, Version, BadDigest, BadField, Truncated, MissingUnit, Changed, LoadTruncated, LoadSum, PastMemory}

-- the fault of a file that was not attached, and of a unit that was not detached
abbrev pub attach_fault : AttachFault → CommandFault
attach_fault attach.AlreadyAttached = AlreadyAttached
attach_fault attach.ReadOnly = ReadOnly
attach_fault attach.NoFile = NoFile
attach_fault attach.TooLong = FileTooLong
attach_fault (attach.Failed f) = FileFailed (subject.Unit f.unit)
attach_fault attach.OutOfMemory = OutOfMemory

abbrev pub detach_fault : DetachFault → CommandFault
detach_fault detach.NotAttached = NotAttached
detach_fault (detach.Failed f) = FileFailed (subject.Unit f.unit)

-- the fault of a file that was not read or written whole
abbrev pub whole_fault : Subject → WholeFault → CommandFault
whole_fault whose whole.NoFile = NoFile
whole_fault whose whole.TooLong = FileTooLong
whole_fault whose whole.Failed = FileFailed whose
whole_fault whose whole.OutOfMemory = OutOfMemory

-- the fault of a loader tape
abbrev pub tape_fault : LoadFault → CommandFault
tape_fault (tape.Truncated place) = LoadTruncated place
tape_fault (tape.BadSum place) = LoadSum place
tape_fault (tape.PastMemory origin) = PastMemory origin

-- the fault of a break or an expect that was not added
abbrev pub add_fault : AddFault → CommandFault
add_fault add.Full = Full
add_fault add.OutOfMemory = OutOfMemory

-- the words of the fault of a line that is no command
abbrev pub parse_words : ParseFault → List ℕ
parse_words parse.Unknown = codes "Unknown command"
parse_words parse.Missing = codes "Too few arguments"
parse_words parse.TooLong = codes "Line too long"
parse_words (parse.BadNumber place) = codes "Invalid number at "
parse_words (parse.BadName place) = codes "Invalid name at "
parse_words (parse.BadSymbol place) = codes "Invalid instruction at "
parse_words (parse.Extra place) = codes "Too many arguments at "

-- its place, if it has one, counted in bytes from 0
abbrev pub parse_detail : ParseFault → Detail
parse_detail (parse.BadNumber place) = Place place
parse_detail (parse.BadName place) = Place place
parse_detail (parse.BadSymbol place) = Place place
parse_detail (parse.Extra place) = Place place
parse_detail fault = Nothing

-- the words of a fault; those that end the session have none
abbrev pub fault_words : CommandFault → Option (List ℕ)
fault_words (Parse fault) = Some (parse_words fault)
fault_words NoSuchName = Some (codes "No such name")
fault_words OutOfRange = Some (codes "Value out of range")
fault_words ReadOnlyName = Some (codes "Read only name")
fault_words AlreadyAttached = Some (codes "Unit already attached")
fault_words NotAttached = Some (codes "Unit not attached")
fault_words ReadOnly = Some (codes "Read only not allowed")
fault_words NoFile = Some (codes "File not found")
fault_words FileTooLong = Some (codes "File too long")
fault_words (FileFailed who) = Some (codes "File error")
fault_words PortTaken = Some (codes "Port already in use")
fault_words PortFailed = Some (codes "Port not available")
fault_words Full = Some (codes "Table full")
fault_words AssertFailed = Some (codes "Assertion failed")
fault_words TooDeep = Some (codes "DO nested too deeply")
fault_words NoLabel = Some (codes "Label not found")
fault_words NotInDo = Some (codes "Not in a DO file")
fault_words NotState = Some (codes "Not a state file")
fault_words (Version version) = Some (codes "State version ")
fault_words (BadDigest kept found) = Some (codes "State digest mismatch")
fault_words (BadField place) = Some (codes "State field invalid at ")
fault_words Truncated = Some (codes "State file truncated")
fault_words MissingUnit = Some (codes "State has a unit that is missing")
fault_words (Changed unit) = Some (codes "Attached file changed: ")
fault_words (LoadTruncated place) = Some (codes "Load file truncated at ")
fault_words (LoadSum place) = Some (codes "Load checksum error at ")
fault_words (PastMemory origin) = Some (codes "Load origin past memory: ")
fault_words Console = None
fault_words OutOfMemory = None

-- what stands behind these words: a place, the origin of a block, a version, or a unit
abbrev pub fault_detail : CommandFault → Detail
fault_detail (Parse fault) = parse_detail fault
fault_detail (BadField place) = Place place
fault_detail (Version version) = AVersion version
fault_detail (Changed unit) = AUnit unit
fault_detail (LoadTruncated place) = Place place
fault_detail (LoadSum place) = Place place
fault_detail (PastMemory origin) = Address origin
fault_detail fault = Nothing

-- the name of a unit; nothing for a number that its kind has not
abbrev pub unit_or_nothing : UnitName → List ℕ
unit_or_nothing unit = if nat_lt unit.unit (units_of unit.kind) then unit_name unit else []

-- a place and a version are decimal, and an address has six octal digits
abbrev pub detail_text : Detail → List ℕ
detail_text Nothing = []
detail_text (Place place) = decimal place
detail_text (Address address) = octal_digits 6 address
detail_text (AVersion version) = decimal version ++ codes " not supported"
detail_text (AUnit unit) = unit_or_nothing unit

-- words and what stands behind them, as a line
abbrev pub words_line : List ℕ → Detail → List ℕ
words_line words detail = words ++ detail_text detail ++ 10 ∷ []

abbrev pub line_with : Option (List ℕ) → Detail → List ℕ
line_with None detail = []
line_with (Some words) detail = words_line words detail

-- what a fault prints
abbrev pub fault_text : CommandFault → List ℕ
fault_text fault = line_with (fault_words fault) (fault_detail fault)
