-- What a RESTORE does, whatever its file holds.
use Rattle.std.specs.Prelude.{◌≡◌, ℕ, List, Ok, Err}
use Rattle.file_traits.specs.State.{FileState}
use Rattle.state_text.specs.declared.fault.StateFault.{StateFault}
use Rattle.state_text.specs.Reading.{reading}
use Rattle.command_session.specs.declared.fault.CommandFault.{CommandFault}
use Rattle.command_session.specs.declared.fault.CommandFault.TheVariants.{FileTooLong, NotState, Version, BadDigest, BadField, Truncated, Changed}
use Rattle.command_session.specs.Reply.{Answer}
use Rattle.state_commands.specs.StateFaults.{state_fault}
use Rattle.command_session.specs.FileWorks.{IsOpened}

-- A file was opened, and these bytes of it are what was read: they have that fault.
pub record ReadsFault (fault : CommandFault) (old new : FileState) : Type 0 where
  pub was_opened : IsOpened old new
  pub bytes : List ℕ
  pub why : StateFault
  pub reads : reading bytes ≡ Err why
  pub fault_is : fault ≡ state_fault why

-- What is answered of bytes, or of lengths, is answered of a file that was opened. What a RESTORE that is done puts back is
-- said apart.
abbrev pub RestoreWorks : Answer → FileState → FileState → Type 0
RestoreWorks (Err NotState) old new = ReadsFault NotState old new
RestoreWorks (Err (Version version)) old new = ReadsFault (Version version) old new
RestoreWorks (Err (BadDigest kept found)) old new = ReadsFault (BadDigest kept found) old new
RestoreWorks (Err (BadField place)) old new = ReadsFault (BadField place) old new
RestoreWorks (Err Truncated) old new = ReadsFault Truncated old new
RestoreWorks (Err (Changed unit)) old new = IsOpened old new
RestoreWorks (Err FileTooLong) old new = IsOpened old new
RestoreWorks (Err fault) old new = Unit {0}
RestoreWorks (Ok next) old new = IsOpened old new
