-- What the answers of the calls on attached files mean, and the failing call that each claims.
use Rattle.std.specs.Prelude.{ℕ, Option, Some, None, option_map, Result, Ok, Err}
use Rattle.unit_files.specs.declared.faults.UnitFault.{UnitFault}
use Rattle.unit_files.specs.declared.faults.AttachFault.{AttachFault}
use Rattle.unit_files.specs.declared.faults.AttachFault.TheVariants as attach
use Rattle.unit_files.specs.declared.faults.DetachFault.{DetachFault}
use Rattle.unit_files.specs.declared.faults.DetachFault.TheVariants as detach
use Rattle.unit_files.specs.declared.faults.ByteAnswer.{ByteAnswer}
use Rattle.unit_files.specs.declared.faults.ByteAnswer.TheVariants as byte
use Rattle.unit_files.specs.Acts.{Failure, AttachSaid, Attached, UnitHasFile, OnlyWrites, NotThere, TooLong, CallFailed}
use Rattle.unit_files.specs.Acts.{FlushSaid, HasNone, NotFlushed, Flushed}
use Rattle.unit_files.specs.Acts.{DetachSaid, HadNone, StillHeld, Detached, ByteSaid, ByteIs, WasWritten, AtEnd, NothingThere}
use Rattle.unit_files.specs.Acts.{ByteFailed}

abbrev pub failure_in : UnitFault → Failure
failure_in f = record { call = f.call; done = f.done }

-- what an attaching says; nothing where it found no memory
abbrev pub said_of_attach : Result ℕ AttachFault → Option AttachSaid
said_of_attach (Ok count) = Some (Attached count)
said_of_attach (Err attach.AlreadyAttached) = Some UnitHasFile
said_of_attach (Err attach.ReadOnly) = Some OnlyWrites
said_of_attach (Err attach.NoFile) = Some NotThere
said_of_attach (Err attach.TooLong) = Some TooLong
said_of_attach (Err (attach.Failed f)) = Some (CallFailed (failure_in f))
said_of_attach (Err attach.OutOfMemory) = None

-- the failing call that an attaching claims
abbrev pub failure_of_attach : Result ℕ AttachFault → Option Failure
failure_of_attach (Err (attach.Failed f)) = Some (failure_in f)
failure_of_attach result = None

-- whether an attaching was refused before any call on a file, and why
abbrev pub first_refusal : Result ℕ AttachFault → Option AttachSaid
first_refusal (Err attach.AlreadyAttached) = Some UnitHasFile
first_refusal (Err attach.ReadOnly) = Some OnlyWrites
first_refusal result = None

-- this holds of an attaching that found no memory
abbrev pub IfNoMemory : Result ℕ AttachFault → Type 0 → Type 0
IfNoMemory (Err attach.OutOfMemory) P = P
IfNoMemory result P = Unit {0}

-- what a writing back says
abbrev pub said_of_flush : Result (Unit {0}) DetachFault → FlushSaid
said_of_flush (Ok u) = Flushed
said_of_flush (Err detach.NotAttached) = HasNone
said_of_flush (Err (detach.Failed f)) = NotFlushed (failure_in f)

abbrev pub failure_of_flush : Result (Unit {0}) DetachFault → Option Failure
failure_of_flush (Err (detach.Failed f)) = Some (failure_in f)
failure_of_flush result = None

-- what a detaching says
abbrev pub said_of_detach : Result (Option UnitFault) DetachFault → DetachSaid
said_of_detach (Ok fault) = Detached (option_map failure_in fault)
said_of_detach (Err detach.NotAttached) = HadNone
said_of_detach (Err (detach.Failed f)) = StillHeld (failure_in f)

abbrev pub failure_of_detach : Result (Option UnitFault) DetachFault → Option Failure
failure_of_detach (Ok fault) = option_map failure_in fault
failure_of_detach (Err (detach.Failed f)) = Some (failure_in f)
failure_of_detach (Err detach.NotAttached) = None

-- what the answer of a byte call says
abbrev pub said_of_byte : ByteAnswer → ByteSaid
said_of_byte (byte.Byte b) = ByteIs b
said_of_byte byte.Written = WasWritten
said_of_byte byte.End = AtEnd
said_of_byte byte.NoFile = NothingThere
said_of_byte (byte.Failed f) = ByteFailed (failure_in f)

abbrev pub failure_of_byte : ByteAnswer → Option Failure
failure_of_byte (byte.Failed f) = Some (failure_in f)
failure_of_byte answer = None
