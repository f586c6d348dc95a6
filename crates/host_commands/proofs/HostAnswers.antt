-- What DO and LOAD answer comes by no table.
use Rattle.std.proofs.Common.{Bool, None, Ok, Err, refl}
use Rattle.command_session.specs.declared.fault.CommandFault.TheVariants.{OutOfMemory}
use Rattle.command_session.specs.declared.fault.CommandFault.TheVariants as fault
use Rattle.command_session.specs.Reply.{Answer}
use Rattle.command_session.specs.Answers.{IsByTables, OfDo, OfLoad}

pub do-tables : (echo strict : Bool) (a : Answer) → OfDo echo strict a → IsByTables None a
do-tables echo strict (Ok next) h = tt
do-tables echo strict (Err fault.NoFile) h = refl
do-tables echo strict (Err fault.FileTooLong) h = refl
do-tables echo strict (Err (fault.FileFailed who)) h = refl
do-tables echo strict (Err fault.OutOfMemory) h = refl
do-tables echo strict (Err f) h = absurd h

pub load-tables : (a : Answer) → OfLoad a → IsByTables None a
load-tables (Ok next) h = tt
load-tables (Err fault.NoFile) h = refl
load-tables (Err fault.FileTooLong) h = refl
load-tables (Err (fault.FileFailed who)) h = refl
load-tables (Err fault.OutOfMemory) h = refl
load-tables (Err (fault.LoadTruncated place)) h = refl
load-tables (Err (fault.LoadSum place)) h = refl
load-tables (Err (fault.PastMemory origin)) h = refl
load-tables (Err f) h = absurd h
