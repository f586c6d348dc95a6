-- What a RESTORE can answer.
use Rattle.std.proofs.Common.{◌≡◌, Bool, Err, sym, subst}
use Rattle.command_session.specs.declared.fault.CommandFault.{CommandFault}
use Rattle.saved_files.specs.declared.file_faults.RestoreFault.{RestoreFault}
use Rattle.saved_files.specs.declared.file_faults.RestoreFault.TheVariants as restore
use Rattle.saved_files.specs.PuttingCauses.{IsCompared}
use Rattle.state_commands.specs.StateFaults.{restore_fault}
use Rattle.command_session.specs.Answers.{OfRestore}

pub restored-can : (force : Bool) (f : RestoreFault) (fault : CommandFault) → IsCompared force (Err f) → fault ≡ restore_fault f → OfRestore force (Err fault)
restored-can force f fault compared is = subst (λ (x : CommandFault). OfRestore force (Err x)) (sym is) (by-fault f compared)
  where
    by-fault : (f : RestoreFault) → IsCompared force (Err f) → OfRestore force (Err (restore_fault f))
    by-fault restore.MissingUnit h = tt
    by-fault (restore.NoFile unit) h = tt
    by-fault (restore.TooLong unit) h = tt
    by-fault (restore.Changed unit) h = h
    by-fault (restore.Failed f) h = tt
    by-fault restore.Port h = tt
    by-fault restore.OutOfMemory h = tt
