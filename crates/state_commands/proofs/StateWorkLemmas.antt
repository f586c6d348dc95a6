-- What a RESTORE that is refused was refused for, whatever files hold.
use Rattle.std.proofs.Common.{◌≡◌, ◌<◌, ◌≤◌, ℕ, List, Bool, Result, Err, refl, sym, subst, arith}
use Rattle.std.specs.Global.{Vec}
use Rattle.file_traits.specs.State.{FileState}
use Rattle.file_commands.specs.declared.note.Subject.TheVariants as subject
use Rattle.whole_files.specs.declared.whole.WholeFault.{WholeFault}
use Rattle.whole_files.specs.declared.whole.WholeFault.TheVariants as fault
use Rattle.whole_files.specs.Claims.{WholeCause}
use Rattle.state_text.specs.declared.fault.StateFault.{StateFault}
use Rattle.state_text.specs.declared.fault.StateFault.TheVariants as state
use Rattle.saved_files.specs.declared.file_faults.RestoreFault.{RestoreFault}
use Rattle.saved_files.specs.declared.file_faults.RestoreFault.TheVariants as restore
use Rattle.state_text.specs.Reading.{reading}
use Rattle.state_text.specs.Gives.{Fails}
use Rattle.command_session.specs.declared.fault.CommandFault.{CommandFault}
use Rattle.command_session.specs.FaultText.{whole_fault}
use Rattle.state_commands.specs.StateFaults.{state_fault, restore_fault}
use Rattle.command_session.specs.FileWorks.{IsOpened}
use Rattle.state_commands.specs.StateWorks.{RestoreWorks}

-- its file was not read
pub unread-works : (tells : Bool) (name : List ℕ) (bytes : Result (Vec ℕ) WholeFault) (why : WholeFault) (f : CommandFault) (old new : FileState) → bytes ≡ Err why → WholeCause tells name bytes old new
    → f ≡ whole_fault subject.State why → RestoreWorks (Err f) old new
unread-works tells name bytes why f old new is cause names =
    subst (λ (x : CommandFault). RestoreWorks (Err x) old new) (sym names)
    (by-fault why (subst (λ (b : Result (Vec ℕ) WholeFault). WholeCause tells name b old new) is cause))
  where
    by-fault : (why : WholeFault) → WholeCause tells name (Err why) old new → RestoreWorks (Err (whole_fault subject.State why)) old new
    by-fault fault.NoFile cause = tt
    by-fault fault.TooLong cause = cause.0
    by-fault fault.Failed cause = tt
    by-fault fault.OutOfMemory cause = tt

-- its bytes are no session
pub unfit-works : (bytes : List ℕ) (why : StateFault) (f : CommandFault) (old new : FileState) → old.given < new.given → Fails why (reading bytes) → f ≡ state_fault why → RestoreWorks (Err f) old new
unfit-works bytes why f old new opens fails names = subst (λ (x : CommandFault). RestoreWorks (Err x) old new) (sym names) (by-fault why fails)
  where
    by-fault : (why : StateFault) → Fails why (reading bytes) → RestoreWorks (Err (state_fault why)) old new
    by-fault state.NotState fails = record { was_opened = opens; bytes = bytes; why = state.NotState; reads = fails; fault_is = refl }
    by-fault (state.Version version) fails = record { was_opened = opens; bytes = bytes; why = state.Version version; reads = fails; fault_is = refl }
    by-fault (state.BadDigest kept found) fails = record { was_opened = opens; bytes = bytes; why = state.BadDigest kept found; reads = fails; fault_is = refl }
    by-fault (state.BadField place) fails = record { was_opened = opens; bytes = bytes; why = state.BadField place; reads = fails; fault_is = refl }
    by-fault state.Truncated fails = record { was_opened = opens; bytes = bytes; why = state.Truncated; reads = fails; fault_is = refl }
    by-fault state.OutOfMemory fails = tt

-- it was not put back
pub refused-works : (why : RestoreFault) (f : CommandFault) (old mid new : FileState) → old.given < mid.given → mid.given ≤ new.given → f ≡ restore_fault why → RestoreWorks (Err f) old new
refused-works why f old mid new opens more names = subst (λ (x : CommandFault). RestoreWorks (Err x) old new) (sym names) (by-fault why)
  where
    opened : IsOpened old new
    opened = omega (arith, opens, more)

    by-fault : (why : RestoreFault) → RestoreWorks (Err (restore_fault why)) old new
    by-fault restore.MissingUnit = tt
    by-fault (restore.NoFile unit) = tt
    by-fault (restore.TooLong unit) = opened
    by-fault (restore.Changed unit) = opened
    by-fault (restore.Failed f) = tt
    by-fault restore.Port = tt
    by-fault restore.OutOfMemory = tt
