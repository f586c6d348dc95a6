-- What a tape operation on an open file leaves of the counts of faults.
use Rattle.std.specs.Prelude.{◌≡◌, ℕ, Result, Err}
use Rattle.fault_counts.specs.Faults.{raised}
use Rattle.file_traits.specs.State.{FileState}
use Rattle.unit_files.specs.Causes.{IsQuiet}
use Rattle.unit_trait.specs.declared.calls.Got.{Got}
use Rattle.memory_transfer.specs.declared.tape.TapeStop.{TapeStop}
use Rattle.memory_transfer.specs.declared.tape.TapeStop.TheVariants.{Call}

-- a failing call on a file: its count has risen by one, and no other
pub record RaisesOne (file : ℕ) (old new : FileState) : Type 0 where
  pub rose : new.faults file ≡ raised (old.faults file)
  pub others : (other : ℕ) → (other ≡ file → ⊥) → new.faults other ≡ old.faults other
  pub openings : new.open_faults ≡ old.open_faults
  pub ids : new.given ≡ old.given

-- what an operation on an open file leaves of the counts
abbrev pub StopCause : Result Got TapeStop → ℕ → FileState → FileState → Type 0
StopCause (Err (Call f)) file old new = RaisesOne file old new
StopCause result file old new = IsQuiet old new
