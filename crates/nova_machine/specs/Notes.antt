-- The one call on a file that can fail in a run: it ends the run. Each layer takes its part of the note away: a run the
-- time, a turn the unit.
use Rattle.std.specs.Prelude.{ℕ, ◌==◌, Option, Some, None, if◌then◌else◌}
use Rattle.unit_trait.specs.declared.kind.UnitName.{UnitName}
use Rattle.unit_trait.specs.Kinds.{same_unit}
use Rattle.unit_files.specs.Acts.{Failure}
use Rattle.unit_files.specs.Answers.{failure_in}
use Rattle.nova_machine.specs.declared.machine.Stop.{Stop}
use Rattle.nova_machine.specs.declared.machine.Stop.TheVariants.{FileFault}

-- the unit whose call fails, and that call
pub record UnitNote : Type 0 where
  pub unit : UnitName
  pub failure : Failure

-- the same with its time
pub record RunNote : Type 0 where
  pub time : ℕ
  pub note : UnitNote

-- the failure that a turn at that time meets
abbrev pub at_time : ℕ → Option RunNote → Option UnitNote
at_time time None = None
at_time time (Some n) = if time == n.time then Some n.note else None

-- the failure that the service of that unit meets
abbrev pub at_unit : UnitName → Option UnitNote → Option Failure
at_unit unit None = None
at_unit unit (Some n) = if same_unit unit n.unit then Some n.failure else None

-- ---- what a stop claims

abbrev pub failure_of_stop : Option Stop → Option Failure
failure_of_stop (Some (FileFault f)) = Some (failure_in f)
failure_of_stop stop = None

abbrev pub unit_note : Option Stop → Option UnitNote
unit_note (Some (FileFault f)) = Some (record { unit = f.unit; failure = failure_in f })
unit_note stop = None

abbrev pub run_note : ℕ → Option Stop → Option RunNote
run_note time (Some (FileFault f)) = Some (record { time = time; note = record { unit = f.unit; failure = failure_in f } })
run_note time stop = None
