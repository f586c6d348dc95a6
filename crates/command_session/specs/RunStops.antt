-- Why a command that runs has stopped, whether the bytes of files are told or not.
use Rattle.std.specs.Prelude.{◌≡◌, ℕ, min, nat_le, Bool, false, IsTrue, List, ◌++◌, unwrap_or, Some, Ok}
use Rattle.scp_parser.specs.Command.{Request, Step}
use Rattle.nova_machine.specs.StopCauses.{moment_of, Watches, RunCause}
use Rattle.nova_machine.specs.declared.machine.Stop.{Stop}
use Rattle.command_session.specs.declared.next.Next.TheVariants.{Ran}
use Rattle.command_session.specs.Live.{CommandState}
use Rattle.command_session.specs.Reply.{Answer}
use Rattle.command_session.specs.RunEffects.{stop_text}

-- how many instructions a command that runs executes at the most, where that is the limit of the session: a STEP the number
-- that it is given, or else 1
abbrev pub run_count : Request → ℕ → ℕ
run_count (Step count) limit = min (unwrap_or count 1) limit
run_count request limit = limit

-- whether its count is that of a STEP, and not the limit
abbrev pub is_step : Request → ℕ → Bool
is_step (Step count) limit = nat_le (unwrap_or count 1) limit
is_step request limit = false

-- A run of at most so many instructions has stopped, with its cause in what it left; and its stop is printed behind what it
-- printed.
pub record HasStopped (step : Bool) (count : ℕ) (stop : Stop) (old new : CommandState) (tells : Bool) (before after : List ℕ) : Type 0 where
  pub cause : RunCause step count stop old.keys (moment_of old.watch old.machine) new.watch new.machine
  pub mid : List ℕ
  pub watches : Watches (Some stop) (moment_of old.watch old.machine) (moment_of new.watch new.machine) tells before mid
  pub printed : IsTrue tells → after ≡ mid ++ stop_text stop new.machine

abbrev pub RunStops : Bool → ℕ → Answer → CommandState → CommandState → Bool → List ℕ → List ℕ → Type 0
RunStops step count (Ok (Ran stop)) old new tells before after = HasStopped step count stop old new tells before after
RunStops step count answer old new tells before after = Unit {0}

-- an answer of a command that does not run
abbrev pub IsNoStop : Answer → Type 0
IsNoStop (Ok (Ran stop)) = ⊥
IsNoStop answer = Unit {0}
