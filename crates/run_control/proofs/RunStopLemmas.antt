-- The cause of a run's stop, from the machine to the command.
use Rattle.std.proofs.Common.{◌≡◌, ℕ, Bool, true, false, IsTrue, List, Option, Some, None, Result, Ok, Err, refl, sym, subst}
use Rattle.file_traits.specs.Streams.{Puts}
use Rattle.expect_actions.specs.Watch.{WatchState}
use Rattle.nova_machine.specs.declared.machine.Stop.{Stop}
use Rattle.nova_machine.specs.Machine.{MachineState, reset_devices, reset_machine}
use Rattle.nova_machine.specs.StopCauses.{Moment, moment_of, Watches, RunCause}
use Rattle.command_session.specs.declared.next.Next.TheVariants.{Ran}
use Rattle.command_session.specs.Live.{CommandState}
use Rattle.command_session.specs.Reply.{Answer}
use Rattle.command_session.specs.Doing.{told_or_console}
use Rattle.command_session.specs.RunEffects.{stop_text, starting_at, reset_where}
use Rattle.command_session.specs.RunStops.{RunStops, IsNoStop}

-- ---- a machine that is readied for a run has the time and the keys that it had

reset-moment : (watch : WatchState) (resets : Bool) (m : MachineState) → moment_of watch (reset_where resets m) ≡ moment_of watch m
unfolding reset_devices reset_machine
reset-moment watch true m = refl
reset-moment watch false m = refl

pub started-moment : (watch : WatchState) (resets : Bool) (address : Option ℕ) (m : MachineState) → moment_of watch (starting_at address (reset_where resets m)) ≡ moment_of watch m
started-moment watch resets None m = reset-moment watch resets m
started-moment watch resets (Some a) m = reset-moment watch resets m

-- ---- the stop is printed

pub run-stops : {T E : Type 0} (printed : Result T E) (answer : Answer) (step : Bool) (count : ℕ) (stop : Stop) (old new : CommandState) (tells : Bool) (before mid after : List ℕ)
    → answer ≡ told_or_console printed (Ran stop) → RunCause step count stop old.keys (moment_of old.watch old.machine) new.watch new.machine
    → Watches (Some stop) (moment_of old.watch old.machine) (moment_of new.watch new.machine) tells before mid
    → (IsTrue tells → Puts mid (stop_text stop new.machine) printed after) → RunStops step count answer old new tells before after
run-stops (Ok u) answer step count stop old new tells before mid after is cause watches puts =
    subst (λ (a : Answer). RunStops step count a old new tells before after) (sym is) (record { cause = cause; mid = mid; watches = watches; printed = puts })
run-stops (Err e) answer step count stop old new tells before mid after is cause watches puts =
    subst (λ (a : Answer). RunStops step count a old new tells before after) (sym is) tt

-- a command that does not run
pub no-stops : (answer : Answer) (step : Bool) (count : ℕ) (old new : CommandState) (tells : Bool) (before after : List ℕ) → IsNoStop answer → RunStops step count answer old new tells before after
no-stops (Ok (Ran stop)) step count old new tells before after none = absurd none
no-stops answer step count old new tells before after none = tt

-- of a session that was readied for the run
pub started-stops : (answer : Answer) (step : Bool) (count : ℕ) (old began new : CommandState) (tells : Bool) (before after : List ℕ) → began.keys ≡ old.keys
    → moment_of began.watch began.machine ≡ moment_of old.watch old.machine → RunStops step count answer began new tells before after → RunStops step count answer old new tells before after
started-stops (Ok (Ran stop)) step count old began new tells before after keys moment stops = record {
  cause = subst (λ (m : Moment). RunCause step count stop old.keys m new.watch new.machine) moment
      (subst (λ (k : List (ℕ × ℕ)). RunCause step count stop k (moment_of began.watch began.machine) new.watch new.machine) keys stops.cause);
  mid = stops.mid;
  watches = subst (λ (m : Moment). Watches (Some stop) m (moment_of new.watch new.machine) tells before stops.mid) moment stops.watches;
  printed = stops.printed;
}
started-stops answer step count old began new tells before after keys moment stops = tt
