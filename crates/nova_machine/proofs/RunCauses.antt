-- Why a run stops, by its last turn or burst.
use Rattle.std.proofs.Common.{◌≡◌, inl, ℕ, ◌+◌, ◌<◌, ◌≤◌, Bool, true, false, List, Some, None, refl, sym, subst, arith}
use Rattle.expect_actions.specs.Watch.{WatchState}
use Rattle.nova_machine.specs.declared.machine.Stop.{Stop}
use Rattle.nova_machine.specs.declared.machine.Stop.TheVariants.{Halt, ChainLimit, UnknownDevice, Break, Stepped, Limit}
use Rattle.nova_machine.specs.Machine.{MachineState}
use Rattle.nova_machine.specs.Run.{last_time, expired}
use Rattle.nova_machine.specs.StopCauses.{Moment, Watches, TurnCause, StopsShort, RunCause}
use Rattle.nova_machine.proofs.Causes.{IsNoMatch, service-then}

-- so many turns of it are left
pub record IsWithin (first : Bool) (count left : ℕ) (start now : ℕ) : Type 0 where
  pub rest : now + left ≡ start + count
  pub later : start ≤ now
  pub began : first ≡ false → start < now

short : (first : Bool) (count left start now m : ℕ) → IsWithin first count left start now → 0 < left → now < last_time → m ≡ now → StopsShort count start m
short first count left start now m within some early same =
    let rest = within.rest in
    let later = within.later in
    record { least = omega (arith, later, same); most = omega (arith, rest, some, same); last = subst (λ (n : ℕ). n < last_time) (sym same) early }

pub run-stopped : (stop : Stop) (first step : Bool) (count left : ℕ) (keys : List (ℕ × ℕ)) (start mid : Moment) (watch : WatchState) (m : MachineState) (tells : Bool) (x y : List ℕ)
    → Watches None start mid tells x y → IsWithin first count left start.time mid.time → 0 < left → mid.time < last_time
    → TurnCause first (Some stop) keys mid watch m → RunCause step count stop keys start watch m
run-stopped Halt first step count left keys start mid watch m tells x y watches within some early cause =
    let rest = within.rest in
    let later = within.later in
    let time = cause.1 in
    (cause.0, omega (arith, later, time), omega (arith, rest, some, time))
run-stopped UnknownDevice first step count left keys start mid watch m tells x y watches within some early cause =
    (cause.0, short first count left start.time mid.time m.time within some early cause.1)
run-stopped ChainLimit first step count left keys start mid watch m tells x y watches within some early cause =
    (cause.0, short first count left start.time mid.time m.time within some early cause.1)
run-stopped (Break place) first step count left keys start mid watch m tells x y watches within some early cause =
    let grown = within.began cause.0.0 in
    let time = cause.1 in
    (record { before = mid.watch.breaks; lowered = watches.breaks; test = cause.0.1 }, omega (arith, grown, time), short first count left start.time mid.time m.time within some early time)
run-stopped Stepped first step count left keys start mid watch m tells x y watches within some early cause = absurd cause.0
run-stopped Limit first step count left keys start mid watch m tells x y watches within some early cause = absurd cause.0
run-stopped stop first step count left keys start mid watch m tells x y watches within some early cause =
    (service-then (Some stop) keys start mid watch m tells x y watches cause.0, short first count left start.time mid.time m.time within some early cause.1)

-- the count is reached
pub run-expired : (step first : Bool) (count left : ℕ) (stop : Stop) (keys : List (ℕ × ℕ)) (start : Moment) (watch : WatchState) (m : MachineState) → stop ≡ expired step → left ≡ 0
    → IsWithin first count left start.time m.time → RunCause step count stop keys start watch m
run-expired step first count left stop keys start watch m is none within =
    let rest = within.rest in
    let all : m.time ≡ start.time + count = omega (arith, rest, none) in
    subst (λ (x : Stop). RunCause step count x keys start watch m) (sym is) (by-step step)
  where
    by-step : (b : Bool) → RunCause b count (expired b) keys start watch m
    by-step true = (refl, omega (arith, within.rest, none))
    by-step false = inl (refl, omega (arith, within.rest, none))

pub expired-no-match : (stop : Stop) (step : Bool) → stop ≡ expired step → IsNoMatch (Some stop)
expired-no-match stop step is = subst (λ (x : Stop). IsNoMatch (Some x)) (sym is) (by-step step)
  where
    by-step : (b : Bool) → IsNoMatch (Some (expired b))
    by-step true = tt
    by-step false = tt
