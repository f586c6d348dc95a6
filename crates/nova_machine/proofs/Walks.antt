-- A turn and a run are walked once: what holds of each piece that they are made of holds of them.
use Rattle.std.proofs.Common.{◌≡◌, ℕ, zero, suc, ◌==◌, Bool, true, false, List, [], ◌∷◌, Option, Some, None, refl, sym, subst, arith, if◌then◌else◌}
use Rattle.std.proofs.lemmas.Bool.Decides.{nat_tests}
use Rattle.unit_trait.specs.declared.kind.UnitName.{UnitName}
use Rattle.event_queue.specs.EventList.{dues}
use Rattle.unit_files.specs.Acts.{Failure}
use Rattle.nova_machine.specs.declared.machine.Stop.{Stop}
use Rattle.nova_machine.specs.declared.machine.Stop.TheVariants.{Limit}
use Rattle.nova_machine.specs.Notes.{UnitNote, RunNote, at_unit, at_time}
use Rattle.nova_machine.specs.Seen.{Seen}
use Rattle.nova_machine.specs.Parts.{Part, silent, then_part}
use Rattle.nova_machine.specs.Turned.{still}
use Rattle.nova_machine.specs.Service.{service, services, serving, taken}
use Rattle.nova_machine.specs.Turn.{fetch, interrupt, breaks_tested, breaks_tested_unless, attended, prepared, turn}
use Rattle.nova_machine.specs.Run.{last_time, expired, next_turn, turns, run}
use Rattle.nova_machine.specs.Laws.{IsLimit}
use Rattle.nova_machine.proofs.Opened.{serving-is, turn-opened, services-none, services-some, turns-none, turns-some}

-- ---- what holds from a state on, of a part of a run

-- It holds of nothing, of a part and what comes behind it where it holds of both, and of the service of a unit whose event
-- is taken.
pub record OfServices (P : Seen → Part → Type 0) : Type 0 where
  pub none : (s : Seen) → P s (silent None s)
  pub both : (s : Seen) (p : Part) (goes_on : Seen → Part) → P s p → ((next : Seen) → P next (goes_on next)) → P s (then_part p goes_on)
  pub one : (fault : Option Failure) (u : UnitName) (s : Seen) → P s (service fault u (taken s))

-- and of the interrupt, and the test of the breaks
pub record OfPieces (P : Seen → Part → Type 0) : Type 0 where
  pub services : OfServices P
  pub interrupted : (s : Seen) → P s (still s (interrupt s.machine))
  pub tested : (s : Seen) → P s (breaks_tested s)

-- and of the instruction
pub record OfTurns (P : Seen → Part → Type 0) : Type 0 where
  pub pieces : OfPieces P
  pub fetched : (s : Seen) → P s (still s (fetch s.machine))

-- and of a run that has ended
pub record OfRuns (P : Seen → Part → Type 0) : Type 0 where
  pub turn : OfTurns P
  pub over : (s : Seen) (stop : Stop) → IsLimit (Some stop) → P s (silent (Some stop) s)

-- ---- so it holds of all

walk-services : (P : Seen → Part → Type 0) → OfServices P → (note : Option UnitNote) (us : List UnitName) (s : Seen) → P s (services note us s)
walk-services P of note [] s = subst (P s) (sym (services-none note s)) (of.none s)
walk-services P of note (u ∷ us) s =
    subst (P s) (sym (services-some note u us s))
    (of.both s (service (at_unit u note) u (taken s)) (λ next. services note us next) (of.one (at_unit u note) u s) (λ next. walk-services P of note us next))

pub walk-serving : (P : Seen → Part → Type 0) → OfServices P → (note : Option UnitNote) (s : Seen) → P s (serving note s)
walk-serving P of note s = subst (P s) (sym (serving-is note s)) (walk-services P of note (dues s.machine.events) s)

-- ---- the same where it is known of all services of a turn at once: that of one may rest on its unit's event being due

pub record OfStages (P : Seen → Part → Type 0) : Type 0 where
  pub none : (s : Seen) → P s (silent None s)
  pub both : (s : Seen) (p : Part) (goes_on : Seen → Part) → P s p → ((next : Seen) → P next (goes_on next)) → P s (then_part p goes_on)
  pub served : (note : Option UnitNote) (s : Seen) → P s (serving note s)
  pub interrupted : (s : Seen) → P s (still s (interrupt s.machine))
  pub tested : (s : Seen) → P s (breaks_tested s)

pub stages-of : (P : Seen → Part → Type 0) → OfPieces P → OfStages P
stages-of P of = record {
  none = of.services.none;
  both = of.services.both;
  served = walk-serving P of.services;
  interrupted = of.interrupted;
  tested = of.tested;
}

stages-attended : (P : Seen → Part → Type 0) → OfStages P → (note : Option UnitNote) (s : Seen) → P s (attended note s)
stages-attended P of note s =
    subst (P s) (sym (turn-opened note false s).attends) (of.both s (serving note s) (λ served. still served (interrupt served.machine)) (of.served note s) of.interrupted)

stages-tested : (P : Seen → Part → Type 0) → OfStages P → (first : Bool) (s : Seen) → P s (breaks_tested_unless first s)
stages-tested P of true s = of.none s
stages-tested P of false s = of.tested s

stages-prepared : (P : Seen → Part → Type 0) → OfStages P → (note : Option UnitNote) (first : Bool) (s : Seen) → P s (prepared note first s)
stages-prepared P of note first s =
    subst (P s) (sym (turn-opened note first s).prepares) (of.both s (attended note s) (λ at. breaks_tested_unless first at) (stages-attended P of note s) (stages-tested P of first))

pub walk-prepared : (P : Seen → Part → Type 0) → OfPieces P → (note : Option UnitNote) (first : Bool) (s : Seen) → P s (prepared note first s)
walk-prepared P of note first s = stages-prepared P (stages-of P of) note first s

-- a turn, where all before the instruction and the instruction are known
pub record OfEach (P : Seen → Part → Type 0) : Type 0 where
  pub stages : OfStages P
  pub fetched : (s : Seen) → P s (still s (fetch s.machine))

-- another thing holds of the whole turn, where this holds of what comes before its instruction
pub record OfInstruction (P Q : Seen → Part → Type 0) : Type 0 where
  pub stages : OfStages P
  pub fetched : (s : Seen) (p : Part) → P s p → Q s (then_part p (λ ready. still ready (fetch ready.machine)))

pub walk-instruction : (P Q : Seen → Part → Type 0) → OfInstruction P Q → (note : Option UnitNote) (first : Bool) (s : Seen) → Q s (turn note first s)
walk-instruction P Q of note first s =
    subst (Q s) (sym (turn-opened note first s).executes) (of.fetched s (prepared note first s) (stages-prepared P of.stages note first s))

pub each-turn : (P : Seen → Part → Type 0) → OfEach P → (note : Option UnitNote) (first : Bool) (s : Seen) → P s (turn note first s)
each-turn P of note first s =
    walk-instruction P P (record {
      stages = of.stages;
      fetched = λ s p before. of.stages.both s p (λ ready. still ready (fetch ready.machine)) before of.fetched;
    }) note first s

-- ---- so many turns

-- It holds of none, and of one more where another thing holds of the next turn, be it one that finds the end of time.
pub record OfCounted (Q : Seen → Part → Type 0) (P : ℕ → Seen → Part → Type 0) : Type 0 where
  pub turn : (note : Option UnitNote) (first : Bool) (s : Seen) → Q s (turn note first s)
  pub ended : (s : Seen) → s.machine.time ≡ last_time → Q s (silent (Some Limit) s)
  pub none : (step : Bool) (s : Seen) → P 0 s (silent (Some (expired step)) s)
  pub more : (n : ℕ) (s : Seen) (p : Part) (goes_on : Seen → Part) → Q s p → ((next : Seen) → P n next (goes_on next)) → P (suc n) s (then_part p goes_on)

walk-either : (P : Part → Type 0) (b : Bool) (x y : Part) → (b ≡ true → P x) → P y → P (if b then x else y)
walk-either P true x y first second = first refl
walk-either P false x y first second = second

pub walk-next : (Q : Seen → Part → Type 0) (P : ℕ → Seen → Part → Type 0) → OfCounted Q P → (note : Option RunNote) (first : Bool) (s : Seen) → Q s (next_turn note first s)
unfolding next_turn
walk-next Q P of note first s =
    walk-either (Q s) (s.machine.time == last_time) (silent (Some Limit) s) (turn (at_time s.machine.time note) first s)
    (λ is. of.ended s (grind (arith, nat_tests))) (of.turn (at_time s.machine.time note) first s)

pub walk-counted : (Q : Seen → Part → Type 0) (P : ℕ → Seen → Part → Type 0) → OfCounted Q P → (note : Option RunNote) (step first : Bool) (count : ℕ) (s : Seen)
    → P count s (turns note step first count s)
walk-counted Q P of note step first zero s = subst (P zero s) (sym (turns-none note step first s)) (of.none step s)
walk-counted Q P of note step first (suc count) s =
    subst (P (suc count) s) (sym (turns-some note step first count s))
    (of.more count s (next_turn note first s) (λ next. turns note step false count next) (walk-next Q P of note first s)
    (λ next. walk-counted Q P of note step false count next))

pub limit-expired : (step : Bool) → IsLimit (Some (expired step))
limit-expired true = tt
limit-expired false = tt

-- a run, where it is known of one that has ended too
abbrev pub OfEnds : (Seen → Part → Type 0) → Type 0
OfEnds P = (s : Seen) (stop : Stop) → IsLimit (Some stop) → P s (silent (Some stop) s)

pub each-run : (P : Seen → Part → Type 0) → OfEach P → OfEnds P → (note : Option RunNote) (step : Bool) (count : ℕ) (s : Seen) → P s (run note step count s)
each-run P of over note step count s =
    walk-counted P (λ n s p. P s p) (record {
      turn = each-turn P of;
      ended = λ s is. over s Limit tt;
      none = λ step s. over s (expired step) (limit-expired step);
      more = λ n s p goes_on. of.stages.both s p goes_on;
    }) note step true count s

-- ---- where it is known of each service

each-of : (P : Seen → Part → Type 0) → OfTurns P → OfEach P
each-of P of = record { stages = stages-of P of.pieces; fetched = of.fetched }

pub walk-turn : (P : Seen → Part → Type 0) → OfTurns P → (note : Option UnitNote) (first : Bool) (s : Seen) → P s (turn note first s)
walk-turn P of note first s = each-turn P (each-of P of) note first s

pub walk-run : (P : Seen → Part → Type 0) → OfRuns P → (note : Option RunNote) (step : Bool) (count : ℕ) (s : Seen) → P s (run note step count s)
walk-run P of note step count s = each-run P (each-of P of.turn) of.over note step count s
