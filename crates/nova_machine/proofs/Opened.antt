-- A turn, what comes before its instruction, and a run, opened: nothing else unfolds them. Each is one part and what comes
-- behind it where that goes on.
use Rattle.std.proofs.Common.{◌≡◌, ◌⊎◌, inl, inr, ℕ, suc, ◌<◌, ◌==◌, Bool, false, true, List, [], ◌∷◌, Option, Some, None, refl, ◌∙◌, arith, if◌then◌else◌}
use Rattle.std.proofs.lemmas.Bool.Decides.{nat_tests}
use Rattle.observations.specs.Observations.{Observation}
use Rattle.unit_trait.specs.declared.kind.UnitName.{UnitName}
use Rattle.event_queue.specs.EventList.{dues}
use Rattle.nova_machine.specs.declared.machine.Stop.{Stop}
use Rattle.nova_machine.specs.declared.machine.Stop.TheVariants.{Limit}
use Rattle.nova_machine.specs.Notes.{UnitNote, RunNote, at_unit, at_time}
use Rattle.nova_machine.specs.Seen.{Seen}
use Rattle.nova_machine.specs.Parts.{Part, silent, behind_made, followed, then_part}
use Rattle.nova_machine.specs.Turned.{still}
use Rattle.nova_machine.specs.Service.{service, services, serving, taken}
use Rattle.nova_machine.specs.Turn.{fetch, interrupt, breaks_tested_unless, attended, prepared, turn}
use Rattle.nova_machine.specs.Run.{last_time, next_turn, turns, expired}

pub stop-cases : (o : Option Stop) → (o ≡ None) ⊎ ((stop : Stop) × (o ≡ Some stop))
stop-cases None = inl refl
stop-cases (Some stop) = inr (stop, refl)

-- a part that stops, and one that goes on
then-stops : (p : Part) (goes_on : Seen → Part) (stop : Stop) → p.stop ≡ Some stop → then_part p goes_on ≡ p
then-stops p goes_on stop is = by-stop p.made p.stop p.after is
  where
    by-stop : (made : List (Observation Seen)) (o : Option Stop) (s : Seen) → o ≡ Some stop → followed made o s goes_on ≡ record { made = made; after = s; stop = o }
    by-stop made None s is = absurd (cc)
    by-stop made (Some other) s is = refl

then-goes : (p : Part) (goes_on : Seen → Part) → p.stop ≡ None → then_part p goes_on ≡ behind_made p.made (goes_on p.after)
then-goes p goes_on is = by-stop p.made p.stop p.after is
  where
    by-stop : (made : List (Observation Seen)) (o : Option Stop) (s : Seen) → o ≡ None → followed made o s goes_on ≡ behind_made made (goes_on s)
    by-stop made None s is = refl
    by-stop made (Some other) s is = absurd (cc)

pub serving-is : (note : Option UnitNote) (s : Seen) → serving note s ≡ services note (dues s.machine.events) s
unfolding serving
serving-is note s = refl

-- A turn, opened: what is attended to, what comes before its instruction, and the whole of it. Each is one part, and what
-- comes behind that where it goes on.
pub record Opened (note : Option UnitNote) (first : Bool) (s : Seen) : Type 0 where
  pub attends : attended note s ≡ then_part (serving note s) (λ served. still served (interrupt served.machine))
  pub prepares : prepared note first s ≡ then_part (attended note s) (λ at. breaks_tested_unless first at)
  pub executes : turn note first s ≡ then_part (prepared note first s) (λ ready. still ready (fetch ready.machine))

-- the one lemma that opens a turn
pub turn-opened : (note : Option UnitNote) (first : Bool) (s : Seen) → Opened note first s
unfolding attended prepared turn
turn-opened note first s = record { attends = refl; prepares = refl; executes = refl }

pub attended-stops : (note : Option UnitNote) (s : Seen) (stop : Stop) → (serving note s).stop ≡ Some stop → attended note s ≡ serving note s
attended-stops note s stop is = (turn-opened note false s).attends ∙ then-stops (serving note s) _ stop is

pub attended-goes : (note : Option UnitNote) (s : Seen) → (serving note s).stop ≡ None
    → attended note s ≡ behind_made (serving note s).made (still (serving note s).after (interrupt (serving note s).after.machine))
attended-goes note s is = (turn-opened note false s).attends ∙ then-goes (serving note s) _ is

pub prepared-stops : (note : Option UnitNote) (first : Bool) (s : Seen) (stop : Stop) → (attended note s).stop ≡ Some stop → prepared note first s ≡ attended note s
prepared-stops note first s stop is = (turn-opened note first s).prepares ∙ then-stops (attended note s) _ stop is

pub prepared-goes : (note : Option UnitNote) (first : Bool) (s : Seen) → (attended note s).stop ≡ None
    → prepared note first s ≡ behind_made (attended note s).made (breaks_tested_unless first (attended note s).after)
prepared-goes note first s is = (turn-opened note first s).prepares ∙ then-goes (attended note s) _ is

pub turn-stops : (note : Option UnitNote) (first : Bool) (s : Seen) (stop : Stop) → (prepared note first s).stop ≡ Some stop → turn note first s ≡ prepared note first s
turn-stops note first s stop is = (turn-opened note first s).executes ∙ then-stops (prepared note first s) _ stop is

pub turn-goes : (note : Option UnitNote) (first : Bool) (s : Seen) → (prepared note first s).stop ≡ None
    → turn note first s ≡ behind_made (prepared note first s).made (still (prepared note first s).after (fetch (prepared note first s).after.machine))
turn-goes note first s is = (turn-opened note first s).executes ∙ then-goes (prepared note first s) _ is

pub services-none : (note : Option UnitNote) (s : Seen) → services note [] s ≡ silent None s
unfolding services
services-none note s = refl

pub services-some : (note : Option UnitNote) (u : UnitName) (us : List UnitName) (s : Seen)
    → services note (u ∷ us) s ≡ then_part (service (at_unit u note) u (taken s)) (λ next. services note us next)
unfolding services
services-some note u us s = refl

-- no instruction is left
pub turns-none : (note : Option RunNote) (step first : Bool) (s : Seen) → turns note step first 0 s ≡ silent (Some (expired step)) s
unfolding turns
turns-none note step first s = refl

pub turns-some : (note : Option RunNote) (step first : Bool) (left : ℕ) (s : Seen) → turns note step first (suc left) s ≡ then_part (next_turn note first s) (λ next. turns note step false left next)
unfolding turns
turns-some note step first left s = refl

-- the next turn stops
pub turns-stop : (note : Option RunNote) (step first : Bool) (left : ℕ) (s : Seen) (stop : Stop) → (next_turn note first s).stop ≡ Some stop → turns note step first (suc left) s ≡ next_turn note first s
turns-stop note step first left s stop is = turns-some note step first left s ∙ then-stops (next_turn note first s) _ stop is

-- the next turn is executed, and the turns go on
pub turns-go : (note : Option RunNote) (step first : Bool) (left : ℕ) (s : Seen) → (next_turn note first s).stop ≡ None
    → turns note step first (suc left) s ≡ behind_made (next_turn note first s).made (turns note step false left (next_turn note first s).after)
turns-go note step first left s is = turns-some note step first left s ∙ then-goes (next_turn note first s) _ is

-- a turn where time has not ended, and where it has
pub next-early : (note : Option RunNote) (first : Bool) (s : Seen) → s.machine.time < last_time → next_turn note first s ≡ turn (at_time s.machine.time note) first s
unfolding next_turn
next-early note first s early = by-test (s.machine.time == last_time) (silent (Some Limit) s) (turn (at_time s.machine.time note) first s) (grind (arith, nat_tests))
  where
    by-test : (b : Bool) (x y : Part) → b ≡ false → (if b then x else y) ≡ y
    by-test false x y is = refl
    by-test true x y is = absurd (cc)

pub next-late : (note : Option RunNote) (first : Bool) (s : Seen) → s.machine.time ≡ last_time → next_turn note first s ≡ silent (Some Limit) s
unfolding next_turn
next-late note first s late = by-test (s.machine.time == last_time) (silent (Some Limit) s) (turn (at_time s.machine.time note) first s) (grind (arith, nat_tests))
  where
    by-test : (b : Bool) (x y : Part) → b ≡ true → (if b then x else y) ≡ x
    by-test true x y is = refl
    by-test false x y is = absurd (cc)
