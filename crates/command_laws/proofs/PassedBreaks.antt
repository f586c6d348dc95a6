-- The second of two runs passes a break once.
use Rattle.std.proofs.Common.{◌≡◌, ℕ, zero, suc, ◌+◌, ◌<◌, ◌==◌, inl, inr, Bool, true, false, List, ◌++◌, Option, Some, None, refl, ap, sym, subst, ◌∙◌, arith, append_assoc, append-nil, if◌then◌else◌}
use Rattle.observations.specs.Observations.{Observation}
use Rattle.nova_machine.specs.declared.machine.Stop.{Stop}
use Rattle.nova_machine.specs.declared.machine.Stop.TheVariants.{Break, Limit}
use Rattle.nova_machine.specs.Notes.{UnitNote, RunNote, at_time}
use Rattle.nova_machine.specs.Seen.{Seen}
use Rattle.nova_machine.specs.Parts.{Part, silent, behind_made}
use Rattle.nova_machine.specs.Turned.{still}
use Rattle.nova_machine.specs.Turn.{attended, fetch, prepared, turn}
use Rattle.nova_machine.specs.Run.{run, turns, next_turn, expired, last_time}
use Rattle.nova_machine.specs.Laws.{IsLimit}
use Rattle.nova_machine.proofs.Opened.{stop-cases, prepared-goes, turn-goes, turns-none, turns-stop, turns-go, next-early}
use Rattle.machine_laws.proofs.TurnTimes.{turns-turn}
use Rattle.machine_laws.proofs.StopsOfTurns.{stops-of-turns}
use Rattle.command_laws.specs.PassedBreaks.{MeetsBreak, BreaksArePassedOnce}

behind-behind : (first second : List (Observation Seen)) (p : Part) → behind_made first (behind_made second p) ≡ behind_made (first ++ second) p
behind-behind first second p = ap (λ l. record { made = l; after = p.after; stop = p.stop }) (sym (append_assoc first second p.made))

-- where time has ended, and where it has not
next-last : (note : Option RunNote) (first : Bool) (s : Seen) → (s.machine.time == last_time) ≡ true → next_turn note first s ≡ silent (Some Limit) s
unfolding next_turn
next-last note first s last = ap (λ (b : Bool). if b then silent (Some Limit) s else turn (at_time s.machine.time note) first s) last

next-other : (note : Option RunNote) (first : Bool) (s : Seen) → (s.machine.time == last_time) ≡ false → next_turn note first s ≡ turn (at_time s.machine.time note) first s
unfolding next_turn
next-other note first s other = ap (λ (b : Bool). if b then silent (Some Limit) s else turn (at_time s.machine.time note) first s) other

-- a turn that stops for a limit is none: time has ended
limit-last : (note : Option RunNote) (first : Bool) (s : Seen) → IsLimit (next_turn note first s).stop → (s.machine.time == last_time) ≡ true
limit-last note first s limit = by (s.machine.time == last_time) refl
  where
    by : (b : Bool) → (s.machine.time == last_time) ≡ b → b ≡ true
    by true is = refl
    by false is =
        let P : Option Stop → Type 0 = λ o. IsLimit o in
        absurd ((turns-turn (at_time s.machine.time note) first s).other (subst P (ap (λ (p : Part). p.stop) (next-other note first s is)) limit))

-- at the end of time every run that is not empty stops for the limit
turns-last : (note : Option RunNote) (step first : Bool) (n : ℕ) (s : Seen) → 0 < n → (s.machine.time == last_time) ≡ true → turns note step first n s ≡ silent (Some Limit) s
turns-last _ step first zero s some end = absurd (omega (arith, some))
turns-last note step first (suc n) s some end =
    let is = next-last note first s end in
    turns-stop note step first n s Limit (ap (λ (p : Part). p.stop) is) ∙ is

-- the turns behind some that only their count or the end of time has ended
module _ (note : Option RunNote) (one step : Bool) (k : ℕ) (some : 0 < k) where
  abbrev Goes : Bool → ℕ → Seen → Type 0
  Goes first n s =
      IsLimit (turns note one first n s).stop → turns note step first (n + k) s ≡ behind_made (turns note one first n s).made (turns note step false k (turns note one first n s).after)

  whole-stop : (first : Bool) (n : ℕ) (s : Seen) (stop : Stop) → (next_turn note first s).stop ≡ Some stop → Goes first (suc n) s
  whole-stop first n s stop is limit =
      let P : Option Stop → Type 0 = λ o. IsLimit o in
      let over = turns-stop note one first n s stop is in
      let last = limit-last note first s (subst P (ap (λ (p : Part). p.stop) over) limit) in
      let here = over ∙ next-last note first s last in
      turns-last note step first (suc n + k) s (omega arith) last
      ∙ sym (turns-last note step false k s some last)
      ∙ sym (ap (λ (p : Part). behind_made p.made (turns note step false k p.after)) here)

  whole-one : (first : Bool) (s : Seen) → (next_turn note first s).stop ≡ None → Goes first 1 s
  whole-one first s goes limit =
      let next = next_turn note first s in
      let both : 1 + k ≡ suc k = omega arith in
      let from : turns note one first 1 s ≡ behind_made next.made (silent (Some (expired one)) next.after) =
      turns-go note one first 0 s goes ∙ ap (behind_made next.made) (turns-none note one false next.after) in
      ap (λ (c : ℕ). turns note step first c s) both ∙ turns-go note step first k s goes
      ∙ ap (λ (l : List (Observation Seen)). behind_made l (turns note step false k next.after)) (sym (append-nil next.made))
      ∙ sym (ap (λ (p : Part). behind_made p.made (turns note step false k p.after)) from)

  whole-more : (first : Bool) (n : ℕ) (s : Seen) → ((next : Seen) → Goes false (suc n) next) → (next_turn note first s).stop ≡ None → Goes first (suc (suc n)) s
  whole-more first n s inner goes limit =
      let P : Option Stop → Type 0 = λ o. IsLimit o in
      let next = next_turn note first s in
      let both : suc (suc n) + k ≡ suc (suc n + k) = omega arith in
      let from = turns-go note one first (suc n) s goes in
      let rest = turns note one false (suc n) next.after in
      ap (λ (c : ℕ). turns note step first c s) both ∙ turns-go note step first (suc n + k) s goes
      ∙ ap (behind_made next.made) (inner next.after (subst P (ap (λ (p : Part). p.stop) from) limit))
      ∙ behind-behind next.made rest.made (turns note step false k rest.after)
      ∙ sym (ap (λ (p : Part). behind_made p.made (turns note step false k p.after)) from)

  whole-turns : (first : Bool) (n : ℕ) (s : Seen) → Goes first (suc n) s
  whole-turns first zero s limit =
      elim (stop-cases (next_turn note first s).stop) [ inl goes ↦ whole-one first s goes limit | inr w ↦ whole-stop first zero s w.0 w.1 limit ]
  whole-turns first (suc n) s limit =
      elim (stop-cases (next_turn note first s).stop) [
        | inl goes ↦ whole-more first n s (λ next. whole-turns false n next) goes limit
        | inr w ↦ whole-stop first (suc n) s w.0 w.1 limit
      ]

  whole-run : (n : ℕ) (s : Seen) → 0 < n → Goes true n s
  whole-run zero s many = absurd (omega (arith, many))
  whole-run (suc n) s many = whole-turns true n s

  next-breaks : (s : Seen) (number : ℕ) → MeetsBreak note s number → (next_turn note false s).stop ≡ Some (Break number)
  next-breaks s number meets =
      ap (λ (p : Part). p.stop) (next-early note false s meets.early) ∙ (stops-of-turns.break_ (at_time s.machine.time note) false s number).1 meets.broken

  stops-there : (count : ℕ) (s : Seen) (number : ℕ) → 0 < count → MeetsBreak note s number → (turns note step false count s).stop ≡ Some (Break number)
  stops-there zero s number many meets = absurd (omega (arith, many))
  stops-there (suc count) s number many meets =
      let is = next-breaks s number meets in
      ap (λ (p : Part). p.stop) (turns-stop note step false count s (Break number) is) ∙ is

  stops-run : (n number : ℕ) (s : Seen) → 0 < n → IsLimit (run note one n s).stop → MeetsBreak note (run note one n s).after number → (run note step (n + k) s).stop ≡ Some (Break number)
  stops-run n number s many limit meets = ap (λ (p : Part). p.stop) (whole-run n s many limit) ∙ stops-there k (run note one n s).after number some meets

passes : (note : Option UnitNote) (s : Seen) → (attended note s).stop ≡ None
    → turn note true s ≡ behind_made (attended note s).made (still (attended note s).after (fetch (attended note s).after.machine))
passes note s goes =
    let at = attended note s in
    let ready : prepared note true s ≡ record { made = at.made; after = at.after; stop = None } =
    prepared-goes note true s goes ∙ ap (λ (l : List (Observation Seen)). record { made = l; after = at.after; stop = None }) (append-nil at.made) in
    turn-goes note true s (ap (λ (p : Part). p.stop) ready)
    ∙ ap (λ (p : Part). behind_made p.made (still p.after (fetch p.after.machine))) ready

pub breaks-are-passed-once : BreaksArePassedOnce
breaks-are-passed-once = record {
  whole = λ note one step n k s many some limit. whole-run note one step k some n s many limit;
  stops = λ note one step n k number s many some limit meets. stops-run note one step k some n number s many limit meets;
  passes = passes;
  once = λ note step k s goes. turns-go note step true k s goes;
}
