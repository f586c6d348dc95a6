-- Runs of n + k, and the time that a run takes.
use Rattle.std.proofs.Common.{◌≡◌, ℕ, zero, suc, ◌+◌, ◌<◌, ◌≤◌, ◌==◌, ◌⊎◌, inl, inr, Bool, true, false, List, [], ◌++◌, Option, Some, None, refl, ap, sym, subst, ◌∙◌, arith, append_assoc, append-nil, if◌then◌else◌}
use Rattle.observations.specs.Observations.{Observation}
use Rattle.nova_machine.specs.declared.machine.Stop.{Stop}
use Rattle.nova_machine.specs.declared.machine.Stop.TheVariants.{Stepped, Limit}
use Rattle.nova_machine.specs.Notes.{UnitNote, RunNote, at_time}
use Rattle.nova_machine.specs.Seen.{Seen}
use Rattle.nova_machine.specs.Parts.{Part, silent, behind_made, followed, then_part}
use Rattle.nova_machine.specs.Turned.{still}
use Rattle.nova_machine.specs.Turn.{fetch, attended, breaks_tested_unless, turn}
use Rattle.nova_machine.specs.Run.{turns, run, next_turn, expired, last_time}
use Rattle.nova_machine.specs.Laws.{IsLimit, PassesNoBreak, Unchanged, RunSplits, RunTakesTime}
use Rattle.expect_actions.specs.Breaks.{has_break}
use Rattle.nova_machine.proofs.Plain.{breaks-none}
use Rattle.nova_machine.proofs.Walks.{OfCounted, walk-next, walk-counted, limit-expired}
use Rattle.nova_machine.proofs.Turns.{unchanged-same, unchanged-then}
use Rattle.machine_laws.proofs.TurnTimes.{turns-turn}
use Rattle.nova_machine.proofs.Opened.{stop-cases, turn-opened, turns-none, turns-stop, turns-go, next-late}

-- a turn where time may have ended: it stops for a limit exactly there, and then all is as it was
pub record NextTurn (before : Seen) (p : Part) : Type 0 where
  pub goes : p.stop ≡ None → p.after.machine.time ≡ before.machine.time + 1
  pub least : before.machine.time ≤ p.after.machine.time
  pub most : p.after.machine.time ≤ before.machine.time + 1
  pub ended : IsLimit p.stop → (before.machine.time ≡ last_time) × (p ≡ silent (Some Limit) before)
  pub unchanged : Unchanged before.machine p.after.machine
  pub held : p.after.machine.time ≡ before.machine.time → p.after.machine.ints.hold ≡ before.machine.ints.hold

next-ended : (s : Seen) → s.machine.time ≡ last_time → NextTurn s (silent (Some Limit) s)
next-ended s end = record {
  goes = λ h. absurd (cc);
  least = omega arith;
  most = omega arith;
  ended = λ limit. (end, refl);
  unchanged = unchanged-same s.machine;
  held = λ _. refl;
}

next-made : (note : Option UnitNote) (first : Bool) (s : Seen) → NextTurn s (turn note first s)
next-made note first s =
    let t = turns-turn note first s in
    record {
      goes = t.goes;
      least = t.least;
      most = t.most;
      ended = λ limit. absurd (t.other limit);
      unchanged = t.unchanged;
      held = t.held;
    }

-- the time that so many turns have taken, what they have done to the wait of interrupts, and what they have left
record Takes (n : ℕ) (s : Seen) (p : Part) : Type 0 where
  least : s.machine.time ≤ p.after.machine.time
  most : p.after.machine.time ≤ s.machine.time + n
  stepped : p.stop ≡ Some Stepped → p.after.machine.time ≡ s.machine.time + n
  limited : IsLimit p.stop → (p.after.machine.time ≡ s.machine.time + n) ⊎ (p.after.machine.time ≡ last_time)
  unchanged : Unchanged s.machine p.after.machine
  held : p.after.machine.time ≡ s.machine.time → p.after.machine.ints.hold ≡ s.machine.ints.hold

-- a turn that stops is the end of them
takes-stop : (n : ℕ) (s : Seen) (p : Part) → NextTurn s p → Takes (suc n) s p ⊎ (p.stop ≡ None)
takes-stop n s p next =
    let P : Option Stop → Type 0 = λ o. IsLimit o in
    elim (stop-cases p.stop) [
      | inl goes ↦ inr goes
      | inr w ↦ inl (record {
        least = next.least;
        most = omega (arith, next.most);
        stepped = λ h. let e = next.ended (subst P (sym h) tt) in let limit = ap (λ (x : Part). x.stop) e.1 in absurd (cc);
        limited = λ h. let e = next.ended h in inr (ap (λ (x : Part). x.after.machine.time) e.1 ∙ e.0);
        unchanged = next.unchanged;
        held = next.held;
      })
    ]

-- one that goes on is one more
takes-followed : (n : ℕ) (s : Seen) (made : List (Observation Seen)) (stop : Option Stop) (after : Seen) (goes_on : Seen → Part)
    → NextTurn s (record { made = made; after = after; stop = stop }) → ((next : Seen) → Takes n next (goes_on next)) → Takes (suc n) s (followed made stop after goes_on)
takes-followed n s made (Some stop) after goes_on next more =
    elim (takes-stop n s (record { made = made; after = after; stop = Some stop }) next) [ inl takes ↦ takes | inr goes ↦ absurd (cc) ]
takes-followed n s made None after goes_on next more =
    let t = more after in
    let last = (goes_on after).after.machine in
    let one : after.machine.time ≡ s.machine.time + 1 = next.goes refl in
    record {
      least = omega (arith, one, t.least);
      most = omega (arith, one, t.most);
      stepped = λ h. let e = t.stepped h in omega (arith, one, e);
      limited = λ h. elim (t.limited h) [ inl e ↦ inl (omega (arith, one, e)) | inr e ↦ inr e ];
      unchanged = unchanged-then s.machine after.machine last next.unchanged t.unchanged;
      held = λ h. absurd (omega (arith, one, t.least, h));
    }

takes-none : (step : Bool) (s : Seen) → Takes 0 s (silent (Some (expired step)) s)
takes-none step s = record {
  least = omega arith;
  most = omega arith;
  stepped = λ h. omega arith;
  limited = λ h. inl (omega arith);
  unchanged = unchanged-same s.machine;
  held = λ _. refl;
}

turns-take : OfCounted NextTurn Takes
turns-take = record {
  turn = next-made;
  ended = next-ended;
  none = takes-none;
  more = λ n s p goes_on next more. takes-followed n s p.made p.stop p.after goes_on next more;
}

next-next_turn : (note : Option RunNote) (first : Bool) (s : Seen) → NextTurn s (next_turn note first s)
next-next_turn note first s = walk-next NextTurn Takes turns-take note first s

-- at the end of time every run that is not empty stops for the limit
turns-ended : (note : Option RunNote) (step first : Bool) (n : ℕ) (s : Seen) → 0 < n → s.machine.time ≡ last_time → turns note step first n s ≡ silent (Some Limit) s
turns-ended note step first zero s some end = absurd (omega arith)
turns-ended note step first (suc n) s some end =
    let is = next-late note first s end in
    turns-stop note step first n s Limit (ap (λ (p : Part). p.stop) is) ∙ is

behind-behind : (first second : List (Observation Seen)) (p : Part) → behind_made first (behind_made second p) ≡ behind_made (first ++ second) p
behind-behind first second p = ap (λ l. record { made = l; after = p.after; stop = p.stop }) (sym (append_assoc first second p.made))

-- a first turn is like every other where no break has the address that it would test
unbroken-part : (made : List (Observation Seen)) (stop : Option Stop) (after : Seen)
    → (stop ≡ None → has_break after.machine.processor.cpu.pc after.watch.breaks.list ≡ false)
    → followed made stop after (λ at. breaks_tested_unless true at) ≡ followed made stop after (λ at. breaks_tested_unless false at)
unbroken-part made (Some stop) after none = refl
unbroken-part made None after none = ap (λ (p : Part). behind_made made p) (sym (breaks-none after (none refl)))

unbroken-turn : (note : Option UnitNote) (s : Seen)
    → ((attended note s).stop ≡ None → has_break (attended note s).after.machine.processor.cpu.pc (attended note s).after.watch.breaks.list ≡ false)
    → turn note true s ≡ turn note false s
unbroken-turn note s none =
    let at = attended note s in
    (turn-opened note true s).executes
    ∙ ap (λ (p : Part). then_part p (λ ready. still ready (fetch ready.machine)))
    ((turn-opened note true s).prepares ∙ unbroken-part at.made at.stop at.after none ∙ sym (turn-opened note false s).prepares)
    ∙ sym (turn-opened note false s).executes

unbroken-next : (note : Option RunNote) (s : Seen) → PassesNoBreak note s → next_turn note true s ≡ next_turn note false s
unfolding next_turn
unbroken-next note s passes =
    ap (λ (p : Part). if s.machine.time == last_time then silent (Some Limit) s else p) (unbroken-turn (at_time s.machine.time note) s passes)

turns-first : (note : Option RunNote) (step : Bool) (k : ℕ) (s : Seen) → PassesNoBreak note s → turns note step true k s ≡ turns note step false k s
turns-first note step zero s passes = turns-none note step true s ∙ sym (turns-none note step false s)
turns-first note step (suc k) s passes =
    let same = unbroken-next note s passes in
    elim (stop-cases (next_turn note false s).stop) [
      | inl goes ↦
          turns-go note step true k s (ap (λ (p : Part). p.stop) same ∙ goes)
          ∙ ap (λ (p : Part). behind_made p.made (turns note step false k p.after)) same
          ∙ sym (turns-go note step false k s goes)
      | inr w ↦ turns-stop note step true k s w.0 (ap (λ (p : Part). p.stop) same ∙ w.1) ∙ same ∙ sym (turns-stop note step false k s w.0 w.1)
    ]

any-first : (note : Option RunNote) (step first : Bool) (k : ℕ) (s : Seen) → PassesNoBreak note s → turns note step first k s ≡ turns note step true k s
any-first note step true k s passes = refl
any-first note step false k s passes = sym (turns-first note step k s passes)

-- turns that only the count or the end of time has ended, and k more
turns-limited : (note : Option RunNote) (one step first : Bool) (n k : ℕ) (s : Seen) → IsLimit (turns note one first n s).stop → 0 < k → PassesNoBreak note (turns note one first n s).after
    → turns note step first (n + k) s ≡ behind_made (turns note one first n s).made (turns note step true k (turns note one first n s).after)
turns-limited note one step first zero k s limit some passes =
    let none : zero + k ≡ k = omega arith in
    let is = turns-none note one first s in
    let P : Seen → Type 0 = λ x. PassesNoBreak note x in
    ap (λ c. turns note step first c s) none ∙ any-first note step first k s (subst P (ap (λ (p : Part). p.after) is) passes)
    ∙ sym (ap (λ (p : Part). behind_made p.made (turns note step true k p.after)) is)
turns-limited note one step first (suc n) k s limit some passes =
    let next = next_turn note first s in
    let both : suc n + k ≡ suc (n + k) = omega arith in
    let P : Option Stop → Type 0 = λ o. IsLimit o in
    let Q : Seen → Type 0 = λ x. PassesNoBreak note x in
    elim (stop-cases next.stop) [
      | inl goes ↦
          let from = turns-go note one first n s goes in
          let rest = turns note one false n next.after in
          let inner = turns-limited note one step false n k next.after (subst P (ap (λ (p : Part). p.stop) from) limit) some
          (subst Q (ap (λ (p : Part). p.after) from) passes) in
          ap (λ c. turns note step first c s) both ∙ turns-go note step first (n + k) s goes
          ∙ ap (behind_made next.made) inner
          ∙ behind-behind next.made rest.made (turns note step true k rest.after)
          ∙ sym (ap (λ (p : Part). behind_made p.made (turns note step true k p.after)) from)
      | inr w ↦
          let over = turns-stop note one first n s w.0 w.1 in
          let e = (next-next_turn note first s).ended (subst P (ap (λ (p : Part). p.stop) over) limit) in
          let here = over ∙ e.1 in
          turns-ended note step first (suc n + k) s (omega arith) e.0
          ∙ sym (turns-ended note step true k s some e.0)
          ∙ sym (ap (λ (p : Part). behind_made p.made (turns note step true k p.after)) here)
    ]

pub run-limited : (note : Option RunNote) (one step : Bool) (n k : ℕ) (s : Seen) → IsLimit (run note one n s).stop → 0 < k → PassesNoBreak note (run note one n s).after
    → run note step (n + k) s ≡ behind_made (run note one n s).made (run note step k (run note one n s).after)
run-limited note one step n k s limit some passes = turns-limited note one step true n k s limit some passes

pub run-counted : (note : Option RunNote) (step : Bool) (n k : ℕ) (s : Seen) → (run note step n s).stop ≡ Some (expired step) → PassesNoBreak note (run note step n s).after
    → run note step (n + k) s ≡ behind_made (run note step n s).made (run note step k (run note step n s).after)
run-counted note step n zero s all passes =
    let none : n + zero ≡ n = omega arith in
    let p = run note step n s in
    ap (λ c. run note step c s) none
    ∙ ap (λ o. record { made = p.made; after = p.after; stop = o }) all
    ∙ ap (λ l. record { made = l; after = p.after; stop = Some (expired step) }) (sym (nothing-behind p.made))
    ∙ sym (ap (behind_made p.made) (turns-none note step true p.after))
  where
    nothing-behind : (l : List (Observation Seen)) → l ++ [] ≡ l
    nothing-behind l = append-nil l
run-counted note step n (suc k) s all passes =
    let P : Option Stop → Type 0 = λ o. IsLimit o in
    run-limited note step step n (suc k) s (subst P (sym all) (limit-expired step)) (omega arith) passes

turns-stopped : (note : Option RunNote) (one step first : Bool) (n k : ℕ) (s : Seen) → ¬ IsLimit (turns note one first n s).stop → turns note step first (n + k) s ≡ turns note one first n s
turns-stopped note one step first zero k s other =
    let P : Option Stop → Type 0 = λ o. IsLimit o in
    absurd (other (subst P (sym (ap (λ (p : Part). p.stop) (turns-none note one first s))) (limit-expired one)))
turns-stopped note one step first (suc n) k s other =
    let next = next_turn note first s in
    let both : suc n + k ≡ suc (n + k) = omega arith in
    let P : Option Stop → Type 0 = λ o. ¬ IsLimit o in
    elim (stop-cases next.stop) [
      | inl goes ↦
          let from = turns-go note one first n s goes in
          ap (λ c. turns note step first c s) both ∙ turns-go note step first (n + k) s goes
          ∙ ap (behind_made next.made) (turns-stopped note one step false n k next.after (subst P (ap (λ (p : Part). p.stop) from) other)) ∙ sym from
      | inr w ↦ ap (λ c. turns note step first c s) both ∙ turns-stop note step first (n + k) s w.0 w.1 ∙ sym (turns-stop note one first n s w.0 w.1)
    ]

pub runs-split : RunSplits
runs-split = record { counted = run-counted; limited = run-limited; stopped = λ note one step n k s other. turns-stopped note one step true n k s other }

takes-turns : (note : Option RunNote) (step first : Bool) (n : ℕ) (s : Seen) → Takes n s (turns note step first n s)
takes-turns note step first n s = walk-counted NextTurn Takes turns-take note step first n s

pub runs-take-time : RunTakesTime
runs-take-time = record {
  least = λ note step n s. (takes-turns note step true n s).least;
  most = λ note step n s. (takes-turns note step true n s).most;
  stepped = λ note step n s. (takes-turns note step true n s).stepped;
  limited = λ note step n s. (takes-turns note step true n s).limited;
  held = λ note step n s. (takes-turns note step true n s).held;
  unchanged = λ note step n s. (takes-turns note step true n s).unchanged;
}
