-- A turn prints at the time at which it begins, and no run goes past the end of time.
use Rattle.std.proofs.Common.{◌≡◌, ℕ, zero, suc, ◌≤◌, ◌==◌, inl, inr, Bool, true, false, List, Option, Some, None, Result, Ok, Err, refl, ap, sym, subst, ◌∙◌, arith}
use Rattle.std.proofs.lemmas.Bool.{cond_both, eqb-false}
use Rattle.observations.specs.Observations.{Observation, StandsAt}
use Rattle.observations.proofs.MadeLemmas.{stands-either}
use Rattle.unit_trait.specs.declared.kind.UnitName.{UnitName}
use Rattle.unit_trait.specs.declared.calls.Want.{Want}
use Rattle.unit_trait.specs.declared.calls.Want.TheVariants as want
use Rattle.unit_trait.specs.declared.calls.Got.{Got}
use Rattle.unit_files.specs.Attachments.{attachment_at}
use Rattle.unit_files.specs.Acts.{Failure}
use Rattle.nova_machine.specs.declared.machine.Stop.{Stop}
use Rattle.nova_machine.specs.declared.machine.Stop.TheVariants.{Limit}
use Rattle.nova_machine.specs.Machine.{MachineState}
use Rattle.nova_machine.specs.Notes.{UnitNote, RunNote, at_time}
use Rattle.nova_machine.specs.Seen.{Seen, with_machine, attached_in}
use Rattle.nova_machine.specs.Parts.{Part, silent, behind_made, followed, then_part}
use Rattle.nova_machine.specs.Turned.{still}
use Rattle.memory_transfer.specs.Tapes.{NoAnswer}
use Rattle.nova_machine.specs.Wants.{answer_to, own_stop, prints}
use Rattle.nova_machine.specs.OnLines.{Lined, sends}
use Rattle.nova_machine.specs.Service.{want_at, asked, answered, replied, key_at, hosted, own_service, behind_line, line_service, service, taken}
use Rattle.nova_machine.specs.Turn.{fetch, is_interrupted, jump_to, interrupt_reference, enter, interrupt, breaks_tested, prepared, turn}
use Rattle.nova_machine.specs.Turned.{goes_on}
use Rattle.nova_machine.specs.Run.{last_time, expired, next_turn, turns, run}
use Rattle.machine_laws.specs.ValidLaws.{IsInTime}
use Rattle.nova_machine.proofs.Opened.{turn-opened, turns-none, turns-some}
use Rattle.machine_laws.proofs.TurnTimes.{turns-turn}
use Rattle.nova_machine.proofs.Walks.{OfServices, OfPieces, walk-prepared}
use Rattle.nova_machine.proofs.EachService.{each-service, sends-nowhere}

-- ---- before the instruction no time passes

record AtTime (s : Seen) (p : Part) : Type 0 where
  after : p.after.machine.time ≡ s.machine.time
  made : (t : Seen) → StandsAt t p.made → t.machine.time ≡ s.machine.time

at-silent : (s next : Seen) (stop : Option Stop) → next.machine.time ≡ s.machine.time → AtTime s (silent stop next)
at-silent s next stop same = record { after = same; made = λ t h. absurd h }

at-followed : (s : Seen) (made : List (Observation Seen)) (stop : Option Stop) (next : Seen) (goes_on : Seen → Part) → AtTime s (record { made = made; after = next; stop = stop })
    → ((t : Seen) → AtTime t (goes_on t)) → AtTime s (followed made stop next goes_on)
at-followed s made (Some stop) next goes_on first more = record { after = first.after; made = first.made }
at-followed s made None next goes_on first more = record {
  after = (more next).after ∙ first.after;
  made = λ t h. elim (stands-either t made (goes_on next).made h) [ inl x ↦ first.made t x | inr x ↦ (more next).made t x ∙ first.after ];
}

at-then : (s : Seen) (p : Part) (goes_on : Seen → Part) → AtTime s p → ((t : Seen) → AtTime t (goes_on t)) → AtTime s (then_part p goes_on)
at-then s p goes_on first more = at-followed s p.made p.stop p.after goes_on (record { after = first.after; made = first.made }) more

at-prints : (s x t : Seen) (w : Want) → x.machine.time ≡ s.machine.time → StandsAt t (prints w x) → t.machine.time ≡ s.machine.time
at-prints s x t (want.Console byte) same (inl is) = ap (λ (y : Seen). y.machine.time) is ∙ same
at-prints s x t (want.Console byte) same (inr none) = absurd none
at-prints s x t w same h = absurd h

at-replied : (s : Seen) (u : UnitName) (stop : Option Stop) (answer : Result Got NoAnswer) (x : Seen) → x.machine.time ≡ s.machine.time → AtTime s (replied u stop answer x)
unfolding answered
at-replied s u stop (Ok g) x same = at-silent s _ _ same
at-replied s u stop (Err why) x same = at-silent s x _ same

at-behind : (s : Seen) (made : List (Observation Seen)) (p : Part) → ((t : Seen) → StandsAt t made → t.machine.time ≡ s.machine.time) → AtTime s p → AtTime s (behind_made made p)
at-behind s made p first is = record {
  after = is.after;
  made = λ t h. elim (stands-either t made p.made h) [ inl x ↦ first t x | inr x ↦ is.made t x ];
}

at-own : (fault : Option Failure) (u : UnitName) (s : Seen) → AtTime s (own_service fault u (taken s))
unfolding own_service hosted asked
at-own fault u s =
    let x = taken s in
    let w = want_at u x.machine in
    let at = with_machine x (asked u x.machine) in
    at-behind s (prints w at) (replied u (own_stop (key_at x) x.watch.expects w) (answer_to fault (attachment_at (attached_in x.machine) u) x.files (key_at x) w) (hosted fault u x))
    (λ t h. at-prints s at t w refl h)
    (at-replied s u (own_stop (key_at x) x.watch.expects w) (answer_to fault (attachment_at (attached_in x.machine) u) x.files (key_at x) w) (hosted fault u x) refl)

at-line : (u : UnitName) (l : Lined) (s : Seen) → AtTime s (line_service u l (taken s))
unfolding line_service asked
at-line u l s =
    at-behind s (sends l.sent) (replied u l.stop (Ok l.got) (behind_line u l (taken s))) (λ t h. absurd (sends-nowhere l.sent t h))
    (at-replied s u l.stop (Ok l.got) (behind_line u l (taken s)) refl)

at-service : (fault : Option Failure) (u : UnitName) (s : Seen) → AtTime s (service fault u (taken s))
at-service fault u s = each-service (AtTime s) fault u (taken s) (at-own fault u s) (λ l is. at-line u l s)

at-services : OfServices AtTime
at-services = record { none = λ s. at-silent s s None refl; both = at-then; one = at-service }

jump-time : (a : Option ℕ) (m : MachineState) → (jump_to a m).machine.time ≡ m.time
jump-time None m = refl
jump-time (Some a) m = refl

enter-time : (m : MachineState) → (enter m).machine.time ≡ m.time
unfolding enter
enter-time m = jump-time (interrupt_reference m).address _

interrupt-time : (m : MachineState) → (interrupt m).machine.time ≡ m.time
unfolding interrupt
interrupt-time m = cond_both (is_interrupted m) (enter m) (goes_on m) (λ t. t.machine.time ≡ m.time) (λ _. enter-time m) (λ _. refl)

at-tested : (s : Seen) → AtTime s (breaks_tested s)
unfolding breaks_tested
at-tested s = at-silent s _ _ refl

at-pieces : OfPieces AtTime
at-pieces = record { services = at-services; interrupted = λ s. at-silent s _ _ (interrupt-time s.machine); tested = at-tested }

-- ---- a turn

made-followed : (s : Seen) (made : List (Observation Seen)) (stop : Option Stop) (next : Seen) → AtTime s (record { made = made; after = next; stop = stop })
    → (t : Seen) → StandsAt t (followed made stop next (λ ready. still ready (fetch ready.machine))).made → t.machine.time ≡ s.machine.time
made-followed s made (Some stop) next first t h = first.made t h
made-followed s made None next first t h = elim (stands-either t made _ h) [ inl x ↦ first.made t x | inr x ↦ absurd x ]

turn-made : (note : Option UnitNote) (first : Bool) (s t : Seen) → StandsAt t (turn note first s).made → t.machine.time ≡ s.machine.time
turn-made note first s t h =
    let p = prepared note first s in
    let at = walk-prepared AtTime at-pieces note first s in
    made-followed s p.made p.stop p.after (record { after = at.after; made = at.made }) t (subst (λ (q : Part). StandsAt t q.made) (turn-opened note first s).executes h)

-- ---- a run

in-silent : (stop : Option Stop) (s : Seen) → s.machine.time ≤ last_time → IsInTime (silent stop s)
in-silent stop s low = record { after = low; made = λ t h. absurd h }

in-next : (note : Option RunNote) (first : Bool) (s : Seen) → s.machine.time ≤ last_time → IsInTime (next_turn note first s)
unfolding next_turn
in-next note first s low =
    let meets = at_time s.machine.time note in
    cond_both (s.machine.time == last_time) (silent (Some Limit) s) (turn meets first s) IsInTime (λ _. in-silent (Some Limit) s low)
    (λ before. record {
      after = let t = turns-turn meets first s in let earlier = eqb-false s.machine.time last_time before in omega (arith, low, earlier, t.most);
      made = λ t h. subst (λ (n : ℕ). n ≤ last_time) (sym (turn-made meets first s t h)) low;
    })

in-followed : (made : List (Observation Seen)) (stop : Option Stop) (s : Seen) (goes_on : Seen → Part) → IsInTime (record { made = made; after = s; stop = stop })
    → ((next : Seen) → next.machine.time ≤ last_time → IsInTime (goes_on next)) → IsInTime (followed made stop s goes_on)
in-followed made (Some stop) s goes_on first more = record { after = first.after; made = first.made }
in-followed made None s goes_on first more =
    let rest = more s first.after in
    record {
      after = rest.after;
      made = λ t h. elim (stands-either t made (goes_on s).made h) [ inl x ↦ first.made t x | inr x ↦ rest.made t x ];
    }

in-turns : (note : Option RunNote) (step first : Bool) (n : ℕ) (s : Seen) → s.machine.time ≤ last_time → IsInTime (turns note step first n s)
in-turns note step first zero s low = subst IsInTime (sym (turns-none note step first s)) (in-silent (Some (expired step)) s low)
in-turns note step first (suc n) s low =
    let p = next_turn note first s in
    let now = in-next note first s low in
    subst IsInTime (sym (turns-some note step first n s))
    (in-followed p.made p.stop p.after (λ next. turns note step false n next) (record { after = now.after; made = now.made }) (λ next within. in-turns note step false n next within))

pub run-in-time : (note : Option RunNote) (step : Bool) (n : ℕ) (s : Seen) → s.machine.time ≤ last_time → IsInTime (run note step n s)
run-in-time note step n s low = in-turns note step true n s low
