-- Turns, one further, and what is left of a run.
use Rattle.std.proofs.Common.{◌≡◌, ◌≢◌, ℕ, zero, suc, ◌-◌, ◌<◌, ◌≤◌, ◌==◌, Bool, true, false, List, refl, ap, sym, subst, ◌∙◌, arith, Some, None, Option, IfSome, if◌then◌else◌}
use Rattle.std.proofs.lemmas.Bool.Decides.{nat_tests}
use Rattle.host_lines.specs.Traffic.{Answer}
use Rattle.host_lines.specs.State.{LineState}
use Rattle.nova_machine.specs.declared.machine.Stop.{Stop}
use Rattle.nova_machine.specs.declared.machine.Stop.TheVariants.{Limit, FileFault}
use Rattle.nova_processor.specs.declared.burst.BurstEnd.{BurstEnd}
use Rattle.nova_processor.specs.declared.burst.BurstEnd.TheVariants as burst_end
use Rattle.expect_actions.specs.Watch.{WatchState}
use Rattle.nova_machine.specs.Machine.{MachineState}
use Rattle.nova_machine.specs.Notes.{UnitNote, RunNote, at_time, unit_note, run_note}
use Rattle.nova_machine.specs.Seen.{Seen, seen, beside}
use Rattle.nova_machine.specs.Parts.{Part, silent, then_part}
use Rattle.nova_machine.specs.Turn.{turn}
use Rattle.nova_machine.specs.Run.{next_turn, turns, expired, last_time}
use Rattle.nova_machine.specs.Bursts.{Bursts}
use Rattle.file_traits.specs.Lists.{NamedBytes}
use Rattle.nova_machine.specs.Comes.{Output, Comes, IsOwn}
use Rattle.nova_machine.proofs.Parts.{silent-comes, comes-then, comes-stopped}
use Rattle.nova_machine.proofs.Opened.{turns-none, turns-some, turns-stop, next-early, next-late}

-- what the calls of a run come to, from the state where so many turns are left

pub last-of : (note : Option RunNote) (step first : Bool) (left : ℕ) (s : Seen) (stop : Stop) (last : Seen) (tells : Bool) (b a : Output) → s.machine.time < last_time → 0 < left
    → Comes (turn (at_time s.machine.time note) first s) (Some stop) last tells b a → Comes (turns note step first left s) (Some stop) last tells b a
last-of note step first zero s stop last tells b a early some h = absurd (omega (arith, some))
last-of note step first (suc left) s stop last tells b a early some h =
    let P : Part → Type 0 = λ x. Comes x (Some stop) last tells b a in
    let Q : Part → Type 0 = λ x. Comes (then_part x (λ next. turns note step false left next)) (Some stop) last tells b a in
    subst P (sym (turns-some note step first left s))
    (subst Q (sym (next-early note first s early)) (comes-stopped (turn (at_time s.machine.time note) first s) (λ next. turns note step false left next) stop last tells b a h))

pub turn-of : (note : Option RunNote) (step first second : Bool) (left count : ℕ) (s next : Seen) (r : Option Stop) (last : Seen) (tells : Bool) (b c a : Output)
    → s.machine.time < last_time → second ≡ false → left ≡ suc count
    → Comes (turn (at_time s.machine.time note) first s) None next tells b c → Comes (turns note step second count next) r last tells c a → Comes (turns note step first left s) r last tells b a
turn-of note step first second left count s next r last tells b c a early later is one rest =
    let P : Part → Type 0 = λ x. Comes x r last tells b a in
    let Q : Part → Type 0 = λ x. Comes (then_part x (λ n. turns note step false count n)) r last tells b a in
    let R : Bool → Type 0 = λ x. Comes (turns note step x count next) r last tells c a in
    let goal : turns note step first left s ≡ then_part (next_turn note first s) (λ n. turns note step false count n) =
    ap (λ (n : ℕ). turns note step first n s) is ∙ turns-some note step first count s in
    subst P (sym goal)
    (subst Q (sym (next-early note first s early)) (comes-then (turn (at_time s.machine.time note) first s) (λ n. turns note step false count n) next r last tells b c a one (subst R later rest)))

-- time has ended
pub ended-of : (note : Option RunNote) (step first : Bool) (left : ℕ) (s : Seen) (tells : Bool) (b : Output) → 0 < left → s.machine.time ≡ last_time
    → Comes (turns note step first left s) (Some Limit) s tells b b
ended-of note step first zero s tells b some late = absurd (omega (arith, some))
ended-of note step first (suc left) s tells b some late =
    let is = next-late note first s late in
    let P : Part → Type 0 = λ x. Comes x (Some Limit) s tells b b in
    subst P (sym (turns-stop note step first left s Limit (ap (λ (p : Part). p.stop) is) ∙ is))
    (silent-comes (Some Limit) (Some Limit) s s tells b tt refl refl)

-- the count is reached
pub expired-of : (note : Option RunNote) (step first : Bool) (left : ℕ) (s : Seen) (stop : Stop) (tells : Bool) (b : Output) → left ≡ 0 → IsOwn (Some stop) → stop ≡ expired step
    → Comes (turns note step first left s) (Some stop) s tells b b
expired-of note step first left s stop tells b none other is =
    let P : Part → Type 0 = λ x. Comes x (Some stop) s tells b b in
    let all : turns note step first left s ≡ silent (Some (expired step)) s = ap (λ (n : ℕ). turns note step first n s) none ∙ turns-none note step first s in
    subst P (sym all) (silent-comes (Some (expired step)) (Some stop) s s tells b other (ap Some is) refl)

-- a burst that no chain has ended
pub burst-goes : (watch : WatchState) (note : Option RunNote) (most done : ℕ) (end : BurstEnd) (old new : MachineState) (one : Bool) (keys : List (ℕ × ℕ)) (files : List NamedBytes) (lines : LineState) (whole : List Answer)
    → end ≢ burst_end.ChainLimit → Bursts watch keys most done end old new
    → turns note one false most (seen (beside watch keys files lines) whole old) ≡ turns note one false (most - done) (seen (beside watch keys files lines) whole new)
burst-goes watch note most done burst_end.Spent old new one keys files lines whole other told = told note one files lines whole
burst-goes watch note most done burst_end.Transfer old new one keys files lines whole other told = told note one files lines whole
burst-goes watch note most done burst_end.AtStop old new one keys files lines whole other told = told note one files lines whole
burst-goes watch note most done burst_end.ChainLimit old new one keys files lines whole other told = absurd (other refl)

-- ---- the note of a run

-- a call that failed in a turn is that of the run's note
pub note-here : (stop : Stop) (now later : ℕ) → IfSome (unit_note (Some stop)) (λ n. later ≡ now) → at_time now (run_note later (Some stop)) ≡ unit_note (Some stop)
note-here (FileFault f) now later same = test (now == later) _ (grind (arith, nat_tests))
  where
    test : (b : Bool) (n : UnitNote) → b ≡ true → (if b then Some n else None) ≡ Some n
    test true n is = refl
    test false n is = absurd (cc)
note-here stop now later same = refl

pub note-coming : (stop : Stop) (now later : ℕ) → IfSome (unit_note (Some stop)) (λ n. later ≡ now) → IfSome (run_note later (Some stop)) (λ n. now ≤ n.time)
note-coming (FileFault f) now later same = omega (arith, same)
note-coming stop now later same = tt

-- a stop that no file has caused has no note
pub note-own : (stop : Stop) (time : ℕ) → IsOwn (Some stop) → run_note time (Some stop) ≡ None
note-own (FileFault f) time own = absurd own
note-own stop time own = refl

-- a note of a later turn is none of this one
pub not-now : (note : Option RunNote) (now later : ℕ) → now < later → IfSome note (λ n. later ≤ n.time) → at_time now note ≡ None
not-now None now later after still = refl
not-now (Some n) now later after still = test (now == n.time) _ (grind (arith, nat_tests))
  where
    test : (b : Bool) (x : UnitNote) → b ≡ false → (if b then Some x else None) ≡ None
    test false x is = refl
    test true x is = absurd (cc)

pub still-later : (note : Option RunNote) (now later : ℕ) → now ≤ later → IfSome note (λ n. later ≤ n.time) → IfSome note (λ n. now ≤ n.time)
still-later None now later after still = tt
still-later (Some n) now later after still = omega (arith, after, still)
