-- A loop that waits for a flag, and looks of the keyboards for which no key comes.
use Rattle.std.proofs.Common.{◌≡◌, ℕ, zero, suc, ◌+◌, ◌-◌, ◌%◌, ◌==◌, ◌<◌, ◌≤◌, Bool, true, false, List, Option, None, refl, ap, sym, ◌∙◌, arith}
use Rattle.nova_processor.specs.declared.burst.BurstEnd.TheVariants as burst_end
use Rattle.nova_processor.specs.Processor.{ProcessorState}
use Rattle.nova_processor.specs.InputOutput.{past}
use Rattle.nova_processor.specs.Burst.{step}
use Rattle.expect_actions.specs.Breaks.{has_break}
use Rattle.expect_actions.specs.Watch.{WatchState}
use Rattle.nova_machine.specs.Machine.{MachineState, on_processor}
use Rattle.nova_machine.specs.Notes.{RunNote, at_time}
use Rattle.nova_machine.specs.Seen.{Seen, seen, beside, erased, with_machine}
use Rattle.nova_machine.specs.Parts.{silent}
use Rattle.nova_machine.specs.Turned.{Turned, still}
use Rattle.nova_machine.specs.Service.{key_at}
use Rattle.nova_machine.specs.Run.{last_time, next_turn, turns}
use Rattle.nova_machine.specs.Bursts.{Bursts}
use Rattle.nova_machine.specs.Waits.{IsWaiting, AreUnbroken, halfway}
use Rattle.nova_machine.specs.Looks.{IsIdle, idled_by, looked_at}
use Rattle.nova_machine.proofs.Opened.{next-early}
use Rattle.nova_machine.proofs.Bursts.{behind_step, IsUnbroken, turns-silent}
use Rattle.nova_machine.proofs.Waits.{skip-is, back-is, past-at, half-even, half-odd, half-none, next-odd, next-even}
use Rattle.nova_machine.proofs.Idling.{Looks, Idles, look-turn, look-next, idle-looks, idle-keyless, idle-early, idle-more, idle-processor, idle-none, idle-is, idle-erased, erased-idle, idle_behind}

waiting-looked : (period : ℕ) (m : MachineState) → IsWaiting m → IsWaiting (looked_at period m)
unfolding looked_at
waiting-looked period m waiting = record {
  test = waiting.test;
  untaken = record { there = waiting.untaken.there; untaken = waiting.untaken.untaken };
  back = waiting.back;
}

waiting-idle : (period count : ℕ) (m : MachineState) → IsWaiting m → IsWaiting (idle_behind period count m m.processor)
unfolding idle_behind idled_by
waiting-idle period count m waiting = record {
  test = waiting.test;
  untaken = record { there = waiting.untaken.there; untaken = waiting.untaken.untaken };
  back = waiting.back;
}

looked-processor : (period : ℕ) (m : MachineState) → (looked_at period m).processor ≡ m.processor
unfolding looked_at
looked-processor period m = refl

-- the skip, behind a look that may be due
skip-look : (note : Option RunNote) (period : ℕ) (s : Seen) → Looks period s → key_at s ≡ None → IsUnbroken s → s.machine.time < last_time → IsWaiting s.machine
    → next_turn note false s ≡ silent None (with_machine s (behind_step (looked_at period s.machine) (past s.machine.processor)))
skip-look note period s looks none unbroken early waiting =
    next-early note false s early ∙ look-turn (at_time s.machine.time note) period s looks none unbroken
    ∙ ap (λ (t : Turned). still s t) (skip-is (looked_at period s.machine) (waiting-looked period s.machine waiting))
    ∙ ap (λ (q : ProcessorState). silent None (with_machine s (behind_step (looked_at period s.machine) (past q)))) (looked-processor period s.machine)

at-unbroken : (period count : ℕ) (s : Seen) (q : ProcessorState) → has_break q.cpu.pc s.watch.breaks.list ≡ false → IsUnbroken (with_machine s (idle_behind period count s.machine q))
at-unbroken period count s q none = ap (λ (p : ProcessorState). has_break p.cpu.pc s.watch.breaks.list) (idle-processor period count s.machine q) ∙ none

half-look : (period : ℕ) (note : Option RunNote) (one : Bool) (count most left : ℕ) (s : Seen) → AreUnbroken s.watch s.machine → IsWaiting s.machine
    → Idles most period s → count < most → s.machine.time + most ≤ last_time
    → turns note one false (suc left) (with_machine s (idle_behind period count s.machine (halfway count s.machine.processor)))
    ≡ turns note one false left (with_machine s (idle_behind period (suc count) s.machine (halfway (suc count) s.machine.processor)))
half-look period note one count most left s unbroken waiting idle within end = by (count % 2 == 1) refl
  where
    m : MachineState
    m = s.machine

    p : ProcessorState
    p = s.machine.processor

    by : (b : Bool) → (count % 2 == 1) ≡ b
        → turns note one false (suc left) (with_machine s (idle_behind period count s.machine (halfway count s.machine.processor)))
        ≡ turns note one false left (with_machine s (idle_behind period (suc count) s.machine (halfway (suc count) s.machine.processor)))
    by false even =
        let at = with_machine s (idle_behind period count m p) in
        let skips = skip-look note period at (idle-looks period count most s p idle within) (idle-keyless period count most s p idle within)
        (at-unbroken period count s p unbroken.test) (idle-early period count most m p within end) (waiting-idle period count m waiting) in
        ap (λ (q : ProcessorState). turns note one false (suc left) (with_machine s (idle_behind period count m q))) (half-even count p even)
        ∙ turns-silent note one left at (with_machine s (behind_step (looked_at period at.machine) (past at.machine.processor))) skips
        ∙ ap (λ (q : ProcessorState). turns note one false left (with_machine s (behind_step (looked_at period at.machine) (past q)))) (idle-processor period count m p)
        ∙ ap (λ (x : MachineState). turns note one false left (with_machine s x)) (idle-more period count m p (past p))
        ∙ ap (λ (q : ProcessorState). turns note one false left (with_machine s (idle_behind period (suc count) m q))) (sym (half-odd (suc count) p (next-odd count even)))
    by true odd =
        let mid = with_machine s (idle_behind period count m (past p)) in
        let jumps = look-next note period mid p (idle-looks period count most s (past p) idle within) (idle-keyless period count most s (past p) idle within)
        (at-unbroken period count s (past p) (past-at s.watch p unbroken.back)) (idle-early period count most m (past p) within end)
        (ap step (idle-processor period count m (past p)) ∙ back-is p waiting.back) in
        ap (λ (q : ProcessorState). turns note one false (suc left) (with_machine s (idle_behind period count m q))) (half-odd count p odd)
        ∙ turns-silent note one left mid (with_machine s (behind_step (looked_at period mid.machine) p)) jumps
        ∙ ap (λ (x : MachineState). turns note one false left (with_machine s x)) (idle-more period count m (past p) p)
        ∙ ap (λ (q : ProcessorState). turns note one false left (with_machine s (idle_behind period (suc count) m q))) (sym (half-even (suc count) p (next-even count odd)))

looks-pass : (period : ℕ) (note : Option RunNote) (one : Bool) (count most left : ℕ) (s : Seen) → AreUnbroken s.watch s.machine → IsWaiting s.machine
    → Idles most period s → count ≤ most → s.machine.time + most ≤ last_time
    → turns note one false (count + left) s ≡ turns note one false left (with_machine s (idle_behind period count s.machine (halfway count s.machine.processor)))
looks-pass period note one zero most left s unbroken waiting idle within end =
    let none : zero + left ≡ left = omega arith in
    ap (λ (n : ℕ). turns note one false n s) none
    ∙ ap (λ (x : MachineState). turns note one false left (with_machine s x)) (sym (idle-none period s.machine (halfway 0 s.machine.processor) (half-none s.machine.processor)))
looks-pass period note one (suc count) most left s unbroken waiting idle within end =
    let both : suc count + left ≡ count + suc left = omega arith in
    ap (λ (n : ℕ). turns note one false n s) both
    ∙ looks-pass period note one count most (suc left) s unbroken waiting idle (omega (arith, within)) end
    ∙ half-look period note one count most left s unbroken waiting idle (omega (arith, within)) end

waiting-erased : (m : MachineState) → IsWaiting m → IsWaiting (erased m)
waiting-erased m waiting = record {
  test = waiting.test;
  untaken = record { there = waiting.untaken.there; untaken = waiting.untaken.untaken };
  back = waiting.back;
}

pub idle-waits : (period : ℕ) (watch : WatchState) (keys : List (ℕ × ℕ)) (most count : ℕ) (old new : MachineState) → AreUnbroken watch old → IsWaiting old
    → IsIdle count period old watch.sends keys → old.time + count ≤ last_time → count ≤ most
    → new ≡ idled_by period count (on_processor (halfway count) old) → Bursts watch keys most count burst_end.Transfer old new
unfolding idle_behind idled_by
idle-waits period watch keys most count old new unbroken waiting idle end few is = λ note one files lines whole.
    let all : most ≡ count + (most - count) = omega (arith, few) in
    let s = seen (beside watch keys files lines) whole old in
    let q = halfway count old.processor in
    ap (λ (n : ℕ). turns note one false n s) all
    ∙ looks-pass period note one count count (most - count) s (record { test = unbroken.test; back = unbroken.back }) (waiting-erased old waiting)
    (idle-erased count period watch keys files lines whole old idle) (omega arith) end
    ∙ ap (λ (x : MachineState). turns note one false (most - count) (with_machine s x)) (erased-idle period count old q)
    ∙ ap (λ (x : MachineState). turns note one false (most - count) (seen (beside watch keys files lines) whole x)) (sym (is ∙ idle-is period count old q))
