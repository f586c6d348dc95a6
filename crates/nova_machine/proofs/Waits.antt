-- A loop that waits for a flag: each of its two instructions takes its time, and changes nothing else but PC.
use Rattle.std.proofs.Common.{◌≡◌, ◌≢◌, List, ℕ, zero, suc, ◌+◌, ◌-◌, ◌%◌, ◌^◌, ◌<◌, ◌≤◌, ◌==◌, Bool, true, false, not, nat_lt, is_some, option_map, unwrap_or, Option, Some, None, refl, ap, sym, ◌∙◌, arith, if◌then◌else◌}
use Rattle.std.proofs.lemmas.Bool.Decides.{nat_tests}
use Rattle.nova_word.specs.Bits.{bits}
use Rattle.nova_memory.specs.Memory.{get}
use Rattle.nova_memory.specs.Address.{indexed, chain, address}
use Rattle.unit_trait.specs.Calls.{UnitState}
use Rattle.unit_list.specs.declared.bus.Flags.{Flags}
use Rattle.unit_list.specs.Bus.{unit_at, flags_of}
use Rattle.nova_processor.specs.declared.burst.BurstEnd.TheVariants as burst_end
use Rattle.expect_actions.specs.Breaks.{has_break}
use Rattle.expect_actions.specs.Watch.{WatchState}
use Rattle.nova_processor.specs.Processor.{ProcessorState}
use Rattle.nova_processor.specs.Instruction.{following, advanced, jump, without_accumulator, memory_reference, load, store, jump_to_subroutine, store_and_skip, arithmetic}
use Rattle.nova_processor.specs.InputOutput.{past, tested, flag_skips, unanswered, multiply_divide}
use Rattle.nova_processor.specs.Burst.{steps, refers_to, refers, passes, step_of, step}
use Rattle.nova_machine.specs.declared.machine.Stop.TheVariants.{UnknownDevice}
use Rattle.nova_machine.specs.Machine.{MachineState, on_processor}
use Rattle.nova_machine.specs.Notes.{RunNote, at_time}
use Rattle.nova_machine.specs.Seen.{Seen, seen, beside, erased, with_machine}
use Rattle.nova_machine.specs.Parts.{silent}
use Rattle.nova_machine.specs.Turned.{Turned, goes_on, stops, still, begun, ticked, executed}
use Rattle.nova_machine.specs.Transfer.{no_flags, flags_in, asked_unit, to_unit, to_device, to_processor, transfer}
use Rattle.nova_machine.specs.Turn.{refer, execute, fetch}
use Rattle.nova_machine.specs.Run.{last_time, next_turn, turns}
use Rattle.nova_machine.specs.Quiet.{IsPlain}
use Rattle.nova_machine.specs.Bursts.{passed_by, IsCalm, Bursts}
use Rattle.nova_machine.specs.Waits.{IsTest, IsUntaken, IsJump, IsWaiting, AreUnbroken, halfway}
use Rattle.nova_processor.specs.declared.burst.BurstEnd.{BurstEnd}
use Rattle.nova_machine.proofs.Runs.{burst-goes}
use Rattle.nova_machine.proofs.Opened.{next-early}
use Rattle.nova_machine.proofs.Bursts.{behind_step, executed-is, IsUnbroken, plain-turn, plain-next, turns-silent, behind, behind-none, behind-more, behind-plain, behind-early, behind-processor, behind-is, calm-erased, erased-behind}

-- ---- the skip

found-there : (o : Option UnitState) (flags : Flags) → option_map flags_of o ≡ Some flags → is_some o ≡ true
found-there None flags is = absurd (cc)
found-there (Some u) flags is = refl

not-true : (b : Bool) → not b ≡ true → b ≡ false
not-true true is = absurd (cc)
not-true false is = refl

-- the unit's flags say that a skip is not taken
pub untaken-here : (code test : ℕ) (m : MachineState) (flags : Flags) (skips : Bool) → option_map flags_of (unit_at code m.units) ≡ Some flags
    → skips ≡ flag_skips test flags.busy flags.done → not skips ≡ true → IsUntaken code test m
untaken-here code test m flags skips found is stays =
    let same : flags_in code m ≡ flags = ap (λ (o : Option Flags). unwrap_or o no_flags) found in
    record {
      there = found-there (unit_at code m.units) flags found;
      untaken = ap (λ (f : Flags). flag_skips test f.busy f.done) same ∙ sym is ∙ not-true skips stays;
    }

unit-is : (w code : ℕ) (m : MachineState) → bits 5 7 w ≡ 7 → flag_skips (bits 8 9 w) (flags_in code m).busy (flags_in code m).done ≡ false → to_unit code w m ≡ on_processor past m
unfolding to_unit tested past
unit-is w code m skip untaken =
    let is : (bits 5 7 w == 7) ≡ true = ap (λ (n : ℕ). n == 7) skip in
    ap (λ (b : Bool). if b then on_processor (tested (bits 8 9 w) (flags_in code m).busy (flags_in code m).done) m else asked_unit code w m) is
    ∙ ap (λ (b : Bool). record m { processor = record m.processor { cpu = advanced b m.processor.cpu } }) untaken

begun-unit : (w code : ℕ) (m : MachineState) → bits 5 7 w ≡ 7 → flag_skips (bits 8 9 w) (flags_in code m).busy (flags_in code m).done ≡ false
    → to_unit code w (begun m) ≡ on_processor past (begun m)
unfolding begun
begun-unit w code m skip untaken = unit-is w code (begun m) skip untaken

device-is : (w : ℕ) (m : MachineState) → IsTest w → IsUntaken (bits 10 15 w) (bits 8 9 w) m → to_device (bits 10 15 w) w m ≡ goes_on (executed past m)
unfolding to_device
device-is w m t u =
    let code = bits 10 15 w in
    ap (λ (b : Bool). if b then goes_on (ticked (to_unit code w (begun m))) else if m.stop_dev then stops UnknownDevice m else goes_on (executed (unanswered w) m)) u.there
    ∙ ap (λ (x : MachineState). goes_on (ticked x)) (begun-unit w code m t.skip u.untaken)

transfer-is : (w : ℕ) (m : MachineState) → IsTest w → IsUntaken (bits 10 15 w) (bits 8 9 w) m → transfer w m ≡ goes_on (executed past m)
unfolding transfer
transfer-is w m t u =
    let code = bits 10 15 w in
    let no_multiply : (code == 1) ≡ false = grind (arith, nat_tests, t.no_multiply) in
    let no_processor : (code == 0o77) ≡ false = grind (arith, nat_tests, t.no_processor) in
    ap (λ (b : Bool). if b then goes_on (executed (multiply_divide w) m) else if code == 0o77 then to_processor w m else to_device code w m) no_multiply
    ∙ ap (λ (b : Bool). if b then to_processor w m else to_device code w m) no_processor
    ∙ device-is w m t u

execute-is : (w : ℕ) (m : MachineState) → IsTest w → IsUntaken (bits 10 15 w) (bits 8 9 w) m → execute w m ≡ goes_on (executed past m)
unfolding execute
execute-is w m t u =
    let from : nat_lt w 0o60000 ≡ false = grind (arith, nat_tests, t.from) in
    let to : nat_lt w 0o100000 ≡ true = grind (arith, nat_tests, t.to) in
    ap (λ (b : Bool). if b then refer w m else if nat_lt w 0o100000 then transfer w m else goes_on (executed (arithmetic w) m)) from
    ∙ ap (λ (b : Bool). if b then transfer w m else goes_on (executed (arithmetic w) m)) to
    ∙ transfer-is w m t u

pub skip-is : (m : MachineState) → IsWaiting m → fetch m ≡ goes_on (behind_step m (past m.processor))
unfolding fetch
skip-is m waiting = execute-is (get m.processor.memory m.processor.cpu.pc) m waiting.test waiting.untaken ∙ ap (λ (x : MachineState). goes_on x) (executed-is past m)

-- ---- the jump

-- a JMP without an indirect chain
jump-step : (w to : ℕ) (p : ProcessorState) → IsJump w p.cpu.pc to p.cpu.accumulators → step_of w p ≡ steps (record p { cpu = record p.cpu { pc = to } })
unfolding step_of refers address memory_reference without_accumulator jump
jump-step w to p is =
    let less = is.direct in
    let refers_is : nat_lt w 0o60000 ≡ true = grind (arith, nat_tests, less) in
    let direct : (bits 5 5 w == 1) ≡ false = grind (arith, nat_tests, less) in
    let first : (bits 0 2 w == 0) ≡ true = grind (arith, nat_tests, less) in
    let second : (bits 3 4 w == 0) ≡ true = grind (arith, nat_tests, less) in
    let at = indexed w p.cpu.pc p.cpu.accumulators in
    ap (λ (b : Bool). if b then refers w p else if nat_lt w 0o100000 then passes w p else steps (arithmetic w p)) refers_is
    ∙ ap (λ (b : Bool). let reference = if b then chain 16 p.memory at else record { memory = p.memory; address = Some at } in
    refers_to w reference.address (record p { memory = reference.memory })) direct
    ∙ ap (λ (b : Bool). steps (if b then without_accumulator (bits 3 4 w) at p else if bits 0 2 w == 1 then load (bits 3 4 w) at p else store (bits 3 4 w) at p)) first
    ∙ ap (λ (b : Bool). steps (if b then jump at p else if bits 3 4 w == 1 then jump_to_subroutine at p
    else if bits 3 4 w == 2 then store_and_skip at ((get p.memory at + 1) % 2 ^ 16) p else store_and_skip at ((get p.memory at + (2 ^ 16 - 1)) % 2 ^ 16) p)) second
    ∙ ap (λ (n : ℕ). steps (record p { cpu = record p.cpu { pc = n } })) is.target

pub back-is : (p : ProcessorState) → IsJump (get p.memory (following p.cpu.pc)) (following p.cpu.pc) p.cpu.pc p.cpu.accumulators → step (past p) ≡ steps p
unfolding step past advanced
back-is p is = jump-step (get p.memory (following p.cpu.pc)) p.cpu.pc (past p) is

-- ---- its turns

waiting-behind : (count : ℕ) (m : MachineState) → IsWaiting m → IsWaiting (behind count m m.processor)
unfolding behind passed_by
waiting-behind count m waiting = record {
  test = waiting.test;
  untaken = record { there = waiting.untaken.there; untaken = waiting.untaken.untaken };
  back = waiting.back;
}

skip-next : (note : Option RunNote) (s : Seen) → IsPlain s.machine → IsUnbroken s → s.machine.time < last_time → IsWaiting s.machine
    → next_turn note false s ≡ silent None (with_machine s (behind_step s.machine (past s.machine.processor)))
skip-next note s plain none early waiting =
    next-early note false s early ∙ plain-turn (at_time s.machine.time note) s plain none ∙ ap (λ (t : Turned). still s t) (skip-is s.machine waiting)

at-unbroken : (count : ℕ) (s : Seen) (q : ProcessorState) → has_break q.cpu.pc s.watch.breaks.list ≡ false → IsUnbroken (with_machine s (behind count s.machine q))
at-unbroken count s q none = ap (λ (p : ProcessorState). has_break p.cpu.pc s.watch.breaks.list) (behind-processor count s.machine q) ∙ none

pub past-at : (watch : WatchState) (p : ProcessorState) → has_break (following p.cpu.pc) watch.breaks.list ≡ false → has_break (past p).cpu.pc watch.breaks.list ≡ false
unfolding past advanced
past-at watch p none = none

-- ---- the loop behind so many instructions

pub half-even : (count : ℕ) (p : ProcessorState) → (count % 2 == 1) ≡ false → halfway count p ≡ p
unfolding halfway
half-even count p even = ap (λ (b : Bool). if b then past p else p) even

pub half-odd : (count : ℕ) (p : ProcessorState) → (count % 2 == 1) ≡ true → halfway count p ≡ past p
unfolding halfway
half-odd count p odd = ap (λ (b : Bool). if b then past p else p) odd

pub next-odd : (count : ℕ) → (count % 2 == 1) ≡ false → (suc count % 2 == 1) ≡ true
next-odd count even = grind (arith, nat_tests, even)

pub next-even : (count : ℕ) → (count % 2 == 1) ≡ true → (suc count % 2 == 1) ≡ false
next-even count odd = grind (arith, nat_tests, odd)

pub half-none : (p : ProcessorState) → halfway 0 p ≡ p
half-none p = half-even 0 p refl

pub half-ahead : (count : ℕ) (m : MachineState) → count % 2 ≡ 1
    → on_processor (halfway count) m ≡ record m { processor = record m.processor { cpu = record m.processor.cpu { pc = following m.processor.cpu.pc } } }
unfolding past advanced
half-ahead count m odd =
    let is : (count % 2 == 1) ≡ true = grind (arith, nat_tests, odd) in
    ap (λ (p : ProcessorState). record m { processor = p }) (half-odd count m.processor is)

pub half-still : (count : ℕ) (m : MachineState) → count % 2 ≢ 1 → on_processor (halfway count) m ≡ m
half-still count m even =
    let is : (count % 2 == 1) ≡ false = grind (arith, nat_tests, even) in
    ap (λ (p : ProcessorState). record m { processor = p }) (half-even count m.processor is)

half-turn : (note : Option RunNote) (one : Bool) (count most left : ℕ) (s : Seen) → AreUnbroken s.watch s.machine → IsWaiting s.machine → IsCalm most s.machine → count < most
    → s.machine.time + most ≤ last_time
    → turns note one false (suc left) (with_machine s (behind count s.machine (halfway count s.machine.processor)))
    ≡ turns note one false left (with_machine s (behind (suc count) s.machine (halfway (suc count) s.machine.processor)))
half-turn note one count most left s unbroken waiting calm within end = by (count % 2 == 1) refl
  where
    m : MachineState
    m = s.machine

    p : ProcessorState
    p = s.machine.processor

    by : (b : Bool) → (count % 2 == 1) ≡ b
        → turns note one false (suc left) (with_machine s (behind count s.machine (halfway count s.machine.processor)))
        ≡ turns note one false left (with_machine s (behind (suc count) s.machine (halfway (suc count) s.machine.processor)))
    by false even =
        let at = with_machine s (behind count m p) in
        let skips = skip-next note at (behind-plain count most m p calm within) (at-unbroken count s p unbroken.test) (behind-early count most m p within end) (waiting-behind count m waiting) in
        ap (λ (q : ProcessorState). turns note one false (suc left) (with_machine s (behind count m q))) (half-even count p even)
        ∙ turns-silent note one left at (with_machine s (behind_step at.machine (past at.machine.processor))) skips
        ∙ ap (λ (q : ProcessorState). turns note one false left (with_machine s (behind_step at.machine (past q)))) (behind-processor count m p)
        ∙ ap (λ (x : MachineState). turns note one false left (with_machine s x)) (behind-more count m p (past p))
        ∙ ap (λ (q : ProcessorState). turns note one false left (with_machine s (behind (suc count) m q))) (sym (half-odd (suc count) p (next-odd count even)))
    by true odd =
        let mid = with_machine s (behind count m (past p)) in
        let jumps = plain-next note mid p (behind-plain count most m (past p) calm within) (at-unbroken count s (past p) (past-at s.watch p unbroken.back)) (behind-early count most m (past p) within end)
        (ap step (behind-processor count m (past p)) ∙ back-is p waiting.back) in
        ap (λ (q : ProcessorState). turns note one false (suc left) (with_machine s (behind count m q))) (half-odd count p odd)
        ∙ turns-silent note one left mid (with_machine s (behind_step mid.machine p)) jumps
        ∙ ap (λ (x : MachineState). turns note one false left (with_machine s x)) (behind-more count m (past p) p)
        ∙ ap (λ (q : ProcessorState). turns note one false left (with_machine s (behind (suc count) m q))) (sym (half-even (suc count) p (next-even count odd)))

waits-pass : (note : Option RunNote) (one : Bool) (count most left : ℕ) (s : Seen) → AreUnbroken s.watch s.machine → IsWaiting s.machine → IsCalm most s.machine → count ≤ most
    → s.machine.time + most ≤ last_time
    → turns note one false (count + left) s ≡ turns note one false left (with_machine s (behind count s.machine (halfway count s.machine.processor)))
waits-pass note one zero most left s unbroken waiting calm within end =
    let none : zero + left ≡ left = omega arith in
    ap (λ (n : ℕ). turns note one false n s) none
    ∙ ap (λ (x : MachineState). turns note one false left (with_machine s x)) (sym (behind-none s.machine (halfway 0 s.machine.processor) (half-none s.machine.processor)))
waits-pass note one (suc count) most left s unbroken waiting calm within end =
    let both : suc count + left ≡ count + suc left = omega arith in
    ap (λ (n : ℕ). turns note one false n s) both
    ∙ waits-pass note one count most (suc left) s unbroken waiting calm (omega (arith, within)) end
    ∙ half-turn note one count most left s unbroken waiting calm (omega (arith, within)) end

-- ---- what the calls come to

waiting-erased : (m : MachineState) → IsWaiting m → IsWaiting (erased m)
waiting-erased m waiting = record {
  test = waiting.test;
  untaken = record { there = waiting.untaken.there; untaken = waiting.untaken.untaken };
  back = waiting.back;
}

pub waits-told : (watch : WatchState) (keys : List (ℕ × ℕ)) (most count : ℕ) (old new : MachineState) → AreUnbroken watch old → IsWaiting old → IsCalm count old → old.time + count ≤ last_time → count ≤ most
    → new ≡ passed_by count (on_processor (halfway count) old) → Bursts watch keys most count burst_end.Transfer old new
unfolding behind passed_by
waits-told watch keys most count old new unbroken waiting calm end few is = λ note one files lines whole.
    let all : most ≡ count + (most - count) = omega (arith, few) in
    let s = seen (beside watch keys files lines) whole old in
    let q = halfway count old.processor in
    ap (λ (n : ℕ). turns note one false n s) all
    ∙ waits-pass note one count count (most - count) s (record { test = unbroken.test; back = unbroken.back }) (waiting-erased old waiting) (calm-erased count old calm) (omega arith) end
    ∙ ap (λ (x : MachineState). turns note one false (most - count) (with_machine s x)) (erased-behind count old q)
    ∙ ap (λ (x : MachineState). turns note one false (most - count) (seen (beside watch keys files lines) whole x)) (sym (is ∙ behind-is count old q))

all-done : (most done more : ℕ) → most - done - more ≡ most - (done + more)
all-done most done more = omega arith

-- a burst that no chain has ended, and another behind it
pub burst-then : (watch : WatchState) (keys : List (ℕ × ℕ)) (most done more : ℕ) (first end : BurstEnd) (old mid new : MachineState) → first ≢ burst_end.ChainLimit
    → Bursts watch keys most done first old mid → Bursts watch keys (most - done) more end mid new → Bursts watch keys most (done + more) end old new
burst-then watch keys most done more first burst_end.ChainLimit old mid new other told behind = λ note one files lines whole.
    burst-goes watch note most done first old mid one keys files lines whole other told ∙ behind note one files lines whole
burst-then watch keys most done more first burst_end.Spent old mid new other told behind = λ note one files lines whole.
    burst-goes watch note most done first old mid one keys files lines whole other told ∙ behind note one files lines whole ∙ ap (λ (n : ℕ). turns note one false n (seen (beside watch keys files lines) whole new)) (all-done most done more)
burst-then watch keys most done more first burst_end.Transfer old mid new other told behind = λ note one files lines whole.
    burst-goes watch note most done first old mid one keys files lines whole other told ∙ behind note one files lines whole ∙ ap (λ (n : ℕ). turns note one false n (seen (beside watch keys files lines) whole new)) (all-done most done more)
burst-then watch keys most done more first burst_end.AtStop old mid new other told behind = λ note one files lines whole.
    burst-goes watch note most done first old mid one keys files lines whole other told ∙ behind note one files lines whole ∙ ap (λ (n : ℕ). turns note one false n (seen (beside watch keys files lines) whole new)) (all-done most done more)
