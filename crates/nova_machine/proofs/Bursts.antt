-- Turns in which nothing but an instruction can come are steps of the processor.
use Rattle.std.proofs.Common.{◌≡◌, ℕ, zero, suc, ◌+◌, ◌-◌, ◌<◌, ◌≤◌, ◌==◌, ◌&&◌, Bool, true, false, not, nat_lt, List, Option, Some, None, refl, ap, sym, ◌∙◌, subst, arith, if◌then◌else◌}
use Rattle.std.proofs.lemmas.Bool.Decides.{nat_tests}
use Rattle.nova_word.specs.Bits.{bits}
use Rattle.nova_memory.specs.Memory.{MemoryState, get}
use Rattle.nova_memory.specs.Address.{address}
use Rattle.unit_trait.specs.Calls.{UnitState}
use Rattle.event_queue.specs.EventList.{Event, lowered, ticked as ticked_events}
use Rattle.event_queue.proofs.Ticks.{lowered-none, lowered-more}
use Rattle.nova_interrupts.specs.declared.interrupts.Ints.{Ints}
use Rattle.nova_interrupts.specs.Interrupts.{released}
use Rattle.nova_interrupts.specs.Requests.{requested}
use Rattle.nova_processor.specs.declared.burst.BurstEnd.{BurstEnd}
use Rattle.nova_processor.specs.declared.burst.BurstEnd.TheVariants as burst_end
use Rattle.nova_processor.specs.declared.burst.Step.TheVariants as step_end
use Rattle.host_lines.specs.Traffic.{Answer}
use Rattle.host_lines.specs.State.{LineState}
use Rattle.nova_machine.specs.declared.machine.Stop.TheVariants.{ChainLimit}
use Rattle.nova_processor.specs.Processor.{ProcessorState}
use Rattle.nova_machine.specs.Machine.{MachineState}
use Rattle.file_traits.specs.Lists.{NamedBytes}
use Rattle.nova_machine.specs.Notes.{UnitNote, RunNote, at_time}
use Rattle.nova_machine.specs.Seen.{Seen, seen, beside, erased, with_machine}
use Rattle.nova_machine.specs.Parts.{Part, silent, then_part}
use Rattle.nova_machine.specs.Turned.{Turned, goes_on, stops, still, begun, ticked, executed}
use Rattle.nova_processor.specs.Instruction.{memory_reference, arithmetic}
use Rattle.nova_processor.specs.InputOutput.{multiply_divide}
use Rattle.nova_machine.specs.Transfer.{transfer}
use Rattle.nova_machine.specs.Turn.{with_memory, refer_to, refer, execute, fetch, turn}
use Rattle.nova_machine.specs.Run.{last_time, next_turn, turns}
use Rattle.nova_machine.specs.Quiet.{IsPlain}
use Rattle.nova_processor.specs.Burst.{Stepped, steps, refers_to, refers, passes, step_of, step, Reaches, IsBurst}
use Rattle.expect_actions.specs.Breaks.{has_break}
use Rattle.expect_actions.specs.Watch.{WatchState}
use Rattle.nova_machine.specs.Bursts.{passed_by, IsCalm, Bursts}
use Rattle.nova_machine.proofs.Plain.{plain-prepared}
use Rattle.nova_machine.proofs.Opened.{turn-opened, turns-stop, turns-go, next-early}

-- the machine behind an instruction of the processor alone
unfoldable pub behind_step : MachineState → ProcessorState → MachineState
behind_step m p = record m { processor = p; ints = released m.ints; time = m.time + 1; events = ticked_events m.events }

-- a step and what the turn's instruction comes to
pub record Agrees (m : MachineState) (s : Stepped) (t : Turned) : Type 0 where
  pub executed_is : (p : ProcessorState) → s ≡ steps p → t ≡ goes_on (behind_step m p)
  pub endless : (p : ProcessorState) → s ≡ record { processor = p; end = step_end.ChainLimit } → t ≡ stops ChainLimit (record m { processor = p })

agrees-if : (b : Bool) (m : MachineState) (s s' : Stepped) (t t' : Turned) → Agrees m s t → Agrees m s' t' → Agrees m (if b then s else s') (if b then t else t')
agrees-if true m s s' t t' first second = first
agrees-if false m s s' t t' first second = second

agrees-executed : (m : MachineState) (q : ProcessorState) → Agrees m (steps q) (goes_on (behind_step m q))
agrees-executed m q = record {
  executed_is = λ p is. ap (λ (x : Stepped). goes_on (behind_step m x.processor)) is;
  endless = λ p is. let e = ap (λ (x : Stepped). x.end) is in absurd (cc);
}

agrees-transfer : (m : MachineState) (q : ProcessorState) (t : Turned) → Agrees m (record { processor = q; end = step_end.Transfer }) t
agrees-transfer m q t = record {
  executed_is = λ p is. let e = ap (λ (x : Stepped). x.end) is in absurd (cc);
  endless = λ p is. let e = ap (λ (x : Stepped). x.end) is in absurd (cc);
}

-- an instruction on the processor takes its time and clears HOLD
pub executed-is : (f : ProcessorState → ProcessorState) (m : MachineState) → executed f m ≡ behind_step m (f m.processor)
unfolding begun ticked behind_step
executed-is f m = refl

agrees-on : (f : ProcessorState → ProcessorState) (m : MachineState) → Agrees m (steps (f m.processor)) (goes_on (executed f m))
agrees-on f m =
    let P : MachineState → Type 0 = λ x. Agrees m (steps (f m.processor)) (goes_on x) in
    subst P (sym (executed-is f m)) (agrees-executed m (f m.processor))

behind-memory : (f : ProcessorState → ProcessorState) (m : MachineState) (memory : MemoryState) → executed f (with_memory m memory) ≡ behind_step m (f (record m.processor { memory = memory }))
unfolding begun ticked behind_step
behind-memory f m memory = refl

agrees-refer_to : (w : ℕ) (a : Option ℕ) (m : MachineState) (memory : MemoryState) → Agrees m (refers_to w a (record m.processor { memory = memory })) (refer_to w a (with_memory m memory))
agrees-refer_to w None m memory = record {
  executed_is = λ p is. let e = ap (λ (x : Stepped). x.end) is in absurd (cc);
  endless = λ p is. ap (λ (x : Stepped). stops ChainLimit (record m { processor = x.processor })) is;
}
agrees-refer_to w (Some a) m memory =
    let P : MachineState → Type 0 = λ x. Agrees m (steps (memory_reference w a (record m.processor { memory = memory }))) (goes_on x) in
    subst P (sym (behind-memory (memory_reference w a) m memory)) (agrees-executed m (memory_reference w a (record m.processor { memory = memory })))

agrees-refer : (w : ℕ) (m : MachineState) → Agrees m (refers w m.processor) (refer w m)
unfolding refers refer
agrees-refer w m =
    let reference = address m.processor.memory w m.processor.cpu.pc m.processor.cpu.accumulators in
    agrees-refer_to w reference.address m reference.memory

agrees-pass : (w : ℕ) (m : MachineState) → Agrees m (passes w m.processor) (transfer w m)
unfolding passes transfer
agrees-pass w m = agrees-if (bits 10 15 w == 1) m _ _ _ _ (agrees-on (multiply_divide w) m) (agrees-transfer m m.processor _)

agrees-step_of : (w : ℕ) (m : MachineState) → Agrees m (step_of w m.processor) (execute w m)
unfolding step_of execute
agrees-step_of w m =
    agrees-if (nat_lt w 0o60000) m _ _ _ _ (agrees-refer w m)
    (agrees-if (nat_lt w 0o100000) m _ _ _ _ (agrees-pass w m) (agrees-on (arithmetic w) m))

pub agrees-step : (m : MachineState) → Agrees m (step m.processor) (fetch m)
unfolding step fetch
agrees-step m = agrees-step_of (get m.processor.memory m.processor.cpu.pc) m

-- ---- a plain turn

-- no break is at PC
abbrev pub IsUnbroken : Seen → Type 0
IsUnbroken s = has_break s.machine.processor.cpu.pc s.watch.breaks.list ≡ false

pub plain-turn : (note : Option UnitNote) (s : Seen) → IsPlain s.machine → IsUnbroken s → turn note false s ≡ still s (fetch s.machine)
plain-turn note s plain none =
    (turn-opened note false s).executes ∙ ap (λ (p : Part). then_part p (λ ready. still ready (fetch ready.machine))) (plain-prepared note s plain none)

pub plain-next : (note : Option RunNote) (s : Seen) (p : ProcessorState) → IsPlain s.machine → IsUnbroken s → s.machine.time < last_time → step s.machine.processor ≡ steps p
    → next_turn note false s ≡ silent None (with_machine s (behind_step s.machine p))
plain-next note s p plain none early is =
    next-early note false s early ∙ plain-turn (at_time s.machine.time note) s plain none ∙ ap (λ (t : Turned). still s t) ((agrees-step s.machine).executed_is p is)

plain-chain : (note : Option RunNote) (s : Seen) (p : ProcessorState) → IsPlain s.machine → IsUnbroken s → s.machine.time < last_time
    → step s.machine.processor ≡ record { processor = p; end = step_end.ChainLimit }
    → next_turn note false s ≡ silent (Some ChainLimit) (with_machine s (record s.machine { processor = p }))
plain-chain note s p plain none early is =
    next-early note false s early ∙ plain-turn (at_time s.machine.time note) s plain none ∙ ap (λ (t : Turned). still s t) ((agrees-step s.machine).endless p is)

pub turns-silent : (note : Option RunNote) (step : Bool) (left : ℕ) (s next : Seen) → next_turn note false s ≡ silent None next
    → turns note step false (suc left) s ≡ turns note step false left next
turns-silent note step left s next is =
    turns-go note step false left s (ap (λ (p : Part). p.stop) is)
    ∙ ap (λ (p : Part). record { made = p.made; after = p.after; stop = p.stop })
    (ap (λ (p : Part). then_part p (λ t. turns note step false left t)) (ap (λ (p : Part). record { made = p.made; after = p.after; stop = None }) is))

-- ---- so many of them

-- the machine behind so many steps
unfoldable pub behind : ℕ → MachineState → ProcessorState → MachineState
behind count m q = record (passed_by count m) { processor = q }

pub behind-none : (m : MachineState) (q : ProcessorState) → q ≡ m.processor → behind 0 m q ≡ m
unfolding behind passed_by
behind-none m q is =
    let time : m.time + 0 ≡ m.time = omega arith in
    ap (λ (p : ProcessorState). record m { processor = p; time = m.time + 0; events = lowered 0 m.events }) is
    ∙ ap (λ (n : ℕ). record m { time = n; events = lowered 0 m.events }) time
    ∙ ap (λ (es : List Event). record m { events = es }) (lowered-none m.events)

pub released-if : (b : Bool) (i : Ints) → released (if b then i else released i) ≡ released i
released-if true i = refl
released-if false i = refl

pub never : (n : ℕ) → (suc n == 0) ≡ false
never n = grind (arith, nat_tests)

pub behind-more : (count : ℕ) (m : MachineState) (mid q : ProcessorState) → behind_step (behind count m mid) q ≡ behind (suc count) m q
unfolding behind behind_step passed_by
behind-more count m mid q =
    let time : m.time + count + 1 ≡ m.time + suc count = omega arith in
    let more : suc count ≡ count + 1 = omega arith in
    let events : ticked_events (lowered count m.events) ≡ lowered (suc count) m.events = sym (lowered-more count m.events) ∙ ap (λ (n : ℕ). lowered n m.events) (sym more) in
    let ints : released (if count == 0 then m.ints else released m.ints) ≡ (if suc count == 0 then m.ints else released m.ints) =
    released-if (count == 0) m.ints ∙ ap (λ (b : Bool). if b then m.ints else released m.ints) (sym (never count)) in
    ap (λ (n : ℕ). record m { processor = q; ints = released (if count == 0 then m.ints else released m.ints); time = n; events = ticked_events (lowered count m.events) }) time
    ∙ ap (λ (i : Ints). record m { processor = q; ints = i; time = m.time + suc count; events = ticked_events (lowered count m.events) }) ints
    ∙ ap (λ (es : List Event). record m { processor = q; ints = if suc count == 0 then m.ints else released m.ints; time = m.time + suc count; events = es }) events

pub on-if : (b : Bool) (i : Ints) → (if b then i else released i).on ≡ i.on
on-if true i = refl
on-if false i = refl

pub mask-if : (b : Bool) (i : Ints) → (if b then i else released i).mask ≡ i.mask
mask-if true i = refl
mask-if false i = refl

calm-and : (on hold asked : Bool) → (on && asked) ≡ false → ((on && not hold) && asked) ≡ false
calm-and true true asked h = refl
calm-and true false asked h = h
calm-and false hold asked h = refl

pub calm-ints : (i now : Ints) (units : List UnitState) → now.on ≡ i.on → now.mask ≡ i.mask → (i.on && requested i.mask units) ≡ false → ((now.on && not now.hold) && requested now.mask units) ≡ false
calm-ints i now units on mask quiet =
    calm-and now.on now.hold (requested now.mask units)
    (ap (λ (b : Bool). b && requested now.mask units) on ∙ ap (λ (n : ℕ). i.on && requested n units) mask ∙ quiet)

pub behind-plain : (count most : ℕ) (m : MachineState) (q : ProcessorState) → IsCalm most m → count < most → IsPlain (behind count m q)
unfolding behind passed_by
behind-plain count most m q calm before = record {
  none = calm.clear count before;
  uninterrupted =
      calm-ints m.ints (if count == 0 then m.ints else released m.ints) m.units (on-if (count == 0) m.ints) (mask-if (count == 0) m.ints)
      (calm.quiet (omega (arith, before)));
}

pub behind-early : (count most : ℕ) (m : MachineState) (q : ProcessorState) → count < most → m.time + most ≤ last_time → (behind count m q).time < last_time
unfolding behind passed_by
behind-early count most m q before end = omega (arith, before, end)

pub behind-processor : (count : ℕ) (m : MachineState) (q : ProcessorState) → (behind count m q).processor ≡ q
unfolding behind
behind-processor count m q = refl

-- stops that are at all breaks
abbrev pub AreAtBreaks : (ℕ → Bool) → WatchState → Type 0
AreAtBreaks stops watch = (address : ℕ) → has_break address watch.breaks.list ≡ stops address

unbroken-at : (stops : ℕ → Bool) (count : ℕ) (s : Seen) (mid : ProcessorState) → AreAtBreaks stops s.watch → stops mid.cpu.pc ≡ false
    → IsUnbroken (with_machine s (behind count s.machine mid))
unbroken-at stops count s mid at passes =
    ap (λ (p : ProcessorState). has_break p.cpu.pc s.watch.breaks.list) (behind-processor count s.machine mid) ∙ at mid.cpu.pc ∙ passes

burst-turns : (stops : ℕ → Bool) (note : Option RunNote) (one : Bool) (count most left : ℕ) (s : Seen) (q : ProcessorState) → AreAtBreaks stops s.watch → IsCalm most s.machine → count ≤ most
    → s.machine.time + most ≤ last_time → Reaches stops count s.machine.processor q
    → turns note one false (count + left) s ≡ turns note one false left (with_machine s (behind count s.machine q))
burst-turns stops note one zero most left s q at_breaks calm within end reaches =
    let none : zero + left ≡ left = omega arith in
    ap (λ (n : ℕ). turns note one false n s) none ∙ ap (λ (x : MachineState). turns note one false left (with_machine s x)) (sym (behind-none s.machine q reaches))
burst-turns stops note one (suc count) most left s q at_breaks calm within end reaches =
    let (mid, before, passes, last) = reaches in
    let both : suc count + left ≡ count + suc left = omega arith in
    let m = s.machine in
    let at = with_machine s (behind count m mid) in
    let plain = behind-plain count most m mid calm (omega (arith, within)) in
    let early = behind-early count most m mid (omega (arith, within)) end in
    let next = plain-next note at q plain (unbroken-at stops count s mid at_breaks passes) early (ap step (behind-processor count m mid) ∙ last) in
    ap (λ (n : ℕ). turns note one false n s) both
    ∙ burst-turns stops note one count most (suc left) s mid at_breaks calm (omega (arith, within)) end before
    ∙ turns-silent note one left at (with_machine s (behind_step at.machine q)) next
    ∙ ap (λ (x : MachineState). turns note one false left (with_machine s x)) (behind-more count m mid q)

-- ---- what the calls come to

pub behind-is : (count : ℕ) (m : MachineState) (q : ProcessorState) → passed_by count (record m { processor = q }) ≡ behind count m q
unfolding behind passed_by
behind-is count m q = refl

behind-with : (count : ℕ) (m : MachineState) (mid q : ProcessorState) → record (behind count m mid) { processor = q } ≡ behind count m q
unfolding behind
behind-with count m mid q = refl

pub calm-erased : (count : ℕ) (m : MachineState) → IsCalm count m → IsCalm count (erased m)
calm-erased count m calm = record { quiet = calm.quiet; clear = calm.clear }

pub erased-behind : (count : ℕ) (m : MachineState) (q : ProcessorState) → behind count (erased m) q ≡ erased (behind count m q)
unfolding behind passed_by
erased-behind count m q = refl

went : (stops : ℕ → Bool) (watch : WatchState) (note : Option RunNote) (one : Bool) (keys : List (ℕ × ℕ)) (files : List NamedBytes) (lines : LineState) (whole : List Answer) (most done budget : ℕ) (old new : MachineState) (q : ProcessorState)
    → AreAtBreaks stops watch → IsCalm budget old → old.time + budget ≤ last_time → budget ≤ most → done ≤ budget
    → Reaches stops done old.processor q → new ≡ passed_by done (record old { processor = q })
    → turns note one false most (seen (beside watch keys files lines) whole old) ≡ turns note one false (most - done) (seen (beside watch keys files lines) whole new)
unfolding behind passed_by
went stops watch note one keys files lines whole most done budget old new q at_breaks calm end few within reaches is =
    let all : most ≡ done + (most - done) = omega (arith, few, within) in
    let s = seen (beside watch keys files lines) whole old in
    ap (λ (n : ℕ). turns note one false n s) all
    ∙ burst-turns stops note one done budget (most - done) s q at_breaks (calm-erased budget old calm) within end reaches
    ∙ ap (λ (x : MachineState). turns note one false (most - done) (with_machine s x)) (erased-behind done old q)
    ∙ ap (λ (x : MachineState). turns note one false (most - done) (seen (beside watch keys files lines) whole x)) (sym (is ∙ behind-is done old q))

ended : (stops : ℕ → Bool) (watch : WatchState) (note : Option RunNote) (one : Bool) (keys : List (ℕ × ℕ)) (files : List NamedBytes) (lines : LineState) (whole : List Answer) (most done budget : ℕ) (old new : MachineState) (mid q : ProcessorState)
    → AreAtBreaks stops watch → IsCalm budget old → old.time + budget ≤ last_time → budget ≤ most → done < budget
    → Reaches stops done old.processor mid → stops mid.cpu.pc ≡ false → step mid ≡ record { processor = q; end = step_end.ChainLimit } → new ≡ passed_by done (record old { processor = q })
    → turns note one false most (seen (beside watch keys files lines) whole old) ≡ silent (Some ChainLimit) (seen (beside watch keys files lines) whole new)
unfolding behind passed_by
ended stops watch note one keys files lines whole most done budget old new mid q at_breaks calm end few within reaches passes chain is =
    let left = most - done - 1 in
    let all : most ≡ done + suc left = omega (arith, few, within) in
    let s = seen (beside watch keys files lines) whole old in
    let m = s.machine in
    let quiet = calm-erased budget old calm in
    let at = with_machine s (behind done m mid) in
    let plain = behind-plain done budget m mid quiet within in
    let early = behind-early done budget m mid within end in
    let next = plain-chain note at q plain (unbroken-at stops done s mid at_breaks passes) early (ap step (behind-processor done m mid) ∙ chain) in
    ap (λ (n : ℕ). turns note one false n s) all
    ∙ burst-turns stops note one done budget (suc left) s mid at_breaks quiet (omega (arith, within)) end reaches
    ∙ turns-stop note one false left at ChainLimit (ap (λ (p : Part). p.stop) next)
    ∙ next
    ∙ ap (λ (x : MachineState). silent (Some ChainLimit) (with_machine s x)) (behind-with done m mid q ∙ erased-behind done old q)
    ∙ ap (λ (x : MachineState). silent (Some ChainLimit) (seen (beside watch keys files lines) whole x)) (sym (is ∙ behind-is done old q))

pub burst-told : (stops : ℕ → Bool) (watch : WatchState) (keys : List (ℕ × ℕ)) (most done budget : ℕ) (end : BurstEnd) (old new : MachineState) (q : ProcessorState) → AreAtBreaks stops watch → IsCalm budget old
    → old.time + budget ≤ last_time → budget ≤ most → IsBurst stops old.processor budget done end q → new ≡ passed_by done (record old { processor = q }) → Bursts watch keys most done end old new
burst-told stops watch keys most done budget burst_end.Spent old new q at_breaks calm last few burst is =
    λ note one files lines whole. let all = burst.0 in went stops watch note one keys files lines whole most done budget old new q at_breaks calm last few (omega (arith, all)) burst.1 is
burst-told stops watch keys most done budget burst_end.Transfer old new q at_breaks calm last few burst is =
    λ note one files lines whole. let some = burst.0 in went stops watch note one keys files lines whole most done budget old new q at_breaks calm last few (omega (arith, some)) burst.1 is
burst-told stops watch keys most done budget burst_end.AtStop old new q at_breaks calm last few burst is =
    λ note one files lines whole. let some = burst.0 in went stops watch note one keys files lines whole most done budget old new q at_breaks calm last few (omega (arith, some)) burst.1 is
burst-told stops watch keys most done budget burst_end.ChainLimit old new q at_breaks calm last few burst is =
    λ note one files lines whole. let (mid, within, reaches, passes, chain) = burst in
    ended stops watch note one keys files lines whole most done budget old new mid q at_breaks calm last few within reaches passes chain is

-- a calm that is longer
pub calm-less : (less more : ℕ) (m : MachineState) → less ≤ more → IsCalm more m → IsCalm less m
calm-less less more m within calm = record {
  quiet = λ some. calm.quiet (omega (arith, some, within));
  clear = λ n before. calm.clear n (omega (arith, before, within));
}

-- passing time leaves what is attached, and time does not go back
pub passed-slots : (count : ℕ) (m : MachineState) → (passed_by count m).slots ≡ m.slots
unfolding passed_by
passed-slots count m = refl

pub passed-lines : (count : ℕ) (m : MachineState) → (passed_by count m).lines ≡ m.lines
unfolding passed_by
passed-lines count m = refl

pub passed-units : (count : ℕ) (m : MachineState) → (passed_by count m).units ≡ m.units
unfolding passed_by
passed-units count m = refl

pub passed-time : (count : ℕ) (m : MachineState) → (passed_by count m).time ≡ m.time + count
unfolding passed_by
passed-time count m = refl
