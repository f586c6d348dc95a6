-- Turns of instructions alone, and of looks of the keyboards for which no key comes.
use Rattle.std.specs.List.{AllByRecursion}
use Rattle.std.proofs.Common.{map, ◌≡◌, ℕ, zero, suc, ◌+◌, ◌-◌, ◌<◌, ◌≤◌, ◌==◌, ◌&&◌, Bool, true, false, List, [], ◌∷◌, Option, Some, None, slice_get, option_map, refl, ap, sym, ◌∙◌, arith, if◌then◌else◌}
use Rattle.std.proofs.lemmas.Bool.Decides.{nat_tests}
use Rattle.file_traits.specs.Lists.{NamedBytes}
use Rattle.unit_trait.specs.declared.kind.UnitName.{UnitName}
use Rattle.unit_trait.specs.declared.kind.Kind.{Kind}
use Rattle.unit_trait.specs.declared.kind.Kind.TheVariants.{Tti, Tti1}
use Rattle.unit_trait.specs.Calls.{UnitState}
use Rattle.telnet_lines.specs.Line.{LineOf, unconnected}
use Rattle.telnet_lines.specs.Joined.{seen_line}
use Rattle.event_queue.specs.EventList.{Event, dues, ticked as ticked_events}
use Rattle.event_queue.specs.Idle.{asked_again, looked, idled, AreLooks, AreOthersLater, AreTwins, AreLaterThanTwo}
use Rattle.event_queue.proofs.Looks.{looks-behind, looks-fewer, looks-weaker, one-looks, two-look, others-fewer, two-fewer}
use Rattle.nova_interrupts.specs.declared.interrupts.Ints.{Ints}
use Rattle.nova_interrupts.specs.Interrupts.{released}
use Rattle.nova_interrupts.specs.Requests.{requested}
use Rattle.nova_processor.specs.declared.burst.BurstEnd.{BurstEnd}
use Rattle.nova_processor.specs.declared.burst.BurstEnd.TheVariants as burst_end
use Rattle.nova_processor.specs.declared.burst.Step.TheVariants as step_end
use Rattle.nova_processor.specs.Processor.{ProcessorState}
use Rattle.nova_processor.specs.Burst.{steps, step, Reaches, IsBurst}
use Rattle.expect_actions.specs.Breaks.{has_break}
use Rattle.expect_actions.specs.Watch.{WatchState}
use Rattle.expect_actions.specs.Sends.{Send, due_send}
use Rattle.expect_actions.specs.KeysFile.{due_key}
use Rattle.host_lines.specs.Traffic.{Answer, Peer}
use Rattle.host_lines.specs.State.{LineState}
use Rattle.nova_machine.specs.declared.machine.Stop.TheVariants.{ChainLimit}
use Rattle.nova_machine.specs.Machine.{MachineState, console_place, place_of}
use Rattle.nova_machine.specs.Notes.{UnitNote, RunNote, at_time, at_unit}
use Rattle.nova_machine.specs.Seen.{Seen, seen, beside, erased, with_machine}
use Rattle.nova_machine.specs.Parts.{Part, silent, then_part}
use Rattle.nova_machine.specs.Turned.{Turned, still}
use Rattle.nova_machine.specs.Wants.{first_key}
use Rattle.nova_machine.specs.Service.{services, taken, key_at}
use Rattle.nova_machine.specs.Turn.{fetch, is_interrupted, interrupt, breaks_tested_unless, attended, turn}
use Rattle.nova_machine.specs.Run.{last_time, next_turn, turns}
use Rattle.nova_machine.specs.Bursts.{Bursts}
use Rattle.nova_machine.specs.Looks.{IsUnheard, LooksEach, LooksAt, AreNext, IsKeyless, IsLooking, IsIdle, idled_by, looked_at, idle_end}
use Rattle.nova_machine.proofs.Opened.{turn-opened, serving-is, services-none, services-some, next-early, turns-stop}
use Rattle.nova_machine.proofs.Plain.{interrupt-none, breaks-none}
use Rattle.nova_machine.proofs.Looks.{asked_for, each-look}
use Rattle.nova_machine.proofs.Bursts.{behind_step, agrees-step, IsUnbroken, turns-silent, AreAtBreaks, released-if, never, on-if, mask-if, calm-ints}

-- what holds where looks may come: no interrupt comes, and each event that is due is a look each so many instructions
pub record Looks (period : ℕ) (s : Seen) : Type 0 where
  pub uninterrupted : is_interrupted s.machine ≡ false
  pub each : AllByRecursion (LooksEach Peer period s.machine.units s.lines) (dues s.machine.events)

-- such looks, one behind another
look-services : (note : Option UnitNote) (period : ℕ) (us : List UnitName) (s : Seen) → AllByRecursion (LooksEach Peer period s.machine.units s.lines) us → key_at s ≡ None
    → services note us s ≡ silent None (with_machine s (record s.machine { events = asked_again period us s.machine.events }))
look-services note period [] s each none = services-none note s
look-services note period (u ∷ us) s each none =
    let at = with_machine (taken s) (asked_for u period (taken s).machine) in
    services-some note u us s
    ∙ ap (λ (p : Part). then_part p (λ next. services note us next)) (each-look (at_unit u note) period (taken s) u each.0 none)
    ∙ ap (λ (p : Part). record { made = p.made; after = p.after; stop = p.stop }) (look-services note period us at each.1 none)

look-attended : (note : Option UnitNote) (period : ℕ) (s : Seen) → Looks period s → key_at s ≡ None
    → attended note s ≡ silent None (with_machine s (looked_at period s.machine))
unfolding looked_at
look-attended note period s looks none =
    (turn-opened note false s).attends
    ∙ ap (λ (p : Part). then_part p (λ served. still served (interrupt served.machine))) (serving-is note s ∙ look-services note period (dues s.machine.events) s looks.each none)
    ∙ ap (λ (t : Turned). silent t.stop (with_machine s t.machine)) (interrupt-none (looked_at period s.machine) looks.uninterrupted)

pub look-turn : (note : Option UnitNote) (period : ℕ) (s : Seen) → Looks period s → key_at s ≡ None → IsUnbroken s
    → turn note false s ≡ still s (fetch (looked_at period s.machine))
unfolding looked_at
look-turn note period s looks none unbroken =
    let at = with_machine s (looked_at period s.machine) in
    (turn-opened note false s).executes
    ∙ ap (λ (p : Part). then_part p (λ ready. still ready (fetch ready.machine)))
    ((turn-opened note false s).prepares
    ∙ ap (λ (p : Part). then_part p (λ x. breaks_tested_unless false x)) (look-attended note period s looks none)
    ∙ breaks-none at unbroken)

pub look-next : (note : Option RunNote) (period : ℕ) (s : Seen) (q : ProcessorState) → Looks period s → key_at s ≡ None → IsUnbroken s
    → s.machine.time < last_time → step s.machine.processor ≡ steps q
    → next_turn note false s ≡ silent None (with_machine s (behind_step (looked_at period s.machine) q))
unfolding looked_at
look-next note period s q looks none unbroken early is =
    next-early note false s early ∙ look-turn (at_time s.machine.time note) period s looks none unbroken
    ∙ ap (λ (t : Turned). still s t) ((agrees-step (looked_at period s.machine)).executed_is q is)

look-chain : (note : Option RunNote) (period : ℕ) (s : Seen) (q : ProcessorState) → Looks period s → key_at s ≡ None → IsUnbroken s
    → s.machine.time < last_time → step s.machine.processor ≡ record { processor = q; end = step_end.ChainLimit }
    → next_turn note false s ≡ silent (Some ChainLimit) (with_machine s (record (looked_at period s.machine) { processor = q }))
unfolding looked_at
look-chain note period s q looks none unbroken early is =
    next-early note false s early ∙ look-turn (at_time s.machine.time note) period s looks none unbroken
    ∙ ap (λ (t : Turned). still s t) ((agrees-step (looked_at period s.machine)).endless q is)

-- ---- so many of them

-- the machine behind so many steps, and the looks before them
unfoldable pub idle_behind : ℕ → ℕ → MachineState → ProcessorState → MachineState
idle_behind period count m q = record (idled_by period count m) { processor = q }

pub idle-none : (period : ℕ) (m : MachineState) (q : ProcessorState) → q ≡ m.processor → idle_behind period 0 m q ≡ m
unfolding idle_behind idled_by idled
idle-none period m q is =
    let time : m.time + 0 ≡ m.time = omega arith in
    ap (λ (p : ProcessorState). record m { processor = p; time = m.time + 0 }) is ∙ ap (λ (n : ℕ). record m { time = n }) time

pub idle-more : (period count : ℕ) (m : MachineState) (mid q : ProcessorState) → behind_step (looked_at period (idle_behind period count m mid)) q ≡ idle_behind period (suc count) m q
unfolding looked_at idle_behind idled_by idled behind_step
idle-more period count m mid q =
    let time : m.time + count + 1 ≡ m.time + suc count = omega arith in
    let events = ticked_events (looked period (idled period count m.events)) in
    let ints : released (if count == 0 then m.ints else released m.ints) ≡ (if suc count == 0 then m.ints else released m.ints) =
    released-if (count == 0) m.ints ∙ ap (λ (b : Bool). if b then m.ints else released m.ints) (sym (never count)) in
    ap (λ (n : ℕ). record m { processor = q; ints = released (if count == 0 then m.ints else released m.ints); time = n; events = events }) time
    ∙ ap (λ (i : Ints). record m { processor = q; ints = i; time = m.time + suc count; events = events }) ints

-- within so many instructions nothing comes but such looks, for which no key comes
pub record Idles (most period : ℕ) (s : Seen) : Type 0 where
  pub quiet : (s.machine.ints.on && requested s.machine.ints.mask s.machine.units) ≡ false
  pub looks : AreLooks (LooksEach Peer period s.machine.units s.lines) most s.machine.events
  pub keyless : (n : ℕ) → n < most → (due_send (s.machine.time + n) s.watch.sends ≡ None) × (due_key s.keys s.machine.taken (s.machine.time + n) ≡ None)

pub idle-looks : (period count most : ℕ) (s : Seen) (q : ProcessorState) → Idles most period s → count < most
    → Looks period (with_machine s (idle_behind period count s.machine q))
unfolding idle_behind idled_by
idle-looks period count most s q idle before =
    let m = s.machine in
    record {
      uninterrupted =
          calm-ints m.ints (if count == 0 then m.ints else released m.ints) m.units (on-if (count == 0) m.ints) (mask-if (count == 0) m.ints) idle.quiet;
      each = looks-behind (LooksEach Peer period m.units s.lines) period count most m.events before idle.looks;
    }

pub no-key : (sent typed : Option ℕ) → sent ≡ None → typed ≡ None → first_key sent typed ≡ None
no-key None None none nothing = refl
no-key (Some b) typed none nothing = absurd (cc)
no-key None (Some b) none nothing = absurd (cc)

pub idle-keyless : (period count most : ℕ) (s : Seen) (q : ProcessorState) → Idles most period s → count < most
    → key_at (with_machine s (idle_behind period count s.machine q)) ≡ None
unfolding idle_behind idled_by
idle-keyless period count most s q idle before =
    let none = idle.keyless count before in
    no-key _ _ none.0 none.1

pub idle-early : (period count most : ℕ) (m : MachineState) (q : ProcessorState) → count < most → m.time + most ≤ last_time → (idle_behind period count m q).time < last_time
unfolding idle_behind idled_by
idle-early period count most m q before end = omega (arith, before, end)

pub idle-processor : (period count : ℕ) (m : MachineState) (q : ProcessorState) → (idle_behind period count m q).processor ≡ q
unfolding idle_behind
idle-processor period count m q = refl

idle-unbroken : (period : ℕ) (stops : ℕ → Bool) (count : ℕ) (s : Seen) (mid : ProcessorState) → AreAtBreaks stops s.watch → stops mid.cpu.pc ≡ false
    → IsUnbroken (with_machine s (idle_behind period count s.machine mid))
idle-unbroken period stops count s mid at passes =
    ap (λ (p : ProcessorState). has_break p.cpu.pc s.watch.breaks.list) (idle-processor period count s.machine mid) ∙ at mid.cpu.pc ∙ passes

idle-turns : (period : ℕ) (stops : ℕ → Bool) (note : Option RunNote) (one : Bool) (count most left : ℕ) (s : Seen) (q : ProcessorState) → AreAtBreaks stops s.watch
    → Idles most period s → count ≤ most → s.machine.time + most ≤ last_time → Reaches stops count s.machine.processor q
    → turns note one false (count + left) s ≡ turns note one false left (with_machine s (idle_behind period count s.machine q))
idle-turns period stops note one zero most left s q at_breaks idle within end reaches =
    let none : zero + left ≡ left = omega arith in
    ap (λ (n : ℕ). turns note one false n s) none ∙ ap (λ (x : MachineState). turns note one false left (with_machine s x)) (sym (idle-none period s.machine q reaches))
idle-turns period stops note one (suc count) most left s q at_breaks idle within end reaches =
    let (mid, before, passes, last) = reaches in
    let both : suc count + left ≡ count + suc left = omega arith in
    let m = s.machine in
    let less : count < most = omega (arith, within) in
    let at = with_machine s (idle_behind period count m mid) in
    let next = look-next note period at q (idle-looks period count most s mid idle less) (idle-keyless period count most s mid idle less)
    (idle-unbroken period stops count s mid at_breaks passes) (idle-early period count most m mid less end) (ap step (idle-processor period count m mid) ∙ last) in
    ap (λ (n : ℕ). turns note one false n s) both
    ∙ idle-turns period stops note one count most (suc left) s mid at_breaks idle (omega (arith, within)) end before
    ∙ turns-silent note one left at (with_machine s (behind_step (looked_at period at.machine) q)) next
    ∙ ap (λ (x : MachineState). turns note one false left (with_machine s x)) (idle-more period count m mid q)

-- ---- what the calls come to

pub idle-is : (period count : ℕ) (m : MachineState) (q : ProcessorState) → idled_by period count (record m { processor = q }) ≡ idle_behind period count m q
unfolding idle_behind idled_by
idle-is period count m q = refl

-- the lines are seen with who is behind them: one without a port is the same
closed-seen : (b : LineState) (lines : List (LineOf ℕ)) → slice_get lines (place_of 0) ≡ Some (unconnected None) → slice_get (map (seen_line b) lines) (place_of 0) ≡ Some (unconnected None)
closed-seen b [] is = absurd (cc)
closed-seen b (first ∷ []) is = absurd (cc)
closed-seen b (first ∷ line ∷ lines) is =
    let same : line ≡ unconnected None = grind arith in ap (λ (l : LineOf ℕ). Some (seen_line b l)) same

pub console-closed : (b : LineState) (lines : List (LineOf ℕ)) → slice_get lines console_place ≡ Some (unconnected None) → slice_get (map (seen_line b) lines) console_place ≡ Some (unconnected None)
console-closed b [] is = absurd (cc)
console-closed b (line ∷ lines) is =
    let same : line ≡ unconnected None = grind arith in ap (λ (l : LineOf ℕ). Some (seen_line b l)) same

unheard-seen : (b : LineState) (lines : List (LineOf ℕ)) (k : Kind) → IsUnheard k lines → IsUnheard k (map (seen_line b) lines)
unheard-seen b lines Tti is = console-closed b lines is
unheard-seen b lines Tti1 is = closed-seen b lines is
unheard-seen b lines k is = absurd is

each-seen : (b : LineState) (period : ℕ) (units : List UnitState) (lines : List (LineOf ℕ)) (u : UnitName) → LooksEach ℕ period units lines u → LooksEach Peer period units (map (seen_line b) lines) u
each-seen b period units lines u looks = record { unheard = unheard-seen b lines u.kind looks.unheard; number = looks.number; wish = looks.wish }

pub idle-erased : (most period : ℕ) (watch : WatchState) (keys : List (ℕ × ℕ)) (files : List NamedBytes) (lines : LineState) (whole : List Answer) (m : MachineState) → IsIdle most period m watch.sends keys
    → Idles most period (seen (beside watch keys files lines) whole m)
idle-erased most period watch keys files lines whole m idle = record {
  quiet = idle.looking.quiet;
  looks = looks-weaker (LooksEach ℕ period m.units m.lines) (LooksEach Peer period m.units (map (seen_line lines) m.lines)) most m.events (each-seen lines period m.units m.lines) idle.looking.looks;
  keyless = idle.keyless;
}

pub erased-idle : (period count : ℕ) (m : MachineState) (q : ProcessorState) → idle_behind period count (erased m) q ≡ erased (idle_behind period count m q)
unfolding idle_behind idled_by
erased-idle period count m q = refl

went : (period : ℕ) (stops : ℕ → Bool) (watch : WatchState) (note : Option RunNote) (one : Bool) (keys : List (ℕ × ℕ)) (files : List NamedBytes) (lines : LineState) (whole : List Answer) (most done budget : ℕ) (old new : MachineState) (q : ProcessorState)
    → AreAtBreaks stops watch → IsIdle budget period old watch.sends keys → old.time + budget ≤ last_time → budget ≤ most → done ≤ budget
    → Reaches stops done old.processor q → new ≡ idled_by period done (record old { processor = q })
    → turns note one false most (seen (beside watch keys files lines) whole old) ≡ turns note one false (most - done) (seen (beside watch keys files lines) whole new)
unfolding idle_behind idled_by
went period stops watch note one keys files lines whole most done budget old new q at_breaks idle end few within reaches is =
    let all : most ≡ done + (most - done) = omega (arith, few, within) in
    let s = seen (beside watch keys files lines) whole old in
    ap (λ (n : ℕ). turns note one false n s) all
    ∙ idle-turns period stops note one done budget (most - done) s q at_breaks (idle-erased budget period watch keys files lines whole old idle) within end reaches
    ∙ ap (λ (x : MachineState). turns note one false (most - done) (with_machine s x)) (erased-idle period done old q)
    ∙ ap (λ (x : MachineState). turns note one false (most - done) (seen (beside watch keys files lines) whole x)) (sym (is ∙ idle-is period done old q))

looked-with : (period count : ℕ) (m : MachineState) (mid q : ProcessorState) → record (looked_at period (idle_behind period count m mid)) { processor = q } ≡ looked_at period (idle_behind period count m q)
unfolding looked_at idle_behind
looked-with period count m mid q = refl

looked-erased : (period count : ℕ) (m : MachineState) (q : ProcessorState) → looked_at period (idle_behind period count (erased m) q) ≡ erased (looked_at period (idle_behind period count m q))
unfolding looked_at idle_behind idled_by
looked-erased period count m q = refl

looked-is : (period : ℕ) (x y : MachineState) → x ≡ y → looked_at period x ≡ looked_at period y
looked-is period x y is = ap (looked_at period) is

ended : (period : ℕ) (stops : ℕ → Bool) (watch : WatchState) (note : Option RunNote) (one : Bool) (keys : List (ℕ × ℕ)) (files : List NamedBytes) (lines : LineState) (whole : List Answer) (most done budget : ℕ) (old new : MachineState) (mid q : ProcessorState)
    → AreAtBreaks stops watch → IsIdle budget period old watch.sends keys → old.time + budget ≤ last_time → budget ≤ most → done < budget
    → Reaches stops done old.processor mid → stops mid.cpu.pc ≡ false → step mid ≡ record { processor = q; end = step_end.ChainLimit }
    → new ≡ looked_at period (idled_by period done (record old { processor = q }))
    → turns note one false most (seen (beside watch keys files lines) whole old) ≡ silent (Some ChainLimit) (seen (beside watch keys files lines) whole new)
unfolding looked_at idle_behind idled_by
ended period stops watch note one keys files lines whole most done budget old new mid q at_breaks idle end few within reaches passes chain is =
    let left = most - done - 1 in
    let all : most ≡ done + suc left = omega (arith, few, within) in
    let s = seen (beside watch keys files lines) whole old in
    let m = s.machine in
    let quiet = idle-erased budget period watch keys files lines whole old idle in
    let at = with_machine s (idle_behind period done m mid) in
    let next = look-chain note period at q (idle-looks period done budget s mid quiet within) (idle-keyless period done budget s mid quiet within)
    (idle-unbroken period stops done s mid at_breaks passes) (idle-early period done budget m mid within end) (ap step (idle-processor period done m mid) ∙ chain) in
    ap (λ (n : ℕ). turns note one false n s) all
    ∙ idle-turns period stops note one done budget (suc left) s mid at_breaks quiet (omega (arith, within)) end reaches
    ∙ turns-stop note one false left at ChainLimit (ap (λ (p : Part). p.stop) next)
    ∙ next
    ∙ ap (λ (x : MachineState). silent (Some ChainLimit) (with_machine s x)) (looked-with period done m mid q ∙ looked-erased period done old q)
    ∙ ap (λ (x : MachineState). silent (Some ChainLimit) (seen (beside watch keys files lines) whole x)) (sym (is ∙ looked-is period _ _ (idle-is period done old q)))

pub idle-told : (period : ℕ) (stops : ℕ → Bool) (watch : WatchState) (keys : List (ℕ × ℕ)) (most done budget : ℕ) (end : BurstEnd) (old new : MachineState) (q : ProcessorState) → AreAtBreaks stops watch
    → IsIdle budget period old watch.sends keys → old.time + budget ≤ last_time → budget ≤ most → IsBurst stops old.processor budget done end q
    → new ≡ idle_end end period (idled_by period done (record old { processor = q })) → Bursts watch keys most done end old new
idle-told period stops watch keys most done budget burst_end.Spent old new q at_breaks idle last few burst is =
    λ note one files lines whole. let all = burst.0 in went period stops watch note one keys files lines whole most done budget old new q at_breaks idle last few (omega (arith, all)) burst.1 is
idle-told period stops watch keys most done budget burst_end.Transfer old new q at_breaks idle last few burst is =
    λ note one files lines whole. let some = burst.0 in went period stops watch note one keys files lines whole most done budget old new q at_breaks idle last few (omega (arith, some)) burst.1 is
idle-told period stops watch keys most done budget burst_end.AtStop old new q at_breaks idle last few burst is =
    λ note one files lines whole. let some = burst.0 in went period stops watch note one keys files lines whole most done budget old new q at_breaks idle last few (omega (arith, some)) burst.1 is
idle-told period stops watch keys most done budget burst_end.ChainLimit old new q at_breaks idle last few burst is =
    λ note one files lines whole. let (mid, within, reaches, passes, chain) = burst in
    ended period stops watch note one keys files lines whole most done budget old new mid q at_breaks idle last few within reaches passes chain is

pub idled-slots : (period count : ℕ) (m : MachineState) → (idled_by period count m).slots ≡ m.slots
unfolding idled_by
idled-slots period count m = refl

pub idled-lines : (period count : ℕ) (m : MachineState) → (idled_by period count m).lines ≡ m.lines
unfolding idled_by
idled-lines period count m = refl

pub idled-units : (period count : ℕ) (m : MachineState) → (idled_by period count m).units ≡ m.units
unfolding idled_by
idled-units period count m = refl

pub idled-time : (period count : ℕ) (m : MachineState) → (idled_by period count m).time ≡ m.time + count
unfolding idled_by
idled-time period count m = refl

pub looked-slots : (period : ℕ) (m : MachineState) → (looked_at period m).slots ≡ m.slots
unfolding looked_at
looked-slots period m = refl

pub looked-lines : (period : ℕ) (m : MachineState) → (looked_at period m).lines ≡ m.lines
unfolding looked_at
looked-lines period m = refl

pub looked-units : (period : ℕ) (m : MachineState) → (looked_at period m).units ≡ m.units
unfolding looked_at
looked-units period m = refl

pub looked-time : (period : ℕ) (m : MachineState) → (looked_at period m).time ≡ m.time
unfolding looked_at
looked-time period m = refl

-- fewer of them
pub idle-less : (less others period : ℕ) (m : MachineState) (sends : List Send) (keys : List (ℕ × ℕ)) → less ≤ others → IsLooking others period m
    → (until : ℕ) → IsKeyless until m.taken sends keys → less ≤ until - m.time → IsIdle less period m sends keys
idle-less less others period m sends keys within looking until keyless early = record {
  looking = record {
    quiet = looking.quiet;
    some = looking.some;
    looks = looks-fewer (LooksEach ℕ period m.units m.lines) less others m.events within looking.looks;
  };
  keyless = λ n before. keyless (m.time + n) (omega (arith, before, early));
}

pub next-one : (less others : ℕ) (es : List Event) → less ≤ others → AreNext false others es → AreOthersLater less es
next-one less others es within next = others-fewer less others es within next

pub next-two : (less others : ℕ) (es : List Event) → less ≤ others → AreNext true others es → AreTwins es × AreLaterThanTwo less es
next-two less others es within next = (next.0, two-fewer less others es within next.1)

pub ruleset nexts = (next-one, next-two)

-- the first event is a look, and no other one is due so soon; or the first two are
all-of-one : (period others : ℕ) (m : MachineState) → LooksAt period m (option_map (λ e. e.unit) (slice_get m.events 0)) → AreOthersLater others m.events
    → AreLooks (LooksEach ℕ period m.units m.lines) others m.events
all-of-one period others m first later = by (option_map (λ e. e.unit) (slice_get m.events 0)) refl first
  where
    by : (o : Option UnitName) → option_map (λ e. e.unit) (slice_get m.events 0) ≡ o → LooksAt period m o → AreLooks (LooksEach ℕ period m.units m.lines) others m.events
    by None is looks = absurd looks
    by (Some u) is looks = one-looks (LooksEach ℕ period m.units m.lines) others u m.events is looks later

all-of-two : (period others : ℕ) (m : MachineState) → LooksAt period m (option_map (λ e. e.unit) (slice_get m.events 0)) → LooksAt period m (option_map (λ e. e.unit) (slice_get m.events 1))
    → AreLaterThanTwo others m.events → AreLooks (LooksEach ℕ period m.units m.lines) others m.events
all-of-two period others m first second later = by (option_map (λ e. e.unit) (slice_get m.events 0)) (option_map (λ e. e.unit) (slice_get m.events 1)) refl refl first second
  where
    by : (o x : Option UnitName) → option_map (λ e. e.unit) (slice_get m.events 0) ≡ o → option_map (λ e. e.unit) (slice_get m.events 1) ≡ x → LooksAt period m o → LooksAt period m x
        → AreLooks (LooksEach ℕ period m.units m.lines) others m.events
    by None x is next looks other = absurd looks
    by (Some u) None is next looks other = absurd other
    by (Some u) (Some v) is next looks other = two-look (LooksEach ℕ period m.units m.lines) others u v m.events is next looks other later

pub looking-one : (period others : ℕ) (m : MachineState) → (m.ints.on && requested m.ints.mask m.units) ≡ false → 1 ≤ period
    → LooksAt period m (option_map (λ e. e.unit) (slice_get m.events 0)) → AreOthersLater others m.events → IsLooking others period m
looking-one period others m quiet some first later = record { quiet = quiet; some = some; looks = all-of-one period others m first later }

pub looking-two : (period others : ℕ) (m : MachineState) → (m.ints.on && requested m.ints.mask m.units) ≡ false → 1 ≤ period
    → LooksAt period m (option_map (λ e. e.unit) (slice_get m.events 0)) → LooksAt period m (option_map (λ e. e.unit) (slice_get m.events 1))
    → AreLaterThanTwo others m.events → IsLooking others period m
looking-two period others m quiet some first second later = record { quiet = quiet; some = some; looks = all-of-two period others m first second later }

-- ---- until a key comes

pub sends-later : (until : ℕ) (send : Send) (sends : List Send) → slice_get sends 0 ≡ Some send → until ≤ send.0 → (time : ℕ) → time < until → due_send time sends ≡ None
sends-later until send [] is low time before = absurd (cc)
sends-later until send (s ∷ sends) is low time before =
    let same : s ≡ send = grind arith in
    let first : s.0 ≡ send.0 = ap (λ (x : Send). x.0) same in
    grind (arith, nat_tests)

pub sends-never : (sends : List Send) → slice_get sends 0 ≡ None → (time : ℕ) → due_send time sends ≡ None
sends-never [] is time = refl
sends-never (s ∷ sends) is time = absurd (cc)

pub end-slots : (end : BurstEnd) (period : ℕ) (m : MachineState) → (idle_end end period m).slots ≡ m.slots
end-slots burst_end.ChainLimit period m = looked-slots period m
end-slots burst_end.Spent period m = refl
end-slots burst_end.Transfer period m = refl
end-slots burst_end.AtStop period m = refl

pub end-lines : (end : BurstEnd) (period : ℕ) (m : MachineState) → (idle_end end period m).lines ≡ m.lines
end-lines burst_end.ChainLimit period m = looked-lines period m
end-lines burst_end.Spent period m = refl
end-lines burst_end.Transfer period m = refl
end-lines burst_end.AtStop period m = refl

pub end-units : (end : BurstEnd) (period : ℕ) (m : MachineState) → (idle_end end period m).units ≡ m.units
end-units burst_end.ChainLimit period m = looked-units period m
end-units burst_end.Spent period m = refl
end-units burst_end.Transfer period m = refl
end-units burst_end.AtStop period m = refl

pub end-time : (end : BurstEnd) (period : ℕ) (m : MachineState) → (idle_end end period m).time ≡ m.time
end-time burst_end.ChainLimit period m = looked-time period m
end-time burst_end.Spent period m = refl
end-time burst_end.Transfer period m = refl
end-time burst_end.AtStop period m = refl

pub idled-taken : (end : BurstEnd) (period count : ℕ) (m : MachineState) → (idle_end end period (idled_by period count m)).taken ≡ m.taken
unfolding idled_by looked_at
idled-taken burst_end.ChainLimit period count m = refl
idled-taken burst_end.Spent period count m = refl
idled-taken burst_end.Transfer period count m = refl
idled-taken burst_end.AtStop period count m = refl

pub passed-keys : (period count : ℕ) (m : MachineState) → (idled_by period count m).taken ≡ m.taken
unfolding idled_by
passed-keys period count m = refl

pub ruleset idles = idle-less
