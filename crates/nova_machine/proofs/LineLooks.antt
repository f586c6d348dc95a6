-- Looks of both keyboards at one time, with a poll of a line, ahead of the turn that they belong to.
use Rattle.std.proofs.Common.{◌≡◌, ◌≢◌, ◌∙◌, refl, ap, sym, subst, arith, ℕ, zero, suc, ◌+◌, ◌-◌, ◌<◌, Bool, false, List, [], ◌∷◌, ◌++◌, append_assoc, append-nil, Option, Some, None, option_map, slice_get, IfSome, is_some, ◌==◌, true, if◌then◌else◌}
use Rattle.std.proofs.lemmas.Option.{same_Some}
use Rattle.std.proofs.lemmas.Bool.Decides.{nat_tests}
use Rattle.observations.specs.Observations.{Observation}
use Rattle.file_traits.specs.Lists.{NamedBytes}
use Rattle.host_lines.specs.Traffic.{Peer, Answer}
use Rattle.host_lines.specs.Told.{IsFirst, record_in}
use Rattle.host_lines.specs.State.{LineState}
use Rattle.telnet_lines.specs.Line.{LineOf}
use Rattle.unit_trait.specs.declared.kind.UnitName.{UnitName}
use Rattle.unit_trait.specs.declared.kind.Kind.TheVariants.{Tti1}
use Rattle.unit_trait.specs.declared.calls.Queue.{Queue}
use Rattle.unit_trait.specs.declared.calls.Got.{Got}
use Rattle.unit_trait.specs.declared.calls.Got.TheVariants.{NoKey, Key}
use Rattle.unit_trait.specs.declared.calls.Want.TheVariants as want
use Rattle.unit_trait.specs.Kinds.{code_of}
use Rattle.event_queue.specs.EventList.{Event, due, dues, served, activated, wished}
use Rattle.unit_list.specs.Bus.{unit_at, kinds_of}
use Rattle.unit_list.proofs.Calls.{after-kinds}
use Rattle.unit_trait.specs.Calls.{UnitState, Answered}
use Rattle.event_queue.specs.Idle.{asked_again}
use Rattle.event_queue.proofs.Dues.{dues-some, dues-activated}
use Rattle.expect_actions.specs.Watch.{WatchState}
use Rattle.nova_processor.specs.declared.burst.BurstEnd.{BurstEnd}
use Rattle.nova_processor.specs.declared.burst.BurstEnd.TheVariants as burst_end
use Rattle.nova_machine.specs.declared.machine.Stop.{Stop}
use Rattle.nova_machine.specs.declared.machine.Stop.TheVariants.{ChainLimit}
use Rattle.nova_machine.specs.Machine.{MachineState}
use Rattle.nova_machine.specs.Notes.{UnitNote, RunNote, at_time, at_unit}
use Rattle.nova_machine.specs.Seen.{Seen, seen, beside, with_machine}
use Rattle.nova_machine.specs.Parts.{Part, silent, behind_made, followed, then_part}
use Rattle.nova_machine.specs.Turned.{Turned, goes_on, still}
use Rattle.expect_actions.specs.Expects.{ExpectTable}
use Rattle.nova_machine.specs.declared.on_line.OnLine.TheVariants.{Gets}
use Rattle.nova_machine.specs.OnLines.{lined}
use Rattle.nova_machine.proofs.ConsoleSteps.{key-as}
use Rattle.nova_machine.specs.LineChanges.{DoneOnLine}
use Rattle.nova_machine.specs.Comes.{Output, output, Comes, Does}
use Rattle.nova_machine.specs.Service.{asked, answered, first_stop, service, services, serving, taken}
use Rattle.nova_machine.specs.Turn.{fetch, interrupt, breaks_tested_unless, attended, prepared, turn}
use Rattle.nova_machine.specs.Run.{last_time, next_turn, turns}
use Rattle.nova_machine.specs.Bursts.{Bursts}
use Rattle.nova_machine.specs.Looks.{keyboard, LooksEach, looked_at}
use Rattle.nova_machine.specs.LineLooks.{second_keyboard, first_looked, LookAgain, AreLooking, IsKeylessNow, GoesOn, IsAhead}
use Rattle.nova_machine.proofs.Parts.{silent-comes, comes-behind, comes-then}
use Rattle.nova_machine.proofs.Opened.{turn-opened, serving-is, services-none, services-some, turns-some, next-early}
use Rattle.nova_machine.proofs.Looks.{asked_for, each-look, asked-same, wants-key, wish-there, answered-same, key-goes}
use Rattle.nova_machine.proofs.Idling.{no-key, console-closed, looked-lines, looked-units, looked-time}
use Rattle.nova_machine.proofs.Serving.{around_of, some-lined, comes-lined}
use Rattle.nova_machine.proofs.LineSteps.{first-through}

-- ---- services ahead of their turn

behind-then : (made : List (Observation Seen)) (p : Part) (next : Seen → Part) → then_part (behind_made made p) next ≡ behind_made made (then_part p next)
behind-then made p next = by-stop p.stop
  where
    by-stop : (o : Option Stop) → followed (made ++ p.made) o p.after next ≡ behind_made made (followed p.made o p.after next)
    by-stop (Some stop) = refl
    by-stop None = ap (λ (l : List (Observation Seen)). record { made = l; after = (next p.after).after; stop = (next p.after).stop }) (append_assoc made p.made (next p.after).made)

-- a turn whose services were made already
served-turn : (note : Option UnitNote) (first : Bool) (s next : Seen) (made : List (Observation Seen)) → serving note s ≡ record { made = made; after = next; stop = None }
    → serving note next ≡ silent None next → turn note first s ≡ behind_made made (turn note first next)
served-turn note first s next made is none =
    let interrupts : Seen → Part = λ served. still served (interrupt served.machine) in
    let tests : Seen → Part = λ at. breaks_tested_unless first at in
    let fetches : Seen → Part = λ ready. still ready (fetch ready.machine) in
    let here = turn-opened note first s in
    let there = turn-opened note first next in
    let attends : attended note s ≡ behind_made made (attended note next) =
    here.attends ∙ ap (λ (p : Part). then_part p interrupts) is ∙ sym (ap (behind_made made) (there.attends ∙ ap (λ (p : Part). then_part p interrupts) none)) in
    let prepares : prepared note first s ≡ behind_made made (prepared note first next) =
    here.prepares ∙ ap (λ (p : Part). then_part p tests) attends ∙ behind-then made (attended note next) tests ∙ sym (ap (behind_made made) there.prepares) in
    here.executes ∙ ap (λ (p : Part). then_part p fetches) prepares ∙ behind-then made (prepared note first next) fetches ∙ sym (ap (behind_made made) there.executes)

nothing-due : (note : Option UnitNote) (s : Seen) → dues s.machine.events ≡ [] → serving note s ≡ silent None s
nothing-due note s none = serving-is note s ∙ ap (λ (us : List UnitName). services note us s) none ∙ services-none note s

served-turns : (note : Option RunNote) (step first : Bool) (left : ℕ) (s next : Seen) (made : List (Observation Seen)) → s.machine.time < last_time → 0 < left
    → next.machine.time ≡ s.machine.time → dues next.machine.events ≡ [] → serving (at_time s.machine.time note) s ≡ record { made = made; after = next; stop = None }
    → turns note step first left s ≡ behind_made made (turns note step first left next)
served-turns note step first zero s next made early some time none is = absurd (omega (arith, some))
served-turns note step first (suc left) s next made early some time none is =
    let now = at_time s.machine.time note in
    let rest : Seen → Part = λ t. turns note step false left t in
    let later : next.machine.time < last_time = omega (arith, early, time) in
    let one : next_turn note first s ≡ behind_made made (turn now first next) = next-early note first s early ∙ served-turn now first s next made is (nothing-due now next none) in
    let other : next_turn note first next ≡ turn now first next = next-early note first next later ∙ ap (λ (t : ℕ). turn (at_time t note) first next) time in
    turns-some note step first left s ∙ ap (λ (p : Part). then_part p rest) one ∙ behind-then made (turn now first next) rest
    ∙ sym (ap (behind_made made) (turns-some note step first left next ∙ ap (λ (p : Part). then_part p rest) other))

served-comes : (note : Option RunNote) (step first : Bool) (left : ℕ) (s next : Seen) (r : Option Stop) (last : Seen) (tells : Bool) (b c a : Output) → s.machine.time < last_time → 0 < left
    → next.machine.time ≡ s.machine.time → dues next.machine.events ≡ [] → Comes (serving (at_time s.machine.time note) s) None next tells b c
    → Comes (turns note step first left next) r last tells c a → Comes (turns note step first left s) r last tells b a
served-comes note step first left s next r last tells b c a early some time none one rest =
    let p = serving (at_time s.machine.time note) s in
    let is : p ≡ record { made = p.made; after = next; stop = None } =
    ap (λ (o : Option Stop). record { made = p.made; after = p.after; stop = o }) (sym one.stop_is)
    ∙ ap (λ (x : Seen). record { made = p.made; after = x; stop = None }) (sym one.after_is) in
    let P : Part → Type 0 = λ x. Comes x r last tells b a in
    subst P (sym (served-turns note step first left s next p.made early some time none is))
    (comes-behind p.made (turns note step first left next) r last tells b c a one.written one.heard rest)

-- ---- turns that go on

pub burst-on : (watch : WatchState) (keys : List (ℕ × ℕ)) (most done : ℕ) (end : BurstEnd) (lines : LineState) (old new : MachineState) → Bursts watch keys most done end old new
    → GoesOn watch keys most done end lines old lines new
burst-on watch keys most done burst_end.ChainLimit lines old new told = λ note step files tells console whole first.
    let b = output console lines.sent in
    let next = seen (beside watch keys files lines) whole new in
    subst (λ (p : Part). Comes p (Some ChainLimit) next tells b b) (sym (told note step files lines whole)) (silent-comes (Some ChainLimit) (Some ChainLimit) next next tells b tt refl refl)
burst-on watch keys most done burst_end.Spent lines old new told = λ note step files tells console r last out whole first rest.
    subst (λ (p : Part). Comes p r last tells (output console lines.sent) out) (sym (told note step files lines whole)) rest
burst-on watch keys most done burst_end.Transfer lines old new told = λ note step files tells console r last out whole first rest.
    subst (λ (p : Part). Comes p r last tells (output console lines.sent) out) (sym (told note step files lines whole)) rest
burst-on watch keys most done burst_end.AtStop lines old new told = λ note step files tells console r last out whole first rest.
    subst (λ (p : Part). Comes p r last tells (output console lines.sent) out) (sym (told note step files lines whole)) rest

-- All units were served whose events were due, and none has stopped the machine, whichever files, failing calls and console
-- there are.
abbrev pub AreServed : WatchState → List (ℕ × ℕ) → LineState → MachineState → LineState → MachineState → Type 0
AreServed watch keys before old after new =
    (note : Option UnitNote) (files : List NamedBytes) (tells : Bool) (console : List ℕ)
    → Does (serving note) None (beside watch keys files before) old (beside watch keys files after) new tells console console

pub none-on : (watch : WatchState) (keys : List (ℕ × ℕ)) (most : ℕ) (lines : LineState) (m : MachineState) → GoesOn watch keys most 0 burst_end.Spent lines m lines m
none-on watch keys most lines m = λ note step files tells console r last out whole first rest.
    let all : most - 0 ≡ most = omega arith in
    subst (λ (n : ℕ). Comes (turns note step false n (seen (beside watch keys files lines) whole m)) r last tells (output console lines.sent) out) all rest

pub served-ahead : (watch : WatchState) (keys : List (ℕ × ℕ)) (before : LineState) (old : MachineState) (after : LineState) (new : MachineState) → old.time < last_time → new.time ≡ old.time
    → dues new.events ≡ [] → AreServed watch keys before old after new → IsAhead watch keys before old after new
served-ahead watch keys before old after new early time none all_served = λ most some note step files tells console r last out whole first rest.
    let all : most - 0 ≡ most = omega arith in
    let s = seen (beside watch keys files before) whole old in
    let next = seen (beside watch keys files after) whole new in
    served-comes note step false most s next r last tells (output console before.sent) (output console after.sent) out early some time none
    (all_served (at_time old.time note) files tells console whole first)
    (subst (λ (n : ℕ). Comes (turns note step false n next) r last tells (output console after.sent) out) all rest)

pub nothing-ahead : (watch : WatchState) (keys : List (ℕ × ℕ)) (lines : LineState) (m new : MachineState) → new ≡ m → IsAhead watch keys lines m lines new
nothing-ahead watch keys lines m new is = λ most some. subst (λ (x : MachineState). GoesOn watch keys most 0 burst_end.Spent lines m lines x) (sym is) (none-on watch keys most lines m)

all-done : (most done more : ℕ) → most - done - more ≡ most - (done + more)
all-done most done more = omega arith

pub on-then : (watch : WatchState) (keys : List (ℕ × ℕ)) (most done more : ℕ) (end : BurstEnd) (before : LineState) (old : MachineState) (mid : LineState) (at : MachineState) (after : LineState) (new : MachineState)
    → IsFirst (record_in mid.told) (record_in after.told) → GoesOn watch keys most done burst_end.Spent before old mid at → GoesOn watch keys (most - done) more end mid at after new
    → GoesOn watch keys most (done + more) end before old after new
on-then watch keys most done more burst_end.ChainLimit before old mid at after new grows one two = λ note step files tells console whole first.
    one note step files tells console (Some ChainLimit) (seen (beside watch keys files after) whole new) (output console after.sent) whole
    (first-through (record_in mid.told) (record_in after.told) whole grows first) (two note step files tells console whole first)
on-then watch keys most done more burst_end.Spent before old mid at after new grows one two = λ note step files tells console r last out whole first rest.
    one note step files tells console r last out whole (first-through (record_in mid.told) (record_in after.told) whole grows first)
    (two note step files tells console r last out whole first
    (subst (λ (n : ℕ). Comes (turns note step false n (seen (beside watch keys files after) whole new)) r last tells (output console after.sent) out) (sym (all-done most done more)) rest))
on-then watch keys most done more burst_end.Transfer before old mid at after new grows one two = λ note step files tells console r last out whole first rest.
    one note step files tells console r last out whole (first-through (record_in mid.told) (record_in after.told) whole grows first)
    (two note step files tells console r last out whole first
    (subst (λ (n : ℕ). Comes (turns note step false n (seen (beside watch keys files after) whole new)) r last tells (output console after.sent) out) (sym (all-done most done more)) rest))
on-then watch keys most done more burst_end.AtStop before old mid at after new grows one two = λ note step files tells console r last out whole first rest.
    one note step files tells console r last out whole (first-through (record_in mid.told) (record_in after.told) whole grows first)
    (two note step files tells console r last out whole first
    (subst (λ (n : ℕ). Comes (turns note step false n (seen (beside watch keys files after) whole new)) r last tells (output console after.sent) out) (sym (all-done most done more)) rest))

-- an end that is no chain without an end is that of turns that were spent
pub any-spent : (watch : WatchState) (keys : List (ℕ × ℕ)) (most done : ℕ) (end : BurstEnd) (before : LineState) (old : MachineState) (after : LineState) (new : MachineState)
    → end ≢ burst_end.ChainLimit → GoesOn watch keys most done end before old after new → GoesOn watch keys most done burst_end.Spent before old after new
any-spent watch keys most done burst_end.ChainLimit before old after new other on = absurd (other refl)
any-spent watch keys most done burst_end.Spent before old after new other on = on
any-spent watch keys most done burst_end.Transfer before old after new other on = on
any-spent watch keys most done burst_end.AtStop before old after new other on = on

pub spent-any : (watch : WatchState) (keys : List (ℕ × ℕ)) (most done : ℕ) (end : BurstEnd) (before : LineState) (old : MachineState) (after : LineState) (new : MachineState)
    → end ≢ burst_end.ChainLimit → GoesOn watch keys most done burst_end.Spent before old after new → GoesOn watch keys most done end before old after new
spent-any watch keys most done burst_end.ChainLimit before old after new other on = absurd (other refl)
spent-any watch keys most done burst_end.Spent before old after new other on = on
spent-any watch keys most done burst_end.Transfer before old after new other on = on
spent-any watch keys most done burst_end.AtStop before old after new other on = on

-- turns that end in some way, and behind them what is done ahead of the next
pub ahead-then : (watch : WatchState) (keys : List (ℕ × ℕ)) (most done : ℕ) (end : BurstEnd) (before : LineState) (old : MachineState) (mid : LineState) (at : MachineState) (after : LineState) (new : MachineState)
    → IsFirst (record_in mid.told) (record_in after.told) → end ≢ burst_end.ChainLimit → done < most → GoesOn watch keys most done end before old mid at → IsAhead watch keys mid at after new
    → GoesOn watch keys most done burst_end.Spent before old after new
ahead-then watch keys most done end before old mid at after new grows other some one ahead =
    let left : 0 < most - done = omega (arith, some) in
    let all : done + 0 ≡ done = omega arith in
    subst (λ (n : ℕ). GoesOn watch keys most n burst_end.Spent before old after new) all
    (on-then watch keys most done 0 burst_end.Spent before old mid at after new grows (any-spent watch keys most done end before old mid at other one) (ahead (most - done) left))

-- turns that a chain without an end has ended
pub on-chain : (watch : WatchState) (keys : List (ℕ × ℕ)) (most done : ℕ) (end : BurstEnd) (before : LineState) (old : MachineState) (after : LineState) (new : MachineState)
    → end ≡ burst_end.ChainLimit → GoesOn watch keys most done end before old after new → GoesOn watch keys most done burst_end.ChainLimit before old after new
on-chain watch keys most done burst_end.ChainLimit before old after new is on = on
on-chain watch keys most done burst_end.Spent before old after new is on = absurd (cc)
on-chain watch keys most done burst_end.Transfer before old after new is on = absurd (cc)
on-chain watch keys most done burst_end.AtStop before old after new is on = absurd (cc)

-- ---- both looks

-- the keyboards of which the second gets an answer
pub both-served : (period : ℕ) (watch : WatchState) (keys : List (ℕ × ℕ)) (before after : LineState) (m h last : MachineState) (got : Got) → AreLooking period m → IsKeylessNow watch keys m
    → ((whole : List Answer) → IsFirst (record_in after.told) whole → DoneOnLine (lined (want.LineKey 0) (around_of watch keys before whole m)) (Some got) whole before after h.lines)
    → h ≡ record (first_looked period m) { lines = h.lines } → None ≡ (answered second_keyboard got h).stop → last ≡ (answered second_keyboard got h).machine
    → AreServed watch keys before m after last
both-served period watch keys before after m h last got looking keyless done is goes left = λ note files tells console whole first.
    let s = seen (beside watch keys files before) whole m in
    let at = first_looked period m in
    let mid = seen (beside watch keys files before) whole at in
    let next = seen (beside watch keys files after) whole last in
    let b = output console before.sent in
    let a = output console after.sent in
    let looks : LooksEach Peer period (taken s).machine.units (taken s).lines keyboard = record { unheard = console-closed before m.lines keyless.2; number = refl; wish = looking.again.first } in
    let one : serving note s ≡ then_part (service (at_unit second_keyboard note) second_keyboard mid) (λ n. services note [] n) =
    serving-is note s ∙ ap (λ (us : List UnitName). services note us s) looking.dues
    ∙ services-some note keyboard (second_keyboard ∷ []) s
    ∙ ap (λ (p : Part). then_part p (λ n. services note (second_keyboard ∷ []) n)) (each-look (at_unit keyboard note) period (taken s) keyboard looks (no-key _ _ keyless.0 keyless.1))
    ∙ services-some note second_keyboard [] (with_machine (taken s) (asked_for keyboard period (taken s).machine)) in
    let there = wish-there Tti1 m.units period looking.again.second in
    let asks : at ≡ asked second_keyboard at = sym (asked-same Tti1 tt at) in
    let l = some-lined second_keyboard at at (want.LineKey 0) (Gets got) watch keys before after whole h.lines asks (sym (wants-key Tti1 tt m.units there))
    (key-as 0 (around_of watch keys before whole at) got whole before after h.lines (done whole first)) in
    let same = ap (λ (x : Got). answered second_keyboard x h) l.got_is in
    let is_asked : h ≡ record (asked second_keyboard at) { lines = h.lines } = is ∙ ap (λ (x : MachineState). record x { lines = h.lines }) asks in
    let second : Comes (service (at_unit second_keyboard note) second_keyboard mid) None next tells b a =
    comes-lined (at_unit second_keyboard note) second_keyboard watch watch keys files before after whole at h last l.done None tells b a l.is
    (ap (λ (t : ExpectTable). record watch { expects = t }) l.waits_is) l.lines l.ahead l.heard (λ _. sym (append-nil console)) is_asked tt
    (goes ∙ ap (λ (t : Turned). t.stop) same ∙ ap (λ (o : Option Stop). first_stop o (answered second_keyboard l.done.got h).stop) l.stop_is) (left ∙ ap (λ (t : Turned). t.machine) same) in
    let over : Comes (services note [] next) None next tells a a = subst (λ (p : Part). Comes p None next tells a a) (sym (services-none note next)) (silent-comes None None next next tells a tt refl refl) in
    subst (λ (p : Part). Comes p None next tells b a) (sym one)
    (comes-then (service (at_unit second_keyboard note) second_keyboard mid) (λ n. services note [] n) next None next tells b a a second over)

-- no key came
pub silent-answer : (period : ℕ) (m : MachineState) (ls : List (LineOf ℕ)) → AreLooking period m
    → answered second_keyboard NoKey (record (first_looked period m) { lines = ls }) ≡ goes_on (record (looked_at period m) { lines = ls })
unfolding looked_at
silent-answer period m ls looking =
    let k = record (first_looked period m) { lines = ls } in
    answered-same Tti1 tt k (wish-there Tti1 m.units period looking.again.second)
    ∙ ap (λ (q : Queue). goes_on (record k { events = wished second_keyboard q k.events })) looking.again.second
    ∙ ap (λ (us : List UnitName). goes_on (record m { events = asked_again period us m.events; lines = ls })) (sym looking.dues)

pub both-silent : (period : ℕ) (watch : WatchState) (keys : List (ℕ × ℕ)) (before after : LineState) (m last : MachineState) → AreLooking period m → IsKeylessNow watch keys m
    → ((whole : List Answer) → IsFirst (record_in after.told) whole → DoneOnLine (lined (want.LineKey 0) (around_of watch keys before whole m)) (Some NoKey) whole before after last.lines)
    → last ≡ record (looked_at period m) { lines = last.lines } → AreServed watch keys before m after last
both-silent period watch keys before after m last looking keyless done is =
    let h = record (first_looked period m) { lines = last.lines } in
    let silent_is = silent-answer period m last.lines looking in
    both-served period watch keys before after m h last NoKey looking keyless done refl (sym (ap (λ (t : Turned). t.stop) silent_is)) (is ∙ sym (ap (λ (t : Turned). t.machine) silent_is))

pub silent-is : (period : ℕ) (m n last : MachineState) → n ≡ record m { lines = n.lines } → last ≡ looked_at period n → last ≡ record (looked_at period m) { lines = last.lines }
unfolding looked_at
silent-is period m n last is looks =
    let all : last ≡ record (looked_at period m) { lines = n.lines } = looks ∙ ap (looked_at period) is in
    all ∙ ap (λ (ls : List (LineOf ℕ)). record (looked_at period m) { lines = ls }) (sym (ap (λ (x : MachineState). x.lines) all))

pub looking-with : (period : ℕ) (m n : MachineState) → n ≡ record m { lines = n.lines } → AreLooking period m → AreLooking period n
looking-with period m n is looking =
    subst (λ (x : MachineState). AreLooking period x) (sym is) (record { dues = looking.dues; again = looking.again })

-- a key does not stop the machine
pub key-goes-on : (period : ℕ) (m h : MachineState) (key : ℕ) → AreLooking period m → h.units ≡ m.units → None ≡ (answered second_keyboard (Key key) h).stop
unfolding answered
key-goes-on period m h key looking same =
    let there = wish-there Tti1 m.units period looking.again.second in
    sym (key-goes key h.units (subst (λ (us : List UnitState). is_some (unit_at (code_of Tti1) us) ≡ true) (sym same) there))

-- ---- what a poll of the line comes to

silent-poll : (period : ℕ) (watch : WatchState) (keys : List (ℕ × ℕ)) (before after : LineState) (m n last : MachineState) (got : Got) → AreLooking period m → IsKeylessNow watch keys m
    → n ≡ record m { lines = n.lines } → last ≡ looked_at period n → got ≡ NoKey
    → ((whole : List Answer) → IsFirst (record_in after.told) whole → DoneOnLine (lined (want.LineKey 0) (around_of watch keys before whole m)) (Some got) whole before after n.lines)
    → AreServed watch keys before m after last
silent-poll period watch keys before after m n last got looking keyless is looks none done =
    let at : n.lines ≡ last.lines = sym (ap (λ (x : MachineState). x.lines) looks ∙ looked-lines period n) in
    let D : List Answer → Got → List (LineOf ℕ) → Type 0 = λ whole g ls. DoneOnLine (lined (want.LineKey 0) (around_of watch keys before whole m)) (Some g) whole before after ls in
    both-silent period watch keys before after m last looking keyless
    (λ whole first. subst (λ (ls : List (LineOf ℕ)). D whole NoKey ls) at (subst (λ (g : Got). D whole g n.lines) none (done whole first))) (silent-is period m n last is looks)

key-poll : (period : ℕ) (watch : WatchState) (keys : List (ℕ × ℕ)) (before after : LineState) (m n last : MachineState) (got : Got) (key : ℕ) → AreLooking period m → IsKeylessNow watch keys m
    → n ≡ record m { lines = n.lines } → last ≡ (answered second_keyboard (Key key) (first_looked period n)).machine → got ≡ Key key
    → ((whole : List Answer) → IsFirst (record_in after.told) whole → DoneOnLine (lined (want.LineKey 0) (around_of watch keys before whole m)) (Some got) whole before after n.lines)
    → AreServed watch keys before m after last
key-poll period watch keys before after m n last got key looking keyless is left came done =
    let D : List Answer → Got → Type 0 = λ whole g. DoneOnLine (lined (want.LineKey 0) (around_of watch keys before whole m)) (Some g) whole before after n.lines in
    let h = first_looked period n in
    both-served period watch keys before after m h last (Key key) looking keyless (λ whole first. subst (λ (g : Got). D whole g) came (done whole first)) (ap (first_looked period) is)
    (key-goes-on period m h key looking (ap (λ (x : MachineState). x.units) is)) left

pub looked-again : (period : ℕ) (m n last : MachineState) → AreLooking period m → n ≡ record m { lines = n.lines } → last ≡ looked_at period n → LookAgain period last.units
looked-again period m n last looking is looks =
    let same : last.units ≡ m.units = ap (λ (x : MachineState). x.units) looks ∙ looked-units period n ∙ ap (λ (x : MachineState). x.units) is in
    subst (λ (us : List UnitState). LookAgain period us) (sym same) looking.again

pub looked-taken : (period : ℕ) (m : MachineState) → (looked_at period m).taken ≡ m.taken
unfolding looked_at
looked-taken period m = refl

-- ---- what is due

due-of : (es : List Event) (u : UnitName) (us : List UnitName) → dues es ≡ u ∷ us → due es ≡ Some u
due-of [] u us is = absurd (cc)
due-of (e ∷ es) u us is = by (e.remaining == 0) is
  where
    by : (b : Bool) → (if b then e.unit ∷ dues es else []) ≡ u ∷ us → (if b then Some e.unit else None) ≡ Some u
    by true is = let same : e.unit ≡ u = cc in ap Some same
    by false is = absurd (cc)

rest-of : (es : List Event) (u : UnitName) (us : List UnitName) → dues es ≡ u ∷ us → dues (served es) ≡ us
rest-of es u us is =
    let both : u ∷ us ≡ u ∷ dues (served es) = sym is ∙ dues-some u es (due-of es u us is) in
    let same : us ≡ dues (served es) = cc in sym same

pub first-due : (period : ℕ) (m : MachineState) → AreLooking period m → due m.events ≡ Some keyboard
first-due period m looking = due-of m.events keyboard (second_keyboard ∷ []) looking.dues

pub second-dues : (period : ℕ) (m : MachineState) → AreLooking period m → dues (activated keyboard period (served m.events)) ≡ second_keyboard ∷ []
second-dues period m looking =
    dues-activated keyboard period (served m.events) looking.again.some ∙ rest-of m.events keyboard (second_keyboard ∷ []) looking.dues

pub second-due : (period : ℕ) (m : MachineState) → AreLooking period m → due (activated keyboard period (served m.events)) ≡ Some second_keyboard
second-due period m looking = due-of (activated keyboard period (served m.events)) second_keyboard [] (second-dues period m looking)

pub none-left : (period : ℕ) (m : MachineState) → AreLooking period m → dues (served (activated keyboard period (served m.events))) ≡ []
none-left period m looking = rest-of (activated keyboard period (served m.events)) second_keyboard [] (second-dues period m looking)

pub looked-left : (period : ℕ) (m : MachineState) → AreLooking period m → dues (looked_at period m).events ≡ []
unfolding looked_at
looked-left period m looking =
    ap (λ (us : List UnitName). dues (asked_again period us m.events)) looking.dues
    ∙ dues-activated second_keyboard period (served (activated keyboard period (served m.events))) looking.again.some
    ∙ none-left period m looking

-- a key changes the unit that gets it, and not its kind
pub key-kinds : (period key : ℕ) (m n last : MachineState) → n.units ≡ m.units → last ≡ (answered second_keyboard (Key key) (first_looked period n)).machine → kinds_of last.units ≡ kinds_of m.units
unfolding answered
key-kinds period key m n last same is =
    ap (λ (x : MachineState). kinds_of x.units) is ∙ after-kinds (code_of Tti1) (Answered 0 (Key key)) n.units ∙ ap (λ (us : List UnitState). kinds_of us) same

pub looked-kinds : (period : ℕ) (m n last : MachineState) → n ≡ record m { lines = n.lines } → last ≡ looked_at period n → kinds_of last.units ≡ kinds_of m.units
looked-kinds period m n last is looks =
    ap (λ (us : List UnitState). kinds_of us) (ap (λ (x : MachineState). x.units) looks ∙ looked-units period n ∙ ap (λ (x : MachineState). x.units) is)

-- ---- ahead of the turn

pub silent-ahead : (period : ℕ) (watch : WatchState) (keys : List (ℕ × ℕ)) (before after : LineState) (m n last : MachineState) (got : Got) → AreLooking period m → IsKeylessNow watch keys m
    → m.time < last_time → n ≡ record m { lines = n.lines } → last ≡ looked_at period n → got ≡ NoKey
    → ((whole : List Answer) → IsFirst (record_in after.told) whole → DoneOnLine (lined (want.LineKey 0) (around_of watch keys before whole m)) (Some got) whole before after n.lines)
    → IsAhead watch keys before m after last
silent-ahead period watch keys before after m n last got looking keyless early is looks none done =
    let time : last.time ≡ m.time = ap (λ (x : MachineState). x.time) looks ∙ looked-time period n ∙ ap (λ (x : MachineState). x.time) is in
    let left : dues last.events ≡ [] = ap (λ (x : MachineState). dues x.events) looks ∙ looked-left period n (looking-with period m n is looking) in
    served-ahead watch keys before m after last early time left (silent-poll period watch keys before after m n last got looking keyless is looks none done)

pub key-ahead : (period : ℕ) (watch : WatchState) (keys : List (ℕ × ℕ)) (before after : LineState) (m n last : MachineState) (got : Got) (key : ℕ) → AreLooking period m → IsKeylessNow watch keys m
    → m.time < last_time → n ≡ record m { lines = n.lines } → last ≡ (answered second_keyboard (Key key) (first_looked period n)).machine → last.time ≡ n.time → dues last.events ≡ [] → got ≡ Key key
    → ((whole : List Answer) → IsFirst (record_in after.told) whole → DoneOnLine (lined (want.LineKey 0) (around_of watch keys before whole m)) (Some got) whole before after n.lines)
    → IsAhead watch keys before m after last
key-ahead period watch keys before after m n last got key looking keyless early is left time none came done =
    served-ahead watch keys before m after last early (time ∙ ap (λ (x : MachineState). x.time) is) none (key-poll period watch keys before after m n last got key looking keyless is left came done)

-- the unit of an event, and what remains to it
abbrev pub timed : Event → UnitName × ℕ
timed e = (e.unit, e.remaining)

abbrev pub due_at : UnitName → UnitName × ℕ
due_at u = (u, 0)

pub both-due : (es : List Event) → option_map timed (slice_get es 0) ≡ Some (due_at keyboard) → option_map timed (slice_get es 1) ≡ Some (due_at second_keyboard)
    → IfSome (option_map timed (slice_get es 2)) (λ (e : UnitName × ℕ). 0 < e.1) → dues es ≡ keyboard ∷ second_keyboard ∷ []
both-due [] first second later = absurd (cc)
both-due (x ∷ []) first second later = absurd (cc)
both-due (x ∷ y ∷ es) first second later =
    let one : timed x ≡ due_at keyboard = same_Some (timed x) (due_at keyboard) first in
    let two : timed y ≡ due_at second_keyboard = same_Some (timed y) (due_at second_keyboard) second in
    ap (λ (p : UnitName × ℕ). if p.1 == 0 then p.0 ∷ dues (y ∷ es) else []) one
    ∙ ap (λ (p : UnitName × ℕ). keyboard ∷ (if p.1 == 0 then p.0 ∷ dues es else [])) two
    ∙ ap (λ (us : List UnitName). keyboard ∷ second_keyboard ∷ us) (none-later es later)
  where
    none-later : (zs : List Event) → IfSome (option_map timed (slice_get zs 0)) (λ (e : UnitName × ℕ). 0 < e.1) → dues zs ≡ []
    none-later [] more = refl
    none-later (z ∷ zs) more = grind (arith, nat_tests, more)
