-- The service of a unit leaves a valid state, and prints in one.
use Rattle.std.proofs.Common.{◌⊎◌, ◌≡◌, inl, inr, ℕ, ◌<◌, ◌≤◌, ◌==◌, List, [], ◌∷◌, Option, Some, None, option_map, IfSome, Result, Ok, Err, refl, ap, sym, subst, ◌∙◌, length, arith}
use Rattle.std.specs.List.{AllByRecursion}
use Rattle.std.proofs.lemmas.Bool.{cond_both}
use Rattle.observations.specs.Observations.{Observation, StandsAt}
use Rattle.observations.proofs.MadeLemmas.{stands-either}
use Rattle.file_traits.specs.Lists.{NamedBytes}
use Rattle.unit_trait.specs.declared.kind.UnitName.{UnitName}
use Rattle.unit_trait.specs.declared.calls.Want.{Want}
use Rattle.unit_trait.specs.declared.calls.Want.TheVariants as want
use Rattle.unit_trait.specs.declared.calls.Got.{Got}
use Rattle.unit_trait.specs.Kinds.{code_of, units_of}
use Rattle.unit_trait.specs.Calls.{UnitState, UnitCall, Due, Answered}
use Rattle.unit_trait.specs.Row.{row}
use Rattle.event_queue.specs.EventList.{Event, Sound, served, dues, wished}
use Rattle.event_queue.proofs.SoundLists.{sound-served}
use Rattle.unit_list.specs.Bus.{AllFit, unit_at, row_or_nothing, row_at, after_at, kinds_of}
use Rattle.unit_list.specs.Laws.{CanBeAsked}
use Rattle.unit_list.proofs.Calls.{after-kinds, after-fits, asked-fits, timely-at}
use Rattle.unit_list.proofs.Resets.{sound-wished}
use Rattle.unit_list.proofs.Room.{kind-found, room-in, asked-in}
use Rattle.unit_files.specs.Attachments.{Attachment, attachment_at}
use Rattle.unit_files.specs.Acts.{Failure}
use Rattle.expect_actions.specs.KeysFile.{most_keys}
use Rattle.nova_machine.specs.declared.machine.Stop.{Stop}
use Rattle.nova_machine.specs.Core.{AreListed}
use Rattle.nova_machine.specs.Machine.{MachineState}
use Rattle.nova_machine.specs.Seen.{Seen, with_machine, attached_in}
use Rattle.nova_machine.specs.Parts.{Part, silent, behind_made, followed, then_part}
use Rattle.memory_transfer.specs.Tapes.{NoAnswer}
use Rattle.nova_machine.specs.Wants.{answer_to, typed_key, own_stop, prints, unanswered}
use Rattle.nova_machine.specs.OnLines.{Lined, sends}
use Rattle.nova_machine.specs.Service.{want_at, asked, answered, stopping, replied, typed_at, sent_at, key_at, done_for, hosted, around, own_service, behind_line, line_service, lined_at, service, taken}
use Rattle.expect_actions.specs.Expects.{ExpectTable, after_printed}
use Rattle.expect_actions.specs.Watch.{WatchState}
use Rattle.nova_machine.specs.Valid.{ValidMachine, ValidWatch, Valid}
use Rattle.machine_laws.specs.ValidLaws.{IsValidPart}
use Rattle.nova_machine.proofs.Hosting.{wants-in}
use Rattle.nova_machine.proofs.Listed.{listed-served, listed-wished, among-found, times_later}
use Rattle.machine_laws.proofs.ValidInstruction.{follows-seen}
use Rattle.machine_laws.proofs.ValidBytes.{AreFiles, IsByte}
use Rattle.machine_laws.proofs.ValidMemory.{bytes-disk}
use Rattle.machine_laws.proofs.ValidWatch.{watch-after, watch-printed, key-typed, key-sent, key-first, taken-within}
use Rattle.nova_machine.proofs.EachService.{each-service, sends-nowhere}
use Rattle.machine_laws.proofs.ValidLines.{ValidLined, lined-valid}
use Rattle.machine_laws.proofs.ValidAnswers.{writes-in, prints-in, IsGiven, answer-given, files-behind, memory-hosted}

-- ---- parts

pub valid-silent : (stop : Option Stop) (s : Seen) → Valid s → IsValidPart (silent stop s)
valid-silent stop s is = record { after = is; made = λ t h. absurd h }

valid-behind : (made : List (Observation Seen)) (p : Part) → ((t : Seen) → StandsAt t made → Valid t) → IsValidPart p → IsValidPart (behind_made made p)
valid-behind made p first is = record {
  after = is.after;
  made = λ t h. elim (stands-either t made p.made h) [ inl x ↦ first t x | inr x ↦ is.made t x ];
}

valid-followed : (made : List (Observation Seen)) (stop : Option Stop) (s : Seen) (goes_on : Seen → Part) → IsValidPart (record { made = made; after = s; stop = stop })
    → ((next : Seen) → Valid next → IsValidPart (goes_on next)) → IsValidPart (followed made stop s goes_on)
valid-followed made (Some stop) s goes_on is more = record { after = is.after; made = is.made }
valid-followed made None s goes_on is more = valid-behind made (goes_on s) is.made (more s is.after)

pub valid-then : (p : Part) (goes_on : Seen → Part) → IsValidPart p → ((next : Seen) → Valid next → IsValidPart (goes_on next)) → IsValidPart (then_part p goes_on)
valid-then p goes_on is more = valid-followed p.made p.stop p.after goes_on (record { after = is.after; made = is.made }) more

-- ---- the machine, where its units and their events are others

valid-events : (m : MachineState) (us : List UnitState) (es : List Event) → AllFit us → Sound es → AreListed (kinds_of us) es → ValidMachine m → ValidMachine (record m { units = us; events = es })
valid-events m us es fit sound listed is = record {
  memory = is.memory;
  size = is.size;
  cpu = is.cpu;
  mask = is.mask;
  switches = is.switches;
  core = record { registers = fit; sound = sound; listed = listed; times = times_later m.time es };
  places = is.places;
  names = is.names;
  disk = is.disk;
}

-- the event that is due first is taken
pub valid-taken : (s : Seen) → Valid s → Valid (taken s)
valid-taken s is =
    let m = s.machine in
    let core = is.machine.core in
    follows-seen s (record m { events = served m.events }) is (record {
      valid = valid-events m m.units (served m.events) core.registers (sound-served m.events core.sound) (listed-served (kinds_of m.units) m.events core.listed) is.machine;
      taken = refl;
    })

valid-asked : (u : UnitName) (m : MachineState) → ValidMachine m → ValidMachine (asked u m)
unfolding asked
valid-asked u m is =
    let call = Due u.unit in
    let code = code_of u.kind in
    valid-events m (after_at code call m.units) m.events (after-fits code u.unit m.units is.core.registers) is.core.sound
    (subst (λ ks. AreListed ks m.events) (sym (after-kinds code call m.units)) is.core.listed) is

-- ---- the wish of a unit that was answered

listed-wish : (u : UnitName) (call : UnitCall) (us : List UnitState) (es : List Event) → AreListed (kinds_of us) es → AreListed (kinds_of us) (wished u (row_at (code_of u.kind) call us).queue es)
listed-wish u call us es all = by-unit (unit_at (code_of u.kind) us) refl (kind-found u.kind us)
  where
    by-unit : (o : Option UnitState) → unit_at (code_of u.kind) us ≡ o → IfSome o (λ v. v.kind ≡ u.kind) → AreListed (kinds_of us) (wished u (row_or_nothing call o).queue es)
    by-unit None there same = all
    by-unit (Some v) there same =
        let found : Some u.kind ≡ option_map (λ x. x.kind) (unit_at (code_of u.kind) us) = ap Some (sym same) ∙ ap (option_map (λ (x : UnitState). x.kind)) (sym there) in
        listed-wished (kinds_of us) u (row v call).queue es (among-found (code_of u.kind) u.kind us found) all

-- the unit of that name, where it is there, can be asked to take the answer
abbrev CanReply : UnitName → List UnitState → Result Got NoAnswer → Type 0
CanReply u us (Ok g) = IfSome (unit_at (code_of u.kind) us) (λ v. CanBeAsked v (Answered u.unit g))
CanReply u us (Err why) = Unit {0}

valid-answered : (u : UnitName) (g : Got) (m : MachineState) → u.unit < units_of u.kind → CanReply u m.units (Ok g) → ValidMachine m → ValidMachine (answered u g m).machine
unfolding answered
valid-answered u g m low can is =
    let code = code_of u.kind in
    let call = Answered u.unit g in
    let us = after_at code call m.units in
    let wish = (row_at code call m.units).queue in
    valid-events m us (wished u wish m.events) (asked-fits code call m.units can is.core.registers)
    (sound-wished u wish m.events low (timely-at code call m.units is.core.registers) is.core.sound)
    (subst (λ ks. AreListed ks (wished u wish m.events)) (sym (after-kinds code call m.units)) (listed-wish u call m.units m.events is.core.listed)) is

same-taken : (u : UnitName) (g : Got) (m : MachineState) → (answered u g m).machine.taken ≡ m.taken
unfolding answered
same-taken u g m = refl

valid-replied : (u : UnitName) (stop : Option Stop) (answer : Result Got NoAnswer) (s : Seen) → u.unit < units_of u.kind → CanReply u s.machine.units answer → Valid s
    → IsValidPart (replied u stop answer s)
valid-replied u stop (Ok g) s low can is =
    let t = stopping stop (answered u g s.machine) in
    valid-silent t.stop (with_machine s t.machine) (follows-seen s t.machine is (record { valid = valid-answered u g s.machine low can is.machine; taken = same-taken u g s.machine }))
valid-replied u stop (Err why) s low can is = valid-silent (Some (unanswered u why)) s is

can-reply : (u : UnitName) (us : List UnitState) (answer : Result Got NoAnswer) → IsGiven (row_at (code_of u.kind) (Due u.unit) us).want answer
    → CanReply u (after_at (code_of u.kind) (Due u.unit) us) answer
can-reply u us (Ok g) given = asked-in u.kind u.unit g (after_at (code_of u.kind) (Due u.unit) us) given.0 (room-in u.kind u.unit g us given.1)
can-reply u us (Err why) given = tt

-- ---- what it wants is done

typed-key : (s : Seen) → Valid s → IfSome (typed_at s) (λ (b : ℕ). IsByte b × (s.machine.taken < most_keys))
typed-key s is = by-key (typed_at s) (key-typed s.keys s.machine.taken s.machine.time is.keys)
  where
    by-key : (o : Option ℕ) → IfSome o (λ (b : ℕ). IsByte b × (s.machine.taken < length s.keys)) → IfSome o (λ (b : ℕ). IsByte b × (s.machine.taken < most_keys))
    by-key None there = tt
    by-key (Some b) there = let known = is.known in let within = there.1 in (there.0, omega (arith, known, within))

sent-key : (s : Seen) → Valid s → IfSome (sent_at s) IsByte
sent-key s is = key-sent s.machine.time s.watch.sends is.watch.bytes

valid-done : (fault : Option Failure) (key : Option ℕ) (a : Option Attachment) (files : List NamedBytes) (w : Want) (m : MachineState) → AreFiles files → ValidMachine m
    → ValidMachine (done_for fault key a files w m)
valid-done fault key a files w m all is =
    let memory = memory-hosted fault a files m.disk w m.processor.memory all is.disk (record { memory = is.memory; size = is.size }) in
    record {
      memory = memory.memory;
      size = memory.size;
      cpu = is.cpu;
      mask = is.mask;
      switches = is.switches;
      core = record { registers = is.core.registers; sound = is.core.sound; listed = is.core.listed; times = is.core.times };
      places = is.places;
      names = is.names;
      disk = bytes-disk a m.processor.memory w m.disk is.memory is.disk;
    }

valid-hosted : (fault : Option Failure) (u : UnitName) (s : Seen) → Valid s → Valid (hosted fault u s)
unfolding hosted asked
valid-hosted fault u s is =
    let w = want_at u s.machine in
    let a = attachment_at (attached_in s.machine) u in
    record {
      machine = valid-done fault (typed_key (sent_at s) (typed_at s)) a s.files w (asked u s.machine) is.files (valid-asked u s.machine is.machine);
      watch = watch-after s.machine.time w s.watch (prints-in (code_of u.kind) u.unit s.machine.units) is.watch;
      taken = taken-within (sent_at s) (typed_at s) s.machine.taken most_keys w is.taken (typed-key s is);
      known = is.known;
      keys = is.keys;
      files = files-behind fault a s.machine.processor.memory s.files w (writes-in (code_of u.kind) u.unit s.machine.units is.machine.core.registers) is.machine.memory is.files;
      lines = is.lines;
      ahead = is.ahead;
    }

hosted-units : (fault : Option Failure) (u : UnitName) (s : Seen) → after_at (code_of u.kind) (Due u.unit) s.machine.units ≡ (hosted fault u s).machine.units
unfolding hosted asked
hosted-units fault u s = refl

valid-prints : (w : Want) (s t : Seen) → Valid s → StandsAt t (prints w s) → Valid t
valid-prints (want.Console byte) s t is (inl same) = subst Valid (sym same) is
valid-prints (want.Console byte) s t is (inr none) = absurd none
valid-prints w s t is h = absurd h

asked-taken : (u : UnitName) (m : MachineState) → (asked u m).taken ≡ m.taken
unfolding asked
asked-taken u m = refl

valid-own : (fault : Option Failure) (u : UnitName) (s : Seen) → u.unit < units_of u.kind → Valid s → IsValidPart (own_service fault u s)
unfolding own_service
valid-own fault u s low is =
    let w = want_at u s.machine in
    let a = attachment_at (attached_in s.machine) u in
    let us = s.machine.units in
    let key = key_at s in
    let at = with_machine s (asked u s.machine) in
    let answer = answer_to fault a s.files key w in
    let byte = key-first (sent_at s) (typed_at s) (s.machine.taken < most_keys) (sent-key s is) (typed-key s is) in
    let given = answer-given fault a s.files key w u.kind is.files byte (wants-in u.kind u.unit us is.machine.core.registers) in
    let can = subst (λ (x : List UnitState). CanReply u x answer) (hosted-units fault u s) (can-reply u us answer given) in
    valid-behind (prints w at) (replied u (own_stop key s.watch.expects w) answer (hosted fault u s))
    (λ t h. valid-prints w at t (follows-seen s (asked u s.machine) is (record { valid = valid-asked u s.machine is.machine; taken = asked-taken u s.machine })) h)
    (valid-replied u (own_stop key s.watch.expects w) answer (hosted fault u s) low can (valid-hosted fault u s is))

-- ---- what it wants is done on a line

valid-lined : (u : UnitName) (l : Lined) (s : Seen) → lined_at u s ≡ Some l → Valid s → ValidLined (want_at u s.machine) s.watch.expects l
valid-lined u l s there is =
    lined-valid (want_at u s.machine) (around s) l (writes-in (code_of u.kind) u.unit s.machine.units is.machine.core.registers)
    (prints-in (code_of u.kind) u.unit s.machine.units) is.lines is.ahead there

-- the texts that are waited for stay in their ranges
waits-valid : (w : WatchState) (l : Lined) → (l.expects ≡ w.expects) ⊎ ((byte : ℕ) × IsByte byte × (l.expects ≡ after_printed byte w.expects)) → ValidWatch w → ValidWatch (record w { expects = l.expects })
waits-valid w l (inl same) is = subst (λ (t : ExpectTable). ValidWatch (record w { expects = t })) (sym same) is
waits-valid w l (inr (byte, low, same)) is = subst (λ (t : ExpectTable). ValidWatch (record w { expects = t })) (sym same) (watch-printed byte w low is)

behind-valid : (u : UnitName) (l : Lined) (s : Seen) → ValidLined (want_at u s.machine) s.watch.expects l → Valid s → Valid (behind_line u l s)
behind-valid u l s lined is = record {
  machine = valid-asked u s.machine is.machine;
  watch = waits-valid s.watch l lined.waits is.watch;
  taken = subst (λ (n : ℕ). n ≤ most_keys) (sym (asked-taken u s.machine)) is.taken;
  known = is.known;
  keys = is.keys;
  files = is.files;
  lines = lined.lines;
  ahead = lined.ahead;
}

line-units : (u : UnitName) (l : Lined) (s : Seen) → after_at (code_of u.kind) (Due u.unit) s.machine.units ≡ (behind_line u l s).machine.units
unfolding asked
line-units u l s = refl

valid-line : (u : UnitName) (l : Lined) (s : Seen) → u.unit < units_of u.kind → lined_at u s ≡ Some l → Valid s → IsValidPart (line_service u l s)
unfolding line_service
valid-line u l s low there is =
    let lined = valid-lined u l s there is in
    let can = subst (λ (x : List UnitState). CanReply u x (Ok l.got)) (line-units u l s) (can-reply u s.machine.units (Ok l.got) lined.got) in
    valid-behind (sends l.sent) (replied u l.stop (Ok l.got) (behind_line u l s)) (λ t h. absurd (sends-nowhere l.sent t h))
    (valid-replied u l.stop (Ok l.got) (behind_line u l s) low can (behind-valid u l s lined is))

pub valid-service : (fault : Option Failure) (u : UnitName) (s : Seen) → u.unit < units_of u.kind → Valid s → IsValidPart (service fault u s)
valid-service fault u s low is = each-service IsValidPart fault u s (valid-own fault u s low is) (λ l there. valid-line u l s low there is)

-- the events that are due are of units of their kinds
pub dues-low : (es : List Event) → AllByRecursion (λ (e : Event). e.unit.unit < units_of e.unit.kind) es → AllByRecursion (λ (u : UnitName). u.unit < units_of u.kind) (dues es)
dues-low [] all = tt
dues-low (e ∷ es) all =
    cond_both (e.remaining == 0) (e.unit ∷ dues es) [] (λ (us : List UnitName). AllByRecursion (λ (u : UnitName). u.unit < units_of u.kind) us) (λ _. (all.0, dues-low es all.1)) (λ _. tt)
