-- Looks of the keyboards for which no key comes.
use Rattle.std.proofs.Common.{◌≡◌, ℕ, ◌<◌, ◌==◌, Bool, true, false, List, [], ◌∷◌, nat_le, slice_get, slice_set, Option, Some, None, option_map, is_some, refl, ap, sym, subst, ◌∙◌, arith, if◌then◌else◌}
use Rattle.std.proofs.lemmas.Bool.Decides.{nat_tests}
use Rattle.host_lines.specs.Traffic.{Peer}
use Rattle.telnet_lines.specs.Line.{LineOf, unconnected}
use Rattle.telnet_lines.specs.Poll.{accepted, received, sent, polled}
use Rattle.unit_trait.specs.declared.kind.Kind.{Kind}
use Rattle.unit_trait.specs.declared.kind.Kind.TheVariants.{Tti, Tti1}
use Rattle.unit_trait.specs.declared.kind.UnitName.{UnitName}
use Rattle.unit_trait.specs.declared.calls.Queue.{Queue}
use Rattle.unit_trait.specs.declared.calls.Queue.TheVariants.{After}
use Rattle.unit_trait.specs.declared.calls.Want.{Want}
use Rattle.unit_trait.specs.declared.calls.Want.TheVariants as want
use Rattle.unit_trait.specs.declared.calls.Got.TheVariants.{NoKey, Key}
use Rattle.unit_trait.specs.declared.calls.UnitStop.{UnitStop}
use Rattle.unit_trait.specs.declared.calls.UnitStop.TheVariants.{Go}
use Rattle.event_queue.specs.EventList.{activated, wished}
use Rattle.unit_trait.specs.Kinds.{code_of, units_of}
use Rattle.unit_trait.specs.Calls.{UnitState, UnitCall, Due, Answered}
use Rattle.unit_trait.specs.Row.{row_of, moved}
use Rattle.unit_trait.specs.Keyboard.{keyboard_row}
use Rattle.unit_trait.proofs.Codes.{same-code}
use Rattle.unit_list.specs.Bus.{unit_at, row_or_nothing, row_at, after_at}
use Rattle.unit_files.specs.Acts.{Failure}
use Rattle.unit_files.specs.Attachments.{attachment_at}
use Rattle.expect_actions.specs.Sends.{Send, due_send, sends_left}
use Rattle.nova_machine.specs.Machine.{MachineState, console_place, place_of}
use Rattle.nova_machine.specs.Seen.{Seen, with_machine, attached_in}
use Rattle.nova_machine.specs.Parts.{Part, silent, behind_made}
use Rattle.nova_machine.specs.Turned.{Turned, goes_on, still}
use Rattle.nova_machine.specs.Wants.{answer_to, own_stop, prints, watch_after, files_after, typed_key, first_key, stop_by}
use Rattle.nova_machine.specs.OnLines.{Lined, lined, lined_by}
use Rattle.nova_machine.proofs.ConsoleSteps.{closed-none, key-off}
use Rattle.nova_machine.specs.Service.{around, asked, answered, hosted, own_service, line_service, service_by, lined_at, service, replied, done_for, key_at, sent_at, typed_at, want_at}
use Rattle.nova_machine.specs.Looks.{keyboard, keyless_wish, IsKeyed, IsUnheard, LooksEach, LooksChangeNothing}
use Rattle.nova_machine.proofs.EachService.{service-own}

-- the unit of that kind
abbrev pub keyboard_of : Kind → UnitName
keyboard_of k = record { kind = k; unit = 0 }

-- a keyboard keeps its registers where it is asked, and where no key comes
asked-keeps : (k : Kind) → IsKeyed k → (registers : List ℕ) → (row_of k registers (Due 0)).registers ≡ registers
unfolding row_of keyboard_row
asked-keeps Tti keyed registers = refl
asked-keeps Tti1 keyed registers = refl
asked-keeps k keyed registers = absurd keyed

answer-keeps : (k : Kind) → IsKeyed k → (registers : List ℕ) → (row_of k registers (Answered 0 NoKey)).registers ≡ registers
unfolding row_of keyboard_row
answer-keeps Tti keyed registers = refl
answer-keeps Tti1 keyed registers = refl
answer-keeps k keyed registers = absurd keyed

-- the console's keyboard wants a key, and that of the second teletype one of its line
abbrev pub key_of : Kind → Want
key_of Tti1 = want.LineKey 0
key_of k = want.Key

asked-wants : (k : Kind) → IsKeyed k → (registers : List ℕ) → (row_of k registers (Due 0)).want ≡ key_of k
unfolding row_of keyboard_row
asked-wants Tti keyed registers = refl
asked-wants Tti1 keyed registers = refl
asked-wants k keyed registers = absurd keyed

answer-goes : (k : Kind) → IsKeyed k → (registers : List ℕ) → (row_of k registers (Answered 0 NoKey)).stop ≡ Go
unfolding row_of keyboard_row
answer-goes Tti keyed registers = refl
answer-goes Tti1 keyed registers = refl
answer-goes k keyed registers = absurd keyed

kept : (k : Kind) (call : UnitCall) → ((registers : List ℕ) → (row_of k registers call).registers ≡ registers) → (u : UnitState) → u.kind ≡ k → moved u call ≡ u
kept k call keeps u is =
    let same : (row_of u.kind u.registers call).registers ≡ u.registers = subst (λ (x : Kind). (row_of x u.registers call).registers ≡ u.registers) (sym is) (keeps u.registers) in
    ap (λ (rs : List ℕ). record u { registers = rs }) same

units-kept : (k : Kind) (call : UnitCall) → ((registers : List ℕ) → (row_of k registers call).registers ≡ registers) → (us : List UnitState) → after_at (code_of k) call us ≡ us
units-kept k call keeps [] = refl
units-kept k call keeps (u ∷ us) = by (code_of u.kind == code_of k) (grind (arith, nat_tests)) (units-kept k call keeps us)
  where
    by : (b : Bool) → (b ≡ true → code_of u.kind ≡ code_of k) → after_at (code_of k) call us ≡ us → (if b then moved u call ∷ us else u ∷ after_at (code_of k) call us) ≡ u ∷ us
    by true same rest = ap (λ (x : UnitState). x ∷ us) (kept k call keeps u (same-code u.kind k (same refl)))
    by false other rest = ap (λ (xs : List UnitState). u ∷ xs) rest

-- the unit with a keyboard's code is that keyboard
found-kind : (k : Kind) (us : List UnitState) (u : UnitState) → unit_at (code_of k) us ≡ Some u → u.kind ≡ k
found-kind k [] u is = absurd (cc)
found-kind k (x ∷ us) u is = by (code_of x.kind == code_of k) (grind (arith, nat_tests)) (λ h. found-kind k us u h) is
  where
    by : (b : Bool) → (b ≡ true → code_of x.kind ≡ code_of k) → (unit_at (code_of k) us ≡ Some u → u.kind ≡ k)
        → (if b then Some x else unit_at (code_of k) us) ≡ Some u → u.kind ≡ k
    by true same rest is = let e : x ≡ u = grind arith in subst (λ (y : UnitState). y.kind ≡ k) e (same-code x.kind k (same refl))
    by false other rest is = rest is

of-some : {A : Type 0} (o : Option A) → is_some o ≡ true → (x : A) × (o ≡ Some x)
of-some None there = absurd (cc)
of-some (Some x) there = (x, refl)

pub wants-key : (k : Kind) → IsKeyed k → (us : List UnitState) → is_some (unit_at (code_of k) us) ≡ true → (row_at (code_of k) (Due 0) us).want ≡ key_of k
wants-key k keyed us there =
    let (u, is) = of-some (unit_at (code_of k) us) there in
    ap (λ (o : Option UnitState). (row_or_nothing (Due 0) o).want) is
    ∙ ap (λ (x : Kind). (row_of x u.registers (Due 0)).want) (found-kind k us u is) ∙ asked-wants k keyed u.registers

goes-on : (k : Kind) → IsKeyed k → (us : List UnitState) → is_some (unit_at (code_of k) us) ≡ true → (row_at (code_of k) (Answered 0 NoKey) us).stop ≡ Go
goes-on k keyed us there =
    let (u, is) = of-some (unit_at (code_of k) us) there in
    ap (λ (o : Option UnitState). (row_or_nothing (Answered 0 NoKey) o).stop) is
    ∙ ap (λ (x : Kind). (row_of x u.registers (Answered 0 NoKey)).stop) (found-kind k us u is) ∙ answer-goes k keyed u.registers

-- the second teletype's keyboard does not stop the machine where a key comes
key-answer-goes : (key : ℕ) (registers : List ℕ) → (row_of Tti1 registers (Answered 0 (Key key))).stop ≡ Go
unfolding row_of keyboard_row
key-answer-goes key registers = refl

pub key-goes : (key : ℕ) (us : List UnitState) → is_some (unit_at (code_of Tti1) us) ≡ true → stop_by (keyboard_of Tti1) (row_at (code_of Tti1) (Answered 0 (Key key)) us).stop ≡ None
key-goes key us there =
    let (u, is) = of-some (unit_at (code_of Tti1) us) there in
    ap (λ (o : Option UnitState). stop_by (keyboard_of Tti1) (row_or_nothing (Answered 0 (Key key)) o).stop) is
    ∙ ap (λ (x : Kind). stop_by (keyboard_of Tti1) (row_of x u.registers (Answered 0 (Key key))).stop) (found-kind Tti1 us u is)
    ∙ ap (stop_by (keyboard_of Tti1)) (key-answer-goes key u.registers)

-- a unit that wishes for an event is there
pub wish-there : (k : Kind) (us : List UnitState) (period : ℕ) → keyless_wish (keyboard_of k) us ≡ After period → is_some (unit_at (code_of k) us) ≡ true
wish-there k us period wish = by (unit_at (code_of k) us) wish
  where
    by : (o : Option UnitState) → (row_or_nothing (Answered 0 NoKey) o).queue ≡ After period → is_some o ≡ true
    by None is = absurd (cc)
    by (Some u) is = refl

first-none : (sent typed : Option ℕ) → first_key sent typed ≡ None → (sent ≡ None) × (typed ≡ None)
first-none None typed none = (refl, none)
first-none (Some b) typed none = absurd (cc)

pub none-sent : (now : ℕ) (sends : List Send) → due_send now sends ≡ None → sends_left now sends ≡ sends
none-sent now [] none = refl
none-sent now (s ∷ sends) none = by (nat_le s.0 now) none
  where
    by : (b : Bool) → (if b then Some s.1 else None) ≡ None → (if b then sends else s ∷ sends) ≡ s ∷ sends
    by true none = absurd (cc)
    by false none = refl

-- a look whose unit wants a key, as a function of what it wants, of the keys that are due, and of what it says to no key
look-of : (fault : Option Failure) (s : Seen) (w : Want) (sent typed : Option ℕ) → Part
look-of fault s w sent typed =
    let m = asked keyboard s.machine in
    let a = attachment_at (attached_in s.machine) keyboard in
    behind_made (prints w (with_machine s m))
    (replied keyboard (own_stop (first_key sent typed) s.watch.expects w) (answer_to fault a s.files (first_key sent typed) w)
    (record s {
      machine = done_for fault (typed_key sent typed) a s.files w m;
      watch = watch_after s.machine.time w s.watch;
      files = files_after fault a s.machine.processor.memory s.files w;
    }))

own-is : (fault : Option Failure) (s : Seen) → own_service fault keyboard s ≡ look-of fault s (want_at keyboard s.machine) (sent_at s) (typed_at s)
unfolding own_service hosted look-of
own-is fault s = refl

-- the console's keyboard wants nothing of a line, where the console line has no port
unlined : (s : Seen) → want_at keyboard s.machine ≡ want.Key → slice_get s.lines console_place ≡ Some (unconnected None) → lined_at keyboard s ≡ None
unlined s is closed = ap (λ (w : Want). lined w (around s)) is ∙ key-off s.machine.time (key_at s) s.watch.expects s.lines s.ahead (closed-none s.lines closed)

service-is : (fault : Option Failure) (s : Seen) → want_at keyboard s.machine ≡ want.Key → slice_get s.lines console_place ≡ Some (unconnected None)
    → service fault keyboard s ≡ look-of fault s (want_at keyboard s.machine) (sent_at s) (typed_at s)
service-is fault s is closed = service-own fault keyboard s (unlined s is closed) ∙ own-is fault s

-- what is left where nothing is sent or typed
unlooked : (fault : Option Failure) (s : Seen) → sends_left s.machine.time s.watch.sends ≡ s.watch.sends
    → look-of fault s want.Key None None ≡ still s (answered keyboard NoKey (asked keyboard s.machine))
unfolding look-of
unlooked fault s left = ap (λ (sends : List Send). still (record s { watch = record s.watch { sends = sends } }) (answered keyboard NoKey (asked keyboard s.machine))) left

pub asked-same : (k : Kind) → IsKeyed k → (m : MachineState) → asked (keyboard_of k) m ≡ m
unfolding asked
asked-same k keyed m = ap (λ (us : List UnitState). record m { units = us }) (units-kept k (Due 0) (asked-keeps k keyed) m.units)

answer-kept : (k : Kind) → IsKeyed k → (us : List UnitState) → after_at (code_of k) (Answered 0 NoKey) us ≡ us
answer-kept k keyed us = units-kept k (Answered 0 NoKey) (answer-keeps k keyed) us

pub answer-same : (unit : UnitName) (us : List UnitState) → IsKeyed unit.kind → unit.unit ≡ 0 → after_at (code_of unit.kind) (Answered unit.unit NoKey) us ≡ us
answer-same unit us keyed first = ap (λ (n : ℕ). after_at (code_of unit.kind) (Answered n NoKey) us) first ∙ answer-kept unit.kind keyed us

-- the machine behind a look
abbrev pub behind_look : Kind → MachineState → MachineState
behind_look k m = record m { events = wished (keyboard_of k) (keyless_wish (keyboard_of k) m.units) m.events }

pub answered-same : (k : Kind) → IsKeyed k → (m : MachineState) → is_some (unit_at (code_of k) m.units) ≡ true → answered (keyboard_of k) NoKey m ≡ goes_on (behind_look k m)
unfolding answered
answered-same k keyed m there =
    ap (λ (us : List UnitState). record { machine = record m { units = us; events = wished (keyboard_of k) (keyless_wish (keyboard_of k) m.units) m.events }; stop = stop_by (keyboard_of k) (row_at (code_of k) (Answered 0 NoKey) m.units).stop })
    (answer-kept k keyed m.units)
    ∙ ap (λ (stop : UnitStop). record { machine = behind_look k m; stop = stop_by (keyboard_of k) stop }) (goes-on k keyed m.units there)

pub looks-change-nothing : LooksChangeNothing
looks-change-nothing fault s there closed none =
    let m = s.machine in
    let both = first-none (sent_at s) (typed_at s) none in
    service-is fault s (wants-key Tti tt m.units there) closed
    ∙ ap (λ (w : Want). look-of fault s w (sent_at s) (typed_at s)) (wants-key Tti tt m.units there)
    ∙ ap (λ (k : Option ℕ). look-of fault s want.Key k (typed_at s)) both.0
    ∙ ap (λ (k : Option ℕ). look-of fault s want.Key None k) both.1
    ∙ unlooked fault s (none-sent m.time s.watch.sends both.0)
    ∙ ap (λ (x : MachineState). still s (answered keyboard NoKey x)) (asked-same Tti tt m)
    ∙ ap (λ (t : Turned). still s t) (answered-same Tti tt m there)

-- ---- the second teletype, whose line has no port

set-same : {A : Type 0} (xs : List A) (x : A) → slice_get xs (place_of 0) ≡ Some x → slice_set xs (place_of 0) x ≡ xs
set-same [] x is = absurd (cc)
set-same (w ∷ []) x is = absurd (cc)
set-same {A} (w ∷ y ∷ xs) x is = let same : y ≡ x = grind arith in ap (λ (z : A). w ∷ z ∷ xs) (sym same)

-- nothing is done on such a line
closed-lined : (s : Seen) → want_at (keyboard_of Tti1) s.machine ≡ want.LineKey 0 → slice_get s.lines (place_of 0) ≡ Some (unconnected None)
    → lined_at (keyboard_of Tti1) s ≡ Some (record { got = NoKey; sent = []; lines = s.lines; ahead = s.ahead; stop = None; expects = s.watch.expects })
unfolding lined polled accepted received sent
closed-lined s wants closed =
    ap (λ (w : Want). lined w (around s)) wants
    ∙ ap (λ (o : Option (LineOf Peer)). option_map (λ line. lined_by (place_of 0) (around s) (polled s.machine.time line s.ahead)) o) closed
    ∙ ap (λ (lines : List (LineOf Peer)). Some (record { got = NoKey; sent = []; lines = lines; ahead = s.ahead; stop = None; expects = s.watch.expects })) (set-same s.lines (unconnected None) closed)

service-line : (fault : Option Failure) (u : UnitName) (s : Seen) (l : Lined) → lined_at u s ≡ Some l → service fault u s ≡ line_service u l s
unfolding service
service-line fault u s l is = ap (λ (o : Option Lined). service_by o fault u s) is

closed-service : (s : Seen) → line_service (keyboard_of Tti1) (record { got = NoKey; sent = []; lines = s.lines; ahead = s.ahead; stop = None; expects = s.watch.expects }) s
    ≡ still s (answered (keyboard_of Tti1) NoKey (asked (keyboard_of Tti1) s.machine))
unfolding line_service
closed-service s = refl

second-look : (fault : Option Failure) (s : Seen) → is_some (unit_at (code_of Tti1) s.machine.units) ≡ true → slice_get s.lines (place_of 0) ≡ Some (unconnected None)
    → service fault (keyboard_of Tti1) s ≡ silent None (with_machine s (behind_look Tti1 s.machine))
second-look fault s there closed =
    let m = s.machine in
    service-line fault (keyboard_of Tti1) s _ (closed-lined s (wants-key Tti1 tt m.units there) closed)
    ∙ closed-service s
    ∙ ap (λ (x : MachineState). still s (answered (keyboard_of Tti1) NoKey x)) (asked-same Tti1 tt m)
    ∙ ap (λ (t : Turned). still s t) (answered-same Tti1 tt m there)

-- ---- a look of either

-- the machine behind a look that asks for its event again
abbrev pub asked_for : UnitName → ℕ → MachineState → MachineState
asked_for u period m = record m { events = activated u period m.events }

kind-look : (fault : Option Failure) (period : ℕ) (s : Seen) (k : Kind) → IsUnheard k s.lines → keyless_wish (keyboard_of k) s.machine.units ≡ After period → key_at s ≡ None
    → service fault (keyboard_of k) s ≡ silent None (with_machine s (asked_for (keyboard_of k) period s.machine))
kind-look fault period s Tti unheard wish none =
    looks-change-nothing fault s (wish-there Tti s.machine.units period wish) unheard none
    ∙ ap (λ (q : Queue). silent None (with_machine s (record s.machine { events = wished keyboard q s.machine.events }))) wish
kind-look fault period s Tti1 unheard wish none =
    second-look fault s (wish-there Tti1 s.machine.units period wish) unheard
    ∙ ap (λ (q : Queue). silent None (with_machine s (record s.machine { events = wished (keyboard_of Tti1) q s.machine.events }))) wish
kind-look fault period s k unheard wish none = absurd unheard

-- a look asks for its event again, and changes nothing else
pub each-look : (fault : Option Failure) (period : ℕ) (s : Seen) (u : UnitName) → LooksEach Peer period s.machine.units s.lines u → key_at s ≡ None
    → service fault u s ≡ silent None (with_machine s (asked_for u period s.machine))
each-look fault period s u looks none = by u.unit looks.number looks.wish
  where
    by : (n : ℕ) → n ≡ 0 → keyless_wish (record { kind = u.kind; unit = n }) s.machine.units ≡ After period
        → service fault (record { kind = u.kind; unit = n }) s ≡ silent None (with_machine s (asked_for (record { kind = u.kind; unit = n }) period s.machine))
    by n first wish =
        let there : keyless_wish (keyboard_of u.kind) s.machine.units ≡ After period = subst (λ (m : ℕ). keyless_wish (record { kind = u.kind; unit = m }) s.machine.units ≡ After period) first wish in
        subst (λ (m : ℕ). service fault (record { kind = u.kind; unit = m }) s ≡ silent None (with_machine s (asked_for (record { kind = u.kind; unit = m }) period s.machine))) (sym first)
        (kind-look fault period s u.kind looks.unheard there none)

pub keyed-low : (unit : UnitName) → IsKeyed unit.kind → unit.unit ≡ 0 → unit.unit < units_of unit.kind
keyed-low unit keyed first = subst (λ (n : ℕ). n < units_of unit.kind) (sym first) (by unit.kind keyed)
  where
    by : (k : Kind) → IsKeyed k → 0 < units_of k
    by Tti keyed = omega arith
    by Tti1 keyed = omega arith
    by k keyed = absurd keyed

pub ruleset answers = (answer-same, keyed-low)
