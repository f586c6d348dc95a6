-- Units and events of a saved machine that are put into one, one behind another.
use Rattle.std.proofs.Common.{◌≡◌, ◌⊎◌, ◌&&◌, append-nil, arith, ℕ, ◌+◌, ◌<◌, ◌≤◌, ◌==◌, Bool, true, false, not, IsTrue, List, [], ◌∷◌, ◌++◌, length, map, take, drop, get_or, Option, Some, None, is_some, inl, inr, refl, sym, ap, subst, ◌∙◌, if◌then◌else◌}
use Rattle.std.specs.Prelude.{nat_lt, slice_get, option_map}
use Rattle.std.specs.List.{AllByRecursion, IsDistinct, list_any}
use Rattle.std.proofs.lemmas.Bool.{false≢true, and_parts, eq-eqb, ltb-true, lt-ltb}
use Rattle.std.proofs.lemmas.Option.{slice_get-map}
use Rattle.std.proofs.lemmas.List.{drop_more, drop_all, length-map}
use Rattle.unit_trait.specs.declared.kind.Kind.{Kind}
use Rattle.unit_trait.specs.declared.kind.Kind.TheVariants.{Qty}
use Rattle.unit_trait.specs.Kinds.{all_kinds, units_of, code_of}
use Rattle.unit_trait.specs.Registers.{registers}
use Rattle.unit_trait.specs.Calls.{UnitState}
use Rattle.unit_trait.specs.Row.{InRange}
use Rattle.unit_list.specs.Bus.{AllFit, unit_at, kinds_of}
use Rattle.unit_list.specs.Whole.{with_registers_in, units_set, same_kind}
use Rattle.unit_list.proofs.Wholes.{units-whole}
use Rattle.event_queue.specs.EventList.{Event, activated}
use Rattle.event_queue.specs.Agenda.{asked_in_order}
use Rattle.event_queue.proofs.Agendas.{agenda-stands}
use Rattle.nova_machine.specs.Core.{IsAmong}
use Rattle.nova_machine.specs.Machine.{MachineState, has_multiplexer, console_place, place_of as line_place}
use Rattle.terminal_ports.specs.Rows.{row_from, with_ports}
use Rattle.terminal_ports.proofs.Rows.{seen-ports}
use Rattle.nova_machine.specs.Seen.{unnumbered, erased, Beside}
use Rattle.unit_files.specs.Attachments.{Held, attachments_of, no_attachments}
use Rattle.saved_session.specs.declared.saved.SavedUnit.{SavedUnit}
use Rattle.saved_session.specs.declared.saved.SavedEvent.{SavedEvent}
use Rattle.saved_session.specs.declared.saved.SavedPorts.{SavedPorts}
use Rattle.saved_session.specs.Parts.{unit_in, UnitPart, MachinePart, State}
use Rattle.state_transfer.specs.Putting.{with_machine_of, IsSeenAs, IsPutBack}
use Rattle.state_transfer.specs.Listening.{AreClosed}
use Rattle.state_transfer.specs.Ports.{how_many, is_line, multiplexer_lines, assigned}
use Rattle.host_lines.specs.Traffic.{Peer}
use Rattle.host_lines.specs.Told.{ahead_of}
use Rattle.host_lines.specs.State.{LineState}
use Rattle.telnet_lines.specs.Line.{LineOf, unconnected}
use Rattle.telnet_lines.specs.Joined.{seen_line}
use Rattle.saved_files.specs.Putting.{with_all}
use Rattle.state_transfer.specs.PutBack.{unit_from, lack_multiplexer, first_multiplexer, units_from, event_from, held_from, machine_from, lines_from}
use Rattle.saved_session.specs.SavedWatch.{watch_from}
use Rattle.saved_session.specs.Ranges.{kind_at, standard_kinds, most_kinds, is_unit_count, is_position, is_event_of}
use Rattle.saved_session.specs.Order.{next_number, with_event}
use Rattle.state_transfer.specs.SavedValid.{AreStandard}
use Rattle.saved_session.specs.Valid.{Follow, IsUnit, IsEvent}
use Rattle.state_transfer.proofs.TakingLemmas.{ten-lack, eleven-have, ten-many, eleven-many}
use Rattle.state_transfer.proofs.PutBackMachineLemmas.{are-ten, are-eleven, ten-or-eleven, ten-more, among-standard, position-low, events-sound}

-- ---- all units

-- the units that these say
abbrev pub units_said : List SavedUnit → List UnitState
units_said us = map unit_from (map unit_in us)

-- each unit can have its registers
pub each-fits : (us : List SavedUnit) → AllFit (units_said us)
    → AllByRecursion (λ (u : SavedUnit). InRange (registers (kind_at u.position)) u.registers.items) us
each-fits [] fit = tt
each-fits (u ∷ us) fit = (fit.0, each-fits us fit.1)

pub parts-long : (us : List SavedUnit) → length (map unit_in us) ≡ length us
parts-long us = length-map us unit_in

pub count-of-parts : (us : List SavedUnit) → is_unit_count (length us) ≡ true → is_unit_count (length (map unit_in us)) ≡ true
count-of-parts us count = ap is_unit_count (parts-long us) ∙ count

ten-distinct : IsDistinct same_kind (take standard_kinds all_kinds)
unfolding IsDistinct
ten-distinct = ((refl, (refl, (refl, (refl, (refl, (refl, (refl, (refl, (refl, tt))))))))), ((refl, (refl, (refl, (refl, (refl, (refl, (refl, (refl, tt)))))))), ((refl, (refl, (refl, (refl, (refl, (refl, (refl, tt))))))), ((refl, (refl, (refl, (refl, (refl, (refl, tt)))))), ((refl, (refl, (refl, (refl, (refl, tt))))), ((refl, (refl, (refl, (refl, tt)))), ((refl, (refl, (refl, tt))), ((refl, (refl, tt)), ((refl, tt), (tt, tt))))))))))

eleven-distinct : IsDistinct same_kind all_kinds
unfolding IsDistinct
eleven-distinct = ((refl, (refl, (refl, (refl, (refl, (refl, (refl, (refl, (refl, (refl, tt)))))))))), ((refl, (refl, (refl, (refl, (refl, (refl, (refl, (refl, (refl, tt))))))))), ((refl, (refl, (refl, (refl, (refl, (refl, (refl, (refl, tt)))))))), ((refl, (refl, (refl, (refl, (refl, (refl, (refl, tt))))))), ((refl, (refl, (refl, (refl, (refl, (refl, tt)))))), ((refl, (refl, (refl, (refl, (refl, tt))))), ((refl, (refl, (refl, (refl, tt)))), ((refl, (refl, (refl, tt))), ((refl, (refl, tt)), ((refl, tt), (tt, tt)))))))))))

standard-distinct : (units : List UnitState) → AreStandard units → IsDistinct same_kind (kinds_of units)
standard-distinct units (inl ten) = subst (IsDistinct same_kind) (sym ten) ten-distinct
standard-distinct units (inr eleven) = subst (IsDistinct same_kind) (sym eleven) eleven-distinct

-- the units that are put are of the kinds that are there
module _ (units : List UnitState) (us : List UnitPart) (count : is_unit_count (length us) ≡ true)
    (follow : Follow IsUnit next_number 0 us) (found : lack_multiplexer units (map unit_from us) ≡ false) where
  missing-told : (b : Bool) → lack_multiplexer (map unit_from us) units ≡ b
      → units_from us units ≡ (map unit_from us) ++ (if b then first_multiplexer ∷ [] else [])
  missing-told b same = ap (λ (x : Bool). (map unit_from us) ++ (if x then first_multiplexer ∷ [] else [])) same

  same-kinds : AreStandard units → (length us ≡ standard_kinds) ⊎ (length us ≡ most_kinds)
      → kinds_of (units_from us units) ≡ kinds_of units
  same-kinds (inl ten) (inl few) =
      let lack : lack_multiplexer (map unit_from us) units ≡ false =
      ap (λ (b : Bool). b && not (has_multiplexer (map unit_from us))) (ten-lack units ten) in
      ap kinds_of (missing-told false lack ∙ append-nil (map unit_from us)) ∙ are-ten us few follow ∙ sym ten
  same-kinds (inl ten) (inr many) =
      let has = eleven-have (map unit_from us) (are-eleven us many follow) in
      let lack : lack_multiplexer units (map unit_from us) ≡ true =
      (λ i. has i && not (ten-lack units ten i)) in
      absurd (false≢true (sym found ∙ lack))
  same-kinds (inr eleven) (inl few) =
      let kinds = are-ten us few follow in
      let lack : lack_multiplexer (map unit_from us) units ≡ true =
      (λ i. eleven-have units eleven i && not (ten-lack (map unit_from us) kinds i)) in
      ap kinds_of (missing-told true lack) ∙ ten-more (map unit_from us) kinds ∙ sym eleven
  same-kinds (inr eleven) (inr many) =
      let kinds = are-eleven us many follow in
      let lack : lack_multiplexer (map unit_from us) units ≡ false =
      (λ i. eleven-have units eleven i && not (eleven-have (map unit_from us) kinds i)) in
      ap kinds_of (missing-told false lack ∙ append-nil (map unit_from us)) ∙ kinds ∙ sym eleven

  pub units-stand : AreStandard units → units_set units (units_from us units) ≡ units_from us units
  units-stand standard =
      units-whole.set units (units_from us units) (standard-distinct units standard)
      (same-kinds standard (ten-or-eleven (length us) count))

set-both : (units us vs : List UnitState) → units_set units (us ++ vs) ≡ units_set (units_set units us) vs
set-both units [] vs = refl
set-both units (u ∷ us) vs = set-both (with_registers_in u.kind u.registers units) us vs

first-kind : first_multiplexer.kind ≡ Qty
unfolding first_multiplexer
first-kind = refl

-- all saved units were put, and the multiplexer, where it was not among them
module _ (units : List UnitState) (us : List UnitPart) (m : List UnitState) (b : Bool)
    (told : lack_multiplexer (map unit_from us) units ≡ b)
    (so_far : m ≡ units_set units (map unit_from us))
    (stand : units_set units (units_from us units) ≡ units_from us units) where
  pub first-put : b ≡ true → (n : List UnitState) → n ≡ with_registers_in Qty first_multiplexer.registers m
      → n ≡ units_from us units
  first-put lacks n becomes =
      let whole : units_from us units ≡ map unit_from us ++ first_multiplexer ∷ [] =
      ap (λ (x : Bool). map unit_from us ++ (if x then first_multiplexer ∷ [] else [])) (told ∙ lacks) in
      becomes ∙ ap (with_registers_in Qty first_multiplexer.registers) so_far
      ∙ ap (λ (k : Kind). with_registers_in k first_multiplexer.registers (units_set units (map unit_from us))) (sym first-kind)
      ∙ sym (set-both units (map unit_from us) (first_multiplexer ∷ []))
      ∙ sym (ap (units_set units) whole) ∙ stand

  pub none-put : b ≡ false → m ≡ units_from us units
  none-put lacks =
      let whole : units_from us units ≡ map unit_from us =
      ap (λ (x : Bool). map unit_from us ++ (if x then first_multiplexer ∷ [] else [])) (told ∙ lacks)
      ∙ append-nil (map unit_from us) in
      so_far ∙ sym (ap (units_set units) whole) ∙ stand

-- one unit more was put
pub unit-more : (us : List SavedUnit) (i : ℕ) (u : SavedUnit) (m n all : List UnitState) → i < length us
    → u ≡ get_or us i u → n ≡ with_registers_in (kind_at u.position) u.registers.items m
    → units_set m (units_said (drop i us)) ≡ all → units_set n (units_said (drop (i + 1) us)) ≡ all
unit-more us i u m n all within is becomes so_far =
    let here : drop i us ≡ u ∷ drop (i + 1) us =
    drop_more us i u within ∙ ap (λ (x : SavedUnit). x ∷ drop (i + 1) us) (sym is) in
    ap (λ (x : List UnitState). units_set x (units_said (drop (i + 1) us))) becomes
    ∙ sym (ap (λ (l : List SavedUnit). units_set m (units_said l)) here) ∙ so_far

-- all were put
pub units-end : (us : List SavedUnit) (i : ℕ) (m all : List UnitState) → length us ≤ i
    → units_set m (units_said (drop i us)) ≡ all → m ≡ all
units-end us i m all most so_far =
    sym (ap (λ (l : List SavedUnit). units_set m (units_said l)) (drop_all i us most)) ∙ so_far

-- the units alone have changed
pub units-alone : (old m n : MachineState) (units : List UnitState) → n ≡ record m { units = units }
    → m ≡ record old { units = m.units } → n ≡ record old { units = n.units }
units-alone old m n units becomes was =
    becomes ∙ ap (λ (x : MachineState). record x { units = units }) was
    ∙ sym (ap (λ (x : MachineState). record old { units = x.units }) becomes)

-- ---- the events

abbrev pub events_said : List SavedEvent → List Event
events_said es = map event_from es

pub number-low : (count : ℕ) (front : List SavedEvent) (e : SavedEvent) → IsEvent count front e
    → e.unit < units_of (kind_at e.position)
number-low count front e is =
    ltb-true e.unit (units_of (kind_at e.position))
    (and_parts (nat_lt e.unit (units_of (kind_at e.position)))
    (not (list_any (is_event_of e.position e.unit) front)) is.unit).0

pub events-stand : (count : ℕ) (es : List SavedEvent) → count ≤ most_kinds → Follow (IsEvent count) with_event [] es
    → asked_in_order [] (events_said es) ≡ events_said es
events-stand count es few follow = agenda-stands (events_said es) (events-sound count [] es few follow)

-- what is asked of an event before it is put
pub record CanWait (count : ℕ) (e : SavedEvent) : Type 0 where
  pub number : e.unit < units_of (kind_at e.position)
  pub position : is_position count e.position ≡ true

pub each-waits : (count : ℕ) (front es : List SavedEvent) → Follow (IsEvent count) with_event front es
    → AllByRecursion (CanWait count) es
each-waits count front [] follow = tt
each-waits count front (e ∷ es) follow = (
  record { number = number-low count front e follow.0; position = follow.0.position },
  each-waits count (front ++ e ∷ []) es follow.1,
)

-- events of some units are events of more
pub of-more : (a b : ℕ) (front es : List SavedEvent) → a ≤ b → Follow (IsEvent a) with_event front es
    → Follow (IsEvent b) with_event front es
of-more a b front [] more follow = tt
of-more a b front (e ∷ es) more follow =
    let low = position-low a e.position follow.0.position in (
      record {
        position = lt-ltb e.position b (omega (arith, low, more));
        unit = follow.0.unit;
        remaining = follow.0.remaining;
        last = follow.0.last;
      },
      of-more a b (front ++ e ∷ []) es more follow.1,
    )

-- a standard machine has eleven units at the most
pub few-units : (units : List UnitState) → AreStandard units → length units ≤ most_kinds
few-units units (inl ten) = let many = ten-many units ten in omega (arith, many)
few-units units (inr eleven) = let many = eleven-many units eleven in omega (arith, many)

or-later : (b : Bool) (u : UnitState) (o : Option UnitState) → is_some o ≡ true
    → is_some (if b then Some u else o) ≡ true
or-later true u o some = refl
or-later false u o some = some

there : (k : Kind) (us : List UnitState) → IsAmong k (kinds_of us) → is_some (unit_at (code_of k) us) ≡ true
there k [] among = absurd among
there k (u ∷ us) (inl same) =
    ap (λ (b : Bool). is_some (if b then Some u else unit_at (code_of k) us))
    (eq-eqb (code_of u.kind) (code_of k) (ap code_of same))
there k (u ∷ us) (inr later) = or-later (code_of u.kind == code_of k) u (unit_at (code_of k) us) (there k us later)

pub unit-there : (units : List UnitState) (p : ℕ) → AreStandard units → is_position (length units) p ≡ true
    → IsTrue (is_some (unit_at (code_of (kind_at p)) units))
unit-there units p standard is =
    there (kind_at p) units (among-standard units p standard (position-low (length units) p is))

-- one event more was put
pub event-more : (es : List SavedEvent) (i : ℕ) (e : SavedEvent) (m n all : List Event) → i < length es
    → n ≡ activated (event_from (get_or es i e)).unit (get_or es i e).remaining m
    → asked_in_order m (events_said (drop i es)) ≡ all → asked_in_order n (events_said (drop (i + 1) es)) ≡ all
event-more es i e m n all within becomes so_far =
    ap (λ (x : List Event). asked_in_order x (events_said (drop (i + 1) es))) becomes
    ∙ sym (ap (λ (l : List SavedEvent). asked_in_order m (events_said l)) (drop_more es i e within)) ∙ so_far

-- all were put
pub events-end : (es : List SavedEvent) (i : ℕ) (m all : List Event) → length es ≤ i
    → asked_in_order m (events_said (drop i es)) ≡ all → m ≡ all
events-end es i m all most so_far =
    sym (ap (λ (l : List SavedEvent). asked_in_order m (events_said l)) (drop_all i es most)) ∙ so_far

-- the events alone have changed
pub events-alone : (old m n : MachineState) (events : List Event) → n ≡ record m { events = events }
    → m ≡ record old { events = m.events } → n ≡ record old { events = n.events }
events-alone old m n events becomes was =
    becomes ∙ ap (λ (x : MachineState). record x { events = events }) was
    ∙ sym (ap (λ (x : MachineState). record old { events = x.events }) becomes)

-- ---- the machine

unnumbered-held : (slots : List (Option Held)) → map unnumbered slots ≡ map held_from (attachments_of slots)
unnumbered-held [] = refl
unnumbered-held (None ∷ slots) = ap (λ (l : List (Option Held)). None ∷ l) (unnumbered-held slots)
unnumbered-held (Some h ∷ slots) =
    ap (λ (l : List (Option Held)). Some (record { file = 0; attachment = h.attachment }) ∷ l) (unnumbered-held slots)

pub seen-as : (old new : MachineState) (p : MachinePart) → new ≡ with_machine_of old p → IsSeenAs old new p
unfolding machine_from
seen-as old new p becomes attached files here copy =
    let slots : map unnumbered old.slots ≡ map held_from attached =
    unnumbered-held old.slots ∙ ap (map held_from) here in
    ap erased becomes ∙ (λ i. record (with_machine_of old p) { slots = slots i; disk = copy i; aside = []; lines = [] })

-- ---- the session

closed-lines : (old new : LineState) (lines : List (LineOf ℕ)) → AreClosed lines
    → map (seen_line new) lines ≡ map (λ (line : LineOf Peer). unconnected None) (map (seen_line old) lines)
closed-lines old new [] closed = refl
closed-lines old new (line ∷ lines) closed =
    λ i. ap (seen_line new) closed.0 i ∷ closed-lines old new lines closed.1 i

-- a line is there where it is seen
line-there : (s : LineState) (number : ℕ) (lines : List (LineOf ℕ))
    → is_line number (map (seen_line s) lines) ≡ is_line number lines
line-there s number lines =
    ap is_some (slice_get-map (seen_line s) lines (line_place number)) ∙ some-mapped (slice_get lines (line_place number))
  where
    some-mapped : (o : Option (LineOf ℕ)) → is_some (option_map (seen_line s) o) ≡ is_some o
    some-mapped None = refl
    some-mapped (Some line) = refl

same-assigned : (p : SavedPorts) (s : LineState) (lines : List (LineOf ℕ)) → assigned p lines ≡ assigned p (map (seen_line s) lines)
unfolding assigned
same-assigned p s lines = λ i.
    row_from (how_many p.tti1 1 (sym (line-there s 0 lines) i)) (line_place 0) p.tti1
    ++ (row_from (how_many p.qty multiplexer_lines (sym (line-there s multiplexer_lines lines) i)) (line_place 1) p.qty
    ++ row_from (how_many p.console 1 true) console_place p.console)

port-lines : (p : SavedPorts) (old new : LineState) (lines : List (LineOf ℕ)) → AreClosed lines
    → map (seen_line new) (with_ports (assigned p lines) lines) ≡ lines_from p (map (seen_line old) lines)
port-lines p old new lines closed =
    seen-ports new (assigned p lines) lines
    ∙ (λ i. with_ports (same-assigned p old lines i) (closed-lines old new lines closed i))

pub is-put-back : (s : State) (before after : Beside) (old new : MachineState) → after.files ≡ before.files
    → erased new ≡ machine_from s.machine old.units (with_all no_attachments s.files) before.files
    → new.lines ≡ with_ports (assigned s.ports old.lines) old.lines → after.watch ≡ watch_from s.watch → IsPutBack s before old after new
is-put-back s before after old new files machine lines watch closed keys whole = λ i. record {
  machine = machine i;
  watch = watch i;
  keys = sym keys i;
  files = files i;
  lines = (ap (λ (l : List (LineOf ℕ)). map (seen_line after.lines) l) lines
      ∙ port-lines s.ports before.lines after.lines old.lines closed) i;
  ahead = ahead_of after.lines.told whole;
}
