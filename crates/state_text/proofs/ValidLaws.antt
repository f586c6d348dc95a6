-- What the rows ask of a saved session is that it is valid, in other words: there, and back.
use Rattle.std.proofs.Common.{◌≡◌, ◌⊎◌, ℕ, ◌^◌, ◌<◌, ◌≤◌, Bool, true, false, List, [], length, refl, sym, ap, subst, arith, eq-eqb, inl, inr}
use Rattle.std.specs.Prelude.{nat_le, nat_lt, not, ◌&&◌, ◌||◌, ◌==◌}
use Rattle.std.proofs.lemmas.Bool.{eqb-true, and_parts, ltb-true, leb-true}
use Rattle.unit_trait.specs.declared.kind.Kind.{Kind}
use Rattle.unit_trait.specs.declared.kind.Kind.TheVariants.{Dsk, Mta, Lpt, Ptr, Ptp, Clk, Tti, Tto, Tti1, Tto1, Qty}
use Rattle.unit_trait.specs.Kinds.{units_of}
use Rattle.saved_session.proofs.RegisterCounts.{few_registers}
use Rattle.saved_session.specs.declared.saved.SavedCpu.{SavedCpu}
use Rattle.saved_session.specs.declared.saved.SavedEvent.{SavedEvent}
use Rattle.saved_session.specs.declared.saved.SavedPorts.{SavedPorts}
use Rattle.saved_session.specs.declared.saved.SavedSend.{SavedSend}
use Rattle.saved_session.specs.Parts.{UnitPart, FilePart, BreakPart, ExpectPart, MachinePart, WatchPart, State}
use Rattle.saved_session.specs.Ranges.{is_flag, is_size, is_address, is_time, is_key_count, kind_at, is_position, register_count, has_multiplexer, most_events, is_free, is_read_only_of, only_writes, is_name_length, longest_file_of, is_file_length, is_among, is_multiplexer_port, is_console_port, most_breaks, longest_actions, most_expects, is_text_length, longest_text, most_sends, last_send}
use Rattle.saved_session.specs.Order.{next_number, with_event, behind_file, behind_break, behind_send}
use Rattle.saved_session.specs.Valid.{Follow as Follows, AreWords, IsCpu, CanHold, IsUnit, IsEvent, IsFile, ArePorts, AreActions, IsBreak, IsExpect, IsSend, IsMachine, IsWatch, Valid}
use Rattle.byte_layouts.specs.Readers.{with_last}
use Rattle.byte_layouts.specs.Layout.{One, Two, Number, Listed, Follow, Has}
use Rattle.state_text.specs.Rows.{this_version, unless, word_layout, autobit_row, cpu_layout, register_layout, registers_layout, unit_layout, is_count_in, units_layout, event_layout, few_events, place_after, place_behind, file_layout, ports_layout, actions_layout, address_after, address_behind, break_layout, expect_layout, time_after, time_behind, send_layout, tables_in, table_rows, memory_in, memory_rows, version_rows, state_fields, state_layout}
use Rattle.state_text.specs.Text.{IsOfFirst}
use Rattle.state_text.proofs.VersionLaws.{either_version, count_to, count_first, first_count, few_units_there}
use Rattle.state_text.proofs.Lists.{follows_to, follows_from, all_to, all_from, numbers_step, last_is}

-- ---- the processor

words_to : (words : List ℕ) → Follow (λ front. Has word_layout) with_last [] words → AreWords words
words_to words h = all_to (λ front. Has word_layout) (λ w. w < 2 ^ 16) (λ front x is. is.0) [] words h

words_from : (words : List ℕ) → AreWords words → Follow (λ front. Has word_layout) with_last [] words
words_from words h = all_from (λ front. Has word_layout) (λ w. w < 2 ^ 16) (λ front x lt. (lt, refl)) [] words h

small_size : (n : ℕ) → is_size n ≡ true → n < 2 ^ 8
small_size n h = grind arith

small_flag : (n : ℕ) → is_flag n ≡ true → n < 2 ^ 8
small_flag n h = grind arith

small_address : (n : ℕ) → is_address n ≡ true → n < 2 ^ 16
small_address n h = grind arith

small_time : (n : ℕ) → is_time n ≡ true → n < 2 ^ 64
small_time n h = grind arith

small_key_count : (n : ℕ) → is_key_count n ≡ true → n < 2 ^ 64
small_key_count n h = grind arith

autobit_to : (version n : ℕ) → Has (autobit_row version) n → is_flag n ≡ true
autobit_to version n h = by_test (version == 1) h
  where
    by_test : (first : Bool) → Has (unless first 0 (Number One is_flag)) n → is_flag n ≡ true
    by_test true is = ap is_flag is
    by_test false h = h.1

pub cpu_to : (version : ℕ) (c : SavedCpu) → Has (cpu_layout version) c → IsCpu c
unfolding cpu_layout
cpu_to version c h = record {
  size_k = h.0.0.1;
  few = h.0.1.0.0;
  acs = words_to c.acs h.0.1.0.1;
  carry = h.0.1.1.0.1;
  pc = h.0.1.1.1.1;
  on = h.1.0.0.1;
  hold = h.1.0.1.0.1;
  mask = h.1.0.1.1.0.0;
  sr = h.1.0.1.1.1.0.0;
  stop_dev = h.1.0.1.1.1.1.1;
  autobit = autobit_to version c.autobit h.1.1.0;
  time = h.1.1.1.0.1;
  keys_taken = h.1.1.1.1.1;
}

pub cpu_from : (version : ℕ) (c : SavedCpu) → Has (autobit_row version) c.autobit → IsCpu c → Has (cpu_layout version) c
unfolding cpu_layout
cpu_from version c autobit is = (
  ((small_size c.size_k is.size_k, is.size_k), ((is.few, words_from c.acs is.acs), ((small_flag c.carry is.carry, is.carry), (small_address c.pc is.pc, is.pc)))),
  (
    ((small_flag c.on is.on, is.on), ((small_flag c.hold is.hold, is.hold), ((is.mask, refl), ((is.sr, refl), (small_flag c.stop_dev is.stop_dev, is.stop_dev))))),
    (autobit, ((small_time c.time is.time, is.time), (small_key_count c.keys_taken is.keys_taken, is.keys_taken))),
  ),
)

-- ---- bytes that are sent

small_send : (least n : ℕ) → (nat_le least n && nat_le n last_send) ≡ true → n < 2 ^ 64
small_send least n h = grind arith

send_to : (before : List SavedSend) (s : SavedSend) → Has (send_layout before) s → IsSend (time_behind before) s
send_to before s h = record { time = h.0.1; byte = h.1.0 }

send_from : (before : List SavedSend) (s : SavedSend) → IsSend (time_behind before) s → Has (send_layout before) s
send_from before s is = ((small_send (time_behind before) s.time is.time, is.time), (is.byte, refl))

time_step : (front : List SavedSend) (s : SavedSend) → time_behind (with_last front s) ≡ behind_send (time_behind front) s
time_step front s = ap time_after (last_is front s)

-- ---- units

unit_to : (before : List UnitPart) (u : UnitPart) → Has (unit_layout before) u → IsUnit (length before) u
unfolding registers_layout
unit_to before u h = record {
  byte = h.0.0;
  position = eqb-true u.position (length before) h.0.1;
  all = eqb-true (length u.registers) (register_count (kind_at u.position)) h.1.0.1;
  registers = follows_to (λ front. Has (register_layout (kind_at u.position) front)) (CanHold (kind_at u.position)) next_number (λ (front : List ℕ). length front) (λ front x. numbers_step front x) (λ front x is. is) [] u.registers h.1.1;
}

pub below : (n m : ℕ) → n ≡ m → m < 2 ^ 8 → n < 2 ^ 8
below n m e lt = omega (arith, e, lt)

unit_from : (before : List UnitPart) (u : UnitPart) → IsUnit (length before) u → Has (unit_layout before) u
unfolding registers_layout
unit_from before u is = (
  (is.byte, eq-eqb u.position (length before) is.position),
  (
    (below (length u.registers) (register_count (kind_at u.position)) is.all (few_registers (kind_at u.position)), eq-eqb (length u.registers) (register_count (kind_at u.position)) is.all),
    follows_from (λ front. Has (register_layout (kind_at u.position) front)) (CanHold (kind_at u.position)) next_number (λ (front : List ℕ). length front) (λ front x. numbers_step front x) (λ front x holds. holds) [] u.registers is.registers,
  ),
)

-- ---- events

small_position : (count n : ℕ) → count < 2 ^ 8 → is_position count n ≡ true → n < 2 ^ 8
small_position count n few h = let lt = ltb-true n count h in omega (arith, few, lt)

few_units : (kind : Kind) → units_of kind ≤ 64
few_units Dsk = omega arith
few_units Mta = omega arith
few_units Lpt = omega arith
few_units Ptr = omega arith
few_units Ptp = omega arith
few_units Clk = omega arith
few_units Tti = omega arith
few_units Tto = omega arith
few_units Tti1 = omega arith
few_units Tto1 = omega arith
few_units Qty = omega arith

pub small_unit : (kind : Kind) (unit : ℕ) (other : Bool) → (nat_lt unit (units_of kind) && other) ≡ true → unit < 2 ^ 8
small_unit kind unit other h = under unit (units_of kind) (ltb-true unit (units_of kind) (and_parts (nat_lt unit (units_of kind)) other h).0) (few_units kind)
  where
    under : (n m : ℕ) → n < m → m ≤ 64 → n < 2 ^ 8
    under n m lt le = omega (arith, lt, le)

event_to : (count : ℕ) (before : List SavedEvent) (e : SavedEvent) → Has (event_layout count before) e → IsEvent count before e
event_to count before e h = record { position = h.0.1; unit = h.1.0.1; remaining = h.1.1.0; last = h.1.1.1 }

event_from : (count : ℕ) → count < 2 ^ 8 → (before : List SavedEvent) (e : SavedEvent) → IsEvent count before e → Has (event_layout count before) e
event_from count few before e is =
    ((small_position count e.position few is.position, is.position), ((small_unit (kind_at e.position) e.unit (is_free before e.position e.unit) is.unit, is.unit), (is.remaining, is.last)))

-- ---- files

small_read_only : (kind : Kind) (n : ℕ) → is_read_only_of kind n ≡ true → n < 2 ^ 8
small_read_only kind n h = under n (leb-true n 1 (and_parts (is_flag n) (n == 0 || not (only_writes kind)) h).0)
  where
    under : (n : ℕ) → n ≤ 1 → n < 2 ^ 8
    under n le = omega (arith, le)

pub small_name : (n : ℕ) → is_name_length n ≡ true → n < 2 ^ 16
small_name n h = grind arith

longest : (kind : Kind) → longest_file_of kind ≤ 67108864
unfolding longest_file_of
longest Dsk = omega arith
longest Mta = omega arith
longest Lpt = omega arith
longest Ptr = omega arith
longest Ptp = omega arith
longest Clk = omega arith
longest Tti = omega arith
longest Tto = omega arith
longest Tti1 = omega arith
longest Tto1 = omega arith
longest Qty = omega arith

small_length : (kind : Kind) (n : ℕ) → is_file_length kind n ≡ true → n < 2 ^ 64
small_length kind n h = under n (longest_file_of kind) (leb-true n (longest_file_of kind) h) (longest kind)
  where
    under : (n m : ℕ) → n ≤ m → m ≤ 67108864 → n < 2 ^ 64
    under n m le most = omega (arith, le, most)

file_to : (before : List FilePart) (f : FilePart) → Has (file_layout before) f → IsFile (place_behind before) f
file_to before f h = record {
  byte = h.0.0;
  position = h.0.1;
  unit = h.1.0.1;
  read_only = h.1.1.0.1;
  long = h.1.1.1.0.0.1;
  name = h.1.1.1.0.1.0;
  utf8 = h.1.1.1.0.1.1;
  size = h.1.1.1.1.0.1;
  digest = h.1.1.1.1.1.0.0;
  bytes = h.1.1.1.1.1.0.1;
}

file_from : (before : List FilePart) (f : FilePart) → IsFile (place_behind before) f → Has (file_layout before) f
file_from before f is = (
  (is.byte, is.position),
  (
    (small_unit (kind_at f.position) f.unit (nat_lt (place_behind before).position f.position || nat_le (place_behind before).unit f.unit) is.unit, is.unit),
    (
      (small_read_only (kind_at f.position) f.read_only is.read_only, is.read_only),
      (
        ((small_name (length f.name) is.long, is.long), (is.name, is.utf8)),
        ((small_length (kind_at f.position) f.size is.size, is.size), ((is.digest, is.bytes), refl)),
      ),
    ),
  ),
)

place_step : (front : List FilePart) (f : FilePart) → place_behind (with_last front f) ≡ behind_file (place_behind front) f
place_step front f = ap place_after (last_is front f)

-- ---- ports

no_multiplexer_port : (listed : Bool) (tti1 qty : ℕ) → qty ≡ 0 → is_multiplexer_port listed tti1 qty ≡ true
no_multiplexer_port listed tti1 qty is = ap (is_multiplexer_port listed tti1) is

no_console_port : (tti1 qty console : ℕ) → console ≡ 0 → is_console_port tti1 qty console ≡ true
no_console_port tti1 qty console is = ap (is_console_port tti1 qty) is

-- what stands behind the port of the second teletype
abbrev pub PortsBehind : Bool → Bool → SavedPorts → Type 0
PortsBehind first listed p =
    Has (unless first 0 (Number Two (is_multiplexer_port listed p.tti1))) p.qty × Has (unless first 0 (Number Two (is_console_port p.tti1 p.qty))) p.console

ports_to : (version : ℕ) (listed : Bool) (p : SavedPorts) → Has (ports_layout version listed) p → ArePorts listed p
unfolding ports_layout
ports_to version listed p h = by_test (version == 1) h.0.0 h.1
  where
    by_test : (first : Bool) → p.tti1 < 2 ^ 16 → PortsBehind first listed p → ArePorts listed p
    by_test true lt is = record {
      tti1 = lt;
      qty = no_multiplexer_port listed p.tti1 p.qty is.0;
      console = let none = is.1 in omega (arith, none);
      apart = no_console_port p.tti1 p.qty p.console is.1;
    }
    by_test false lt is = record { tti1 = lt; qty = is.0.1; console = is.1.0; apart = is.1.1 }

small_first_port : (listed : Bool) (tti1 n : ℕ) → is_multiplexer_port listed tti1 n ≡ true → n < 2 ^ 16
small_first_port listed tti1 n h = by_test (n == 0) refl
  where
    least : (b c : Bool) → (listed && (b && c)) ≡ true → b ≡ true
    least b c h = (and_parts b c (and_parts listed (b && c) h).1).0

    by_test : (none : Bool) → (n == 0) ≡ none → n < 2 ^ 16
    by_test true e = let is = eqb-true n 0 e in omega (arith, is)
    by_test false e =
        let some : (false || (listed && (nat_le n 65472 && not (is_among n tti1)))) ≡ true = subst (λ (b : Bool). (b || (listed && (nat_le n 65472 && not (is_among n tti1)))) ≡ true) e h in
        let le = leb-true n 65472 (least (nat_le n 65472) (not (is_among n tti1)) some) in
        omega (arith, le)

-- in the version that is written, and in the first one
pub ports_from : (listed : Bool) (p : SavedPorts) → ArePorts listed p → Has (ports_layout this_version listed) p
unfolding ports_layout
ports_from listed p is = ((is.tti1, refl), ((small_first_port listed p.tti1 p.qty is.qty, is.qty), (is.console, is.apart)))

pub first_ports : (listed : Bool) (p : SavedPorts) → p.tti1 < 2 ^ 16 → p.qty ≡ 0 → p.console ≡ 0 → Has (ports_layout 1 listed) p
unfolding ports_layout
first_ports listed p lt qty console = ((lt, refl), (qty, console))

-- ---- breaks and texts

pub small_actions : (n : ℕ) → nat_le n longest_actions ≡ true → n < 2 ^ 16
small_actions n h = grind arith

actions_to : (actions : List ℕ) → Has actions_layout actions → AreActions actions
actions_to actions h = record { short = h.0.1; bytes = h.1.0; line = h.1.1 }

actions_from : (actions : List ℕ) → AreActions actions → Has actions_layout actions
actions_from actions is = ((small_actions (length actions) is.short, is.short), (is.bytes, is.line))

small_break : (least n : ℕ) → (nat_le least n && is_address n) ≡ true → n < 2 ^ 16
small_break least n h = grind arith

break_to : (before : List BreakPart) (b : BreakPart) → Has (break_layout before) b → IsBreak (address_behind before) b
break_to before b h = record { address = h.0.1; count = h.1.0.0; actions = actions_to b.actions h.1.1 }

break_from : (before : List BreakPart) (b : BreakPart) → IsBreak (address_behind before) b → Has (break_layout before) b
break_from before b is = ((small_break (address_behind before) b.address is.address, is.address), ((is.count, refl), actions_from b.actions is.actions))

address_step : (front : List BreakPart) (b : BreakPart) → address_behind (with_last front b) ≡ behind_break (address_behind front) b
address_step front b = ap address_after (last_is front b)

pub small_text : (n : ℕ) → is_text_length n ≡ true → n < 2 ^ 8
small_text n h = grind arith

expect_to : (e : ExpectPart) → Has expect_layout e → IsExpect e
expect_to e h = record { some = h.0.1; count = h.0.0; long = h.1.0.0.1; text = h.1.0.1.0; actions = actions_to e.actions h.1.1 }

expect_from : (e : ExpectPart) → IsExpect e → Has expect_layout e
expect_from e is = ((is.count, is.some), (((small_text (length e.text) is.long, is.long), (is.text, refl)), actions_from e.actions is.actions))

-- ---- all of it

pub small_tail : (n : ℕ) → nat_le n longest_text ≡ true → n < 2 ^ 8
small_tail n h = grind arith

pub small_events : (n : ℕ) → nat_le n most_events ≡ true → n < 2 ^ 16
small_events n h = grind arith

pub small_breaks : (n : ℕ) → nat_le n most_breaks ≡ true → n < 2 ^ 16
small_breaks n h = grind arith

pub small_expects : (n : ℕ) → nat_le n most_expects ≡ true → n < 2 ^ 8
small_expects n h = grind arith

pub small_sends : (n : ℕ) → nat_le n most_sends ≡ true → n < 2 ^ 16
small_sends n h = grind arith

-- what is told in a version: all of it, or what the first version has a place for
abbrev pub IsToldIn : ℕ → State → Type 0
IsToldIn version s = (version ≡ this_version) ⊎ ((version ≡ 1) × IsOfFirst s)

units_to : (units : List UnitPart) → Follow (λ front. Has (unit_layout front)) with_last [] units → Follows IsUnit next_number 0 units
units_to units h = follows_to (λ front. Has (unit_layout front)) IsUnit next_number (λ (front : List UnitPart). length front) (λ front x. numbers_step front x) unit_to [] units h

valid_to : (version : ℕ) (s : State) → Has (version_rows version) (state_fields (version, s)).1 → Valid s
valid_to version s h =
    let units = h.1.0 in
    let behind = h.1.1 in
    let files = behind.1.0.0 in
    let tables = behind.1.1 in
    record {
      machine = record {
        cpu = cpu_to version s.machine.cpu h.0.0;
        size = h.0.1.0;
        words = words_to s.machine.words h.0.1.1;
        all = count_to version (length s.machine.units) units.0.1;
        units = units_to s.machine.units units.1;
        few = behind.0.0.1;
        agenda = follows_to (λ front. Has (event_layout (length s.machine.units) front)) (IsEvent (length s.machine.units)) with_event (λ (front : List SavedEvent). front) (λ front x. refl)
            (event_to (length s.machine.units)) [] s.machine.agenda behind.0.1;
      };
      files = record {
        few = files.0.0;
        each = follows_to (λ front. Has (file_layout front)) IsFile behind_file place_behind place_step file_to [] s.files files.1;
      };
      ports = ports_to version (has_multiplexer (length s.machine.units)) s.ports behind.1.0.1;
      watch = record {
        few_breaks = tables.0.0.0.1;
        breaks = follows_to (λ front. Has (break_layout front)) IsBreak behind_break address_behind address_step break_to [] s.watch.breaks tables.0.0.1;
        few_expects = tables.0.1.0.1;
        expects = all_to (λ front. Has expect_layout) IsExpect (λ front x. expect_to x) [] s.watch.expects tables.0.1.1;
        short_tail = tables.1.0.0.1;
        tail = tables.1.0.1.0;
        few_sends = tables.1.1.0.1;
        sends = follows_to (λ front. Has (send_layout front)) IsSend behind_send time_behind time_step send_to [] s.watch.sends tables.1.1.1;
      };
    }

first_to : (s : State) → Has (version_rows 1) (state_fields (1, s)).1 → IsOfFirst s
unfolding cpu_layout ports_layout
first_to s h = record {
  autobit = h.0.0.1.1.0;
  units = count_first (length s.machine.units) h.1.0.0.1;
  qty = h.1.1.1.0.1.1.0;
  console = h.1.1.1.0.1.1.1;
}

pub state_to : (v : ℕ × State) → Has state_layout v → Valid v.1 × IsToldIn v.0 v.1
unfolding state_layout
state_to v h = (
  valid_to v.0 v.1 h.1,
  elim (either_version v.0 h.0.1.1) [
    | inl now ↦ inl now
    | inr first ↦ inr (first, first_to v.1 (subst (λ (version : ℕ). Has (version_rows version) (state_fields (version, v.1)).1) first h.1))
  ],
)

-- the units
pub units_from : (version : ℕ) (units : List UnitPart) → is_count_in version (length units) ≡ true → Follows IsUnit next_number 0 units → Has (units_layout version) units
units_from version units count is = (
  (few_units_there (length units) (count_to version (length units) count), count),
  follows_from (λ front. Has (unit_layout front)) IsUnit next_number (λ (front : List UnitPart). length front) (λ front x. numbers_step front x) unit_from [] units is,
)

-- the events
pub events_from : (m : MachinePart) → IsMachine m → Has (Listed Two few_events (event_layout (length m.units))) m.agenda
events_from m is = (
  (small_events (length m.agenda) is.few, is.few),
  follows_from (λ front. Has (event_layout (length m.units) front)) (IsEvent (length m.units)) with_event (λ (front : List SavedEvent). front) (λ front x. refl)
      (event_from (length m.units) (few_units_there (length m.units) is.all)) [] m.agenda is.agenda,
)

-- the processor and the words
pub memory_from : (version : ℕ) (m : MachinePart) → Has (autobit_row version) m.cpu.autobit → IsMachine m → Has (memory_rows version) (memory_in m)
memory_from version m autobit is = (cpu_from version m.cpu autobit is.cpu, (is.size, words_from m.words is.words))

tables_from : (w : WatchPart) → IsWatch w → Has table_rows (tables_in w)
tables_from w is = (
  (
    (
      (small_breaks (length w.breaks) is.few_breaks, is.few_breaks),
      follows_from (λ front. Has (break_layout front)) IsBreak behind_break address_behind address_step break_from [] w.breaks is.breaks,
    ),
    ((small_expects (length w.expects) is.few_expects, is.few_expects), all_from (λ front. Has expect_layout) IsExpect (λ front x. expect_from x) [] w.expects is.expects),
  ),
  (
    ((small_tail (length w.tail) is.short_tail, is.short_tail), (is.tail, refl)),
    (
      (small_sends (length w.sends) is.few_sends, is.few_sends),
      follows_from (λ front. Has (send_layout front)) IsSend behind_send time_behind time_step send_from [] w.sends is.sends,
    ),
  ),
)

valid_from : (version : ℕ) (s : State) → Valid s → Has (autobit_row version) s.machine.cpu.autobit → is_count_in version (length s.machine.units) ≡ true
    → Has (ports_layout version (has_multiplexer (length s.machine.units))) s.ports → Has (version_rows version) (state_fields (version, s)).1
valid_from version s is autobit count ports = (
  memory_from version s.machine autobit is.machine,
  (
    units_from version s.machine.units count is.machine.units,
    (
      events_from s.machine is.machine,
      (
        (((is.files.few, refl), follows_from (λ front. Has (file_layout front)) IsFile behind_file place_behind place_step file_from [] s.files is.files.each), ports),
        tables_from s.watch is.watch,
      ),
    ),
  ),
)

pub now_autobit : (n : ℕ) → is_flag n ≡ true → Has (autobit_row this_version) n
now_autobit n h = (small_flag n h, h)

pub now_from : (s : State) → Valid s → Has state_layout (this_version, s)
unfolding state_layout
now_from s is = (
  (tt, (omega arith, refl)),
  valid_from this_version s is (now_autobit s.machine.cpu.autobit is.machine.cpu.autobit) is.machine.all
      (ports_from (has_multiplexer (length s.machine.units)) s.ports is.ports),
)

pub first_from : (s : State) → Valid s → IsOfFirst s → Has state_layout (1, s)
unfolding state_layout
first_from s is first = (
  (tt, (omega arith, refl)),
  valid_from 1 s is first.autobit (first_count (length s.machine.units) first.units)
      (first_ports (has_multiplexer (length s.machine.units)) s.ports is.ports.tti1 first.qty first.console),
)

pub state_from : (v : ℕ × State) → Valid v.1 × IsToldIn v.0 v.1 → Has state_layout v
state_from v is = elim is.1 [
  | inl now ↦ subst (λ (version : ℕ). Has state_layout (version, v.1)) (sym now) (now_from v.1 is.0)
  | inr first ↦ subst (λ (version : ℕ). Has state_layout (version, v.1)) (sym first.0) (first_from v.1 is.0 first.1)
]
