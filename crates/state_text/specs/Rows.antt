-- The rows of a state file: each section's fields in their order, each with what it can hold. There are two versions of the
-- format: the first one has no flag of the auto-index rule, no multiplexer and no ports but that of the second teletype.
use Rattle.std.specs.Prelude.{ℕ, Bool, true, false, ◌+◌, ◌-◌, ◌*◌, ◌&&◌, ◌||◌, ◌==◌, not, nat_le, List, length, slice_get, codes, Option, Some, None, refl}
use Rattle.std.specs.Str.{is_utf8}
use Rattle.unit_trait.specs.declared.kind.Kind.{Kind}
use Rattle.saved_session.specs.declared.saved.SavedCpu.{SavedCpu}
use Rattle.saved_session.specs.declared.saved.SavedEvent.{SavedEvent}
use Rattle.saved_session.specs.declared.saved.SavedPorts.{SavedPorts}
use Rattle.saved_session.specs.declared.saved.SavedSend.{SavedSend}
use Rattle.saved_session.specs.Parts.{UnitPart, FilePart, BreakPart, ExpectPart, MachinePart, WatchPart, State}
use Rattle.saved_session.specs.Ranges.{is_flag, is_size, is_address, is_time, is_key_count, kind_at, standard_kinds, most_kinds, has_multiplexer, is_position, register_count, holds_value, most_events, can_wait, comes_last, FilePlace, takes_file_at, is_next_unit, is_read_only_of, is_name_length, is_file_length, is_multiplexer_port, is_console_port, most_breaks, longest_actions, most_expects, longest_text, is_text_length, is_expect_count, most_sends, last_send, has_no_line_feed}
use Rattle.saved_session.specs.Order.{place_of}
use Rattle.byte_layouts.specs.Readers.{is_version_to}
use Rattle.byte_layouts.specs.Layout.{Layout, One, Two, Four, Eight, Head, Version, Given, Number, Any, Bytes, Sized, Many, Listed, Then, Made, ◌&◌}

-- ---- versions

-- the version that is written; it and the one before it are read
abbrev pub this_version : ℕ
this_version = 2

abbrev pub unless : {A : Type 0} → Bool → A → Layout A → Layout A
unless true a row = Given a
unless false a row = row

-- a row that the first version does not have: there its value is that
abbrev pub unless_first : {A : Type 0} → ℕ → A → Layout A → Layout A
unless_first version a row = unless (version == 1) a row

-- what each begins with, and the version of the format
abbrev pub head : List ℕ
head = codes "NOVASTAT"

abbrev pub version_in : Unit {0} × ℕ → ℕ
version_in v = v.1

abbrev pub start_fields : ℕ → Unit {0} × ℕ
start_fields version = (tt, version)

abbrev pub start_layout : Layout ℕ
start_layout = Made version_in start_fields (λ x. refl) (λ y. refl) (Head head & Version (is_version_to this_version))

-- ---- the processor

-- the size of memory, the accumulators, Carry and PC
abbrev pub Registers : Type 0
Registers = ℕ × (List ℕ × (ℕ × ℕ))

-- whether interrupts are on and whether they wait, the mask, the switches and whether a word to no device stops
abbrev pub Switches : Type 0
Switches = ℕ × (ℕ × (ℕ × (ℕ × ℕ)))

abbrev pub word_layout : Layout ℕ
word_layout = Any Two

abbrev pub register_rows : Layout Registers
register_rows = Number One is_size & Many 4 (λ before. word_layout) & Number One is_flag & Number Two is_address

abbrev pub switch_rows : Layout Switches
switch_rows = Number One is_flag & Number One is_flag & Any Two & Any Two & Number One is_flag

-- the flag of the auto-index rule
abbrev pub autobit_row : ℕ → Layout ℕ
autobit_row version = unless_first version 0 (Number One is_flag)

abbrev pub time_rows : Layout (ℕ × ℕ)
time_rows = Number Eight is_time & Number Eight is_key_count

abbrev pub CpuFields : Type 0
CpuFields = Registers × (Switches × (ℕ × (ℕ × ℕ)))

abbrev pub registers_in : SavedCpu → Registers
registers_in c = (c.size_k, (c.acs, (c.carry, c.pc)))

abbrev pub switches_in : SavedCpu → Switches
switches_in c = (c.on, (c.hold, (c.mask, (c.sr, c.stop_dev))))

abbrev pub times_in : SavedCpu → ℕ × ℕ
times_in c = (c.time, c.keys_taken)

abbrev pub cpu_of : CpuFields → SavedCpu
cpu_of v = record {
  size_k = v.0.0;
  acs = v.0.1.0;
  carry = v.0.1.1.0;
  pc = v.0.1.1.1;
  on = v.1.0.0;
  hold = v.1.0.1.0;
  mask = v.1.0.1.1.0;
  sr = v.1.0.1.1.1.0;
  stop_dev = v.1.0.1.1.1.1;
  autobit = v.1.1.0;
  time = v.1.1.1.0;
  keys_taken = v.1.1.1.1;
}

abbrev pub cpu_fields : SavedCpu → CpuFields
cpu_fields c = (registers_in c, (switches_in c, (c.autobit, times_in c)))

unfoldable pub cpu_layout : ℕ → Layout SavedCpu
cpu_layout version = Made cpu_of cpu_fields (λ x. refl) (λ y. refl) (register_rows & switch_rows & autobit_row version & time_rows)

abbrev pub word_count : SavedCpu → ℕ
word_count c = 1024 * c.size_k

-- ---- the units

abbrev pub register_layout : Kind → List ℕ → Layout ℕ
register_layout kind before = Number Four (holds_value kind (length before))

-- as many registers as the kind has
unfoldable pub registers_layout : Kind → Layout (List ℕ)
registers_layout kind = Listed One (λ n. n == register_count kind) (register_layout kind)

abbrev pub unit_of : ℕ × List ℕ → UnitPart
unit_of v = record { position = v.0; registers = v.1 }

abbrev pub unit_fields : UnitPart → ℕ × List ℕ
unit_fields u = (u.position, u.registers)

-- the unit behind these
abbrev pub unit_layout : List UnitPart → Layout UnitPart
unit_layout before =
    Made unit_of unit_fields (λ x. refl) (λ y. refl)
    (Then (Number One (λ n. n == length before)) (λ position. registers_layout (kind_at position)))

-- how many units there are: in the first version the multiplexer is not among them
abbrev pub is_count_in : ℕ → ℕ → Bool
is_count_in version n = n == standard_kinds || (not (version == 1) && n == most_kinds)

abbrev pub units_layout : ℕ → Layout (List UnitPart)
units_layout version = Listed One (is_count_in version) unit_layout

-- ---- the events

abbrev pub event_of : ℕ × (ℕ × ℕ) → SavedEvent
event_of v = record { position = v.0; unit = v.1.0; remaining = v.1.1 }

abbrev pub event_fields : SavedEvent → ℕ × (ℕ × ℕ)
event_fields e = (e.position, (e.unit, e.remaining))

-- an event of one of so many units, behind these
abbrev pub event_layout : ℕ → List SavedEvent → Layout SavedEvent
event_layout count before =
    Made event_of event_fields (λ x. refl) (λ y. refl)
    (Then (Number One (is_position count)) (λ position. Number One (can_wait before position) & Number Four (comes_last before)))

abbrev pub few_events : ℕ → Bool
few_events n = nat_le n most_events

-- ---- the attached files

abbrev pub place_after : Option FilePart → FilePlace
place_after None = place_of 0 0
place_after (Some f) = place_of f.position (f.unit + 1)

-- from where on the next file can be
abbrev pub place_behind : List FilePart → FilePlace
place_behind before = place_after (slice_get before (length before - 1))

abbrev pub any : {A : Type 0} → A → Bool
any x = true

abbrev pub FileFields : Type 0
FileFields = ℕ × (ℕ × (ℕ × (List ℕ × (ℕ × List ℕ))))

abbrev pub file_of : FileFields → FilePart
file_of v = record { position = v.0; unit = v.1.0; read_only = v.1.1.0; name = v.1.1.1.0; size = v.1.1.1.1.0; digest = v.1.1.1.1.1 }

abbrev pub file_fields : FilePart → FileFields
file_fields f = (f.position, (f.unit, (f.read_only, (f.name, (f.size, f.digest)))))

abbrev pub file_rows : FilePlace → ℕ → Layout (ℕ × (ℕ × (List ℕ × (ℕ × List ℕ))))
file_rows least position =
    Number One (is_next_unit least position)
    & Number One (is_read_only_of (kind_at position))
    & Sized Two is_name_length is_utf8
    & Number Eight (is_file_length (kind_at position))
    & Bytes 32 any

-- a file behind these
abbrev pub file_layout : List FilePart → Layout FilePart
file_layout before =
    Made file_of file_fields (λ x. refl) (λ y. refl)
    (Then (Number One (takes_file_at (place_behind before))) (file_rows (place_behind before)))

-- ---- the ports

abbrev pub ports_of : ℕ × (ℕ × ℕ) → SavedPorts
ports_of v = record { tti1 = v.0; qty = v.1.0; console = v.1.1 }

abbrev pub ports_fields : SavedPorts → ℕ × (ℕ × ℕ)
ports_fields p = (p.tti1, (p.qty, p.console))

abbrev pub multiplexer_row : ℕ → Bool → ℕ → Layout ℕ
multiplexer_row version listed tti1 = unless_first version 0 (Number Two (is_multiplexer_port listed tti1))

abbrev pub console_row : ℕ → ℕ → ℕ → Layout ℕ
console_row version tti1 qty = unless_first version 0 (Number Two (is_console_port tti1 qty))

-- by whether the multiplexer is there
unfoldable pub ports_layout : ℕ → Bool → Layout SavedPorts
ports_layout version listed =
    Made ports_of ports_fields (λ x. refl) (λ y. refl)
    (Then word_layout (λ tti1. Then (multiplexer_row version listed tti1) (λ qty. console_row version tti1 qty)))

-- ---- breaks

abbrev pub actions_layout : Layout (List ℕ)
actions_layout = Sized Two (λ n. nat_le n longest_actions) has_no_line_feed

abbrev pub address_after : Option BreakPart → ℕ
address_after None = 0
address_after (Some b) = b.address + 1

-- from which address on the next break can be
abbrev pub address_behind : List BreakPart → ℕ
address_behind before = address_after (slice_get before (length before - 1))

abbrev pub break_of : ℕ × (ℕ × List ℕ) → BreakPart
break_of v = record { address = v.0; count = v.1.0; actions = v.1.1 }

abbrev pub break_fields : BreakPart → ℕ × (ℕ × List ℕ)
break_fields b = (b.address, (b.count, b.actions))

-- a break behind these
abbrev pub break_layout : List BreakPart → Layout BreakPart
break_layout before =
    Made break_of break_fields (λ x. refl) (λ y. refl)
    (Number Two (λ a. nat_le (address_behind before) a && is_address a) & Any Four & actions_layout)

abbrev pub few_breaks : ℕ → Bool
few_breaks n = nat_le n most_breaks

-- ---- texts that are waited for

abbrev pub expect_of : ℕ × (List ℕ × List ℕ) → ExpectPart
expect_of v = record { count = v.0; text = v.1.0; actions = v.1.1 }

abbrev pub expect_fields : ExpectPart → ℕ × (List ℕ × List ℕ)
expect_fields e = (e.count, (e.text, e.actions))

abbrev pub expect_layout : Layout ExpectPart
expect_layout =
    Made expect_of expect_fields (λ x. refl) (λ y. refl)
    (Number Four is_expect_count & Sized One is_text_length any & actions_layout)

abbrev pub few_expects : ℕ → Bool
few_expects n = nat_le n most_expects

abbrev pub tail_layout : Layout (List ℕ)
tail_layout = Sized One (λ n. nat_le n longest_text) any

-- ---- bytes that are sent

abbrev pub time_after : Option SavedSend → ℕ
time_after None = 0
time_after (Some s) = s.time

-- from when on the next byte can be sent
abbrev pub time_behind : List SavedSend → ℕ
time_behind before = time_after (slice_get before (length before - 1))

abbrev pub send_of : ℕ × ℕ → SavedSend
send_of v = record { time = v.0; byte = v.1 }

abbrev pub send_fields : SavedSend → ℕ × ℕ
send_fields s = (s.time, s.byte)

-- a byte that is sent behind these
abbrev pub send_layout : List SavedSend → Layout SavedSend
send_layout before =
    Made send_of send_fields (λ x. refl) (λ y. refl)
    (Number Eight (λ t. nat_le (time_behind before) t && nat_le t last_send) & Any One)

abbrev pub few_sends : ℕ → Bool
few_sends n = nat_le n most_sends

-- ---- all of it

abbrev pub Memory : Type 0
Memory = SavedCpu × List ℕ

abbrev pub Tables : Type 0
Tables = (List BreakPart × List ExpectPart) × (List ℕ × List SavedSend)

-- what stands behind the units
abbrev pub Behind : Type 0
Behind = List SavedEvent × ((List FilePart × SavedPorts) × Tables)

-- the version, and what stands behind it
abbrev pub Fields : Type 0
Fields = ℕ × (Memory × (List UnitPart × Behind))

abbrev pub state_of : Fields → ℕ × State
state_of v = (
  v.0,
  record {
    machine = record { cpu = v.1.0.0; words = v.1.0.1; units = v.1.1.0; agenda = v.1.1.1.0 };
    files = v.1.1.1.1.0.0;
    ports = v.1.1.1.1.0.1;
    watch = record { breaks = v.1.1.1.1.1.0.0; expects = v.1.1.1.1.1.0.1; tail = v.1.1.1.1.1.1.0; sends = v.1.1.1.1.1.1.1 };
  },
)

abbrev pub tables_in : WatchPart → Tables
tables_in w = ((w.breaks, w.expects), (w.tail, w.sends))

abbrev pub memory_in : MachinePart → Memory
memory_in m = (m.cpu, m.words)

abbrev pub behind_in : State → Behind
behind_in s = (s.machine.agenda, ((s.files, s.ports), tables_in s.watch))

abbrev pub state_fields : ℕ × State → Fields
state_fields v = (v.0, (memory_in v.1.machine, (v.1.machine.units, behind_in v.1)))

abbrev pub memory_rows : ℕ → Layout Memory
memory_rows version = Then (cpu_layout version) (λ cpu. Many (word_count cpu) (λ before. word_layout))

abbrev pub table_rows : Layout Tables
table_rows =
    (Listed Two few_breaks break_layout & Listed One few_expects (λ before. expect_layout))
    & (tail_layout & Listed Two few_sends send_layout)

-- behind so many units
abbrev pub rows_behind : ℕ → ℕ → Layout Behind
rows_behind version count =
    Listed Two few_events (event_layout count)
    & ((Listed One any file_layout & ports_layout version (has_multiplexer count)) & table_rows)

-- behind the version
abbrev pub version_rows : ℕ → Layout (Memory × (List UnitPart × Behind))
version_rows version = memory_rows version & Then (units_layout version) (λ units. rows_behind version (length units))

abbrev pub state_rows : Layout Fields
state_rows = Then start_layout version_rows

-- all but the digest: the version, and what is saved
unfoldable pub state_layout : Layout (ℕ × State)
state_layout = Made state_of state_fields (λ x. refl) (λ y. refl) state_rows
