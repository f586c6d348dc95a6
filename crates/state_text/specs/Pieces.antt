-- A state file that comes in pieces: what is still read of it, and which bytes were fed.
use Rattle.std.specs.Prelude.{◌≡◌, ℕ, true, false, List, length, map}
use Rattle.std.specs.Global.{Vec}
use Rattle.saved_session.specs.declared.saved.SavedCpu.{SavedCpu}
use Rattle.saved_session.specs.declared.saved.SavedEvent.{SavedEvent}
use Rattle.saved_session.specs.declared.saved.SavedPorts.{SavedPorts}
use Rattle.saved_session.specs.declared.saved.SavedSend.{SavedSend}
use Rattle.saved_session.specs.declared.saved.SavedUnit.{SavedUnit}
use Rattle.saved_session.specs.Parts.{UnitPart, unit_in, file_in, break_in, expect_in}
use Rattle.saved_session.specs.Ranges.{has_multiplexer}
use Rattle.byte_layouts.specs.declared.known.Known.{Known}
use Rattle.byte_layouts.specs.Readers.{Reader}
use Rattle.byte_layouts.specs.Layout.{One, Two, Number, reading}
use Rattle.byte_layouts.specs.Parts.{rest_of_one, rest_of_list, rest_of_measured, rest_of_telling, both}
use Rattle.byte_layouts.specs.Fed.{IsFed as IsFedTo}
use Rattle.state_text.specs.declared.state_reader.StateReader.{StateReader}
use Rattle.state_text.specs.Rows.{start_layout, word_count, word_layout, cpu_layout, units_layout, event_layout, few_events, any, file_layout, ports_layout, break_layout, few_breaks, expect_layout, few_expects, tail_layout, send_layout, few_sends, Memory, Tables, Behind, Fields, state_rows}

-- ---- what is still read, part by part

-- the processor and the words
abbrev pub rest_of_memory : Known → StateReader → Reader Memory
rest_of_memory known r =
    let memory = r.reading.part.behind.first in
    rest_of_measured (λ (c : SavedCpu). c) word_count (reading (cpu_layout known.version)) (λ front. reading word_layout) memory.head
    memory.left (map (λ (n : ℕ). n) memory.items.items)

-- what a run watches
abbrev pub rest_of_tables : StateReader → Reader Tables
rest_of_tables r =
    let tables = r.reading.part.behind.second.behind.parts.third in
    let breaks = tables.first.first in
    let expects = tables.first.second in
    let sends = tables.second.second in
    both
    (both (rest_of_list (reading (Number Two few_breaks)) (λ front. reading (break_layout front)) breaks.counted breaks.left (map break_in breaks.items.items))
    (rest_of_list (reading (Number One few_expects)) (λ front. reading expect_layout) expects.counted expects.left (map expect_in expects.items.items)))
    (both (rest_of_one (λ (v : Vec ℕ). v.items) (reading tail_layout) tables.second.first.item)
    (rest_of_list (reading (Number Two few_sends)) (λ front. reading (send_layout front)) sends.counted sends.left (map (λ (s : SavedSend). s) sends.items.items)))

-- what stands behind the units
abbrev pub rest_behind : Known → StateReader → Reader Behind
rest_behind known r =
    let part = r.reading.part.behind.second.behind.parts in
    let events = part.first in
    let files = part.second.first in
    both (rest_of_list (reading (Number Two few_events)) (λ front. reading (event_layout known.count front)) events.counted events.left (map (λ (e : SavedEvent). e) events.items.items))
    (both
    (both (rest_of_list (reading (Number One any)) (λ front. reading (file_layout front)) files.counted files.left (map file_in files.items.items))
    (rest_of_one (λ (p : SavedPorts). p) (reading (ports_layout known.version (has_multiplexer known.count))) part.second.second.item))
    (rest_of_tables r))

-- the units and what stands behind them
abbrev pub rest_of_units : Known → StateReader → Reader (List UnitPart × Behind)
rest_of_units known r =
    let units = r.reading.part.behind.second in
    rest_of_telling (λ (v : Vec SavedUnit). map unit_in v.items) (reading (units_layout known.version))
    (λ (us : List UnitPart). rest_behind (record { version = known.version; count = length us }) r) (rest_behind units.next r) units.head

abbrev pub rest_of_version : Known → StateReader → Reader (Memory × (List UnitPart × Behind))
rest_of_version known r = both (rest_of_memory known r) (rest_of_units known r)

abbrev pub rest_of : StateReader → Reader Fields
rest_of r =
    let part = r.reading.part in
    rest_of_telling (λ (n : ℕ). n) (reading start_layout) (λ (version : ℕ). rest_of_version (record { version = version; count = 0 }) r)
    (rest_of_version part.next r) part.head

-- ---- what was fed

-- with any more bytes, what these say comes to what is still read of them
abbrev pub ReadsOn : StateReader → List ℕ → Type 0
ReadsOn r fed = IsFedTo r.reading.stage (reading state_rows) (rest_of r) r.reading.kept r.reading.pending fed

-- These bytes were fed, and memory did not run out. Behind the last row the digest is kept, and one byte more.
pub record IsFed (r : StateReader) (fed : List ℕ) : Type 0 where
  pub works : r.failed ≡ false
  pub kept : r.reading.kept ≡ 33
  pub reads : ReadsOn r fed

-- Memory ran out.
abbrev pub HasFailed : StateReader → Type 0
HasFailed r = r.failed ≡ true
