-- Which saved sessions are valid, and which of them have a text at all.
use Rattle.std.specs.Prelude.{◌≡◌, ℕ, ◌*◌, ◌^◌, ◌<◌, ◌&&◌, Bool, IsTrue, nat_le, List, [], ◌∷◌, length}
use Rattle.std.specs.List.{AllByRecursion}
use Rattle.std.specs.Str.{is_utf8}
use Rattle.unit_trait.specs.declared.kind.Kind.{Kind}
use Rattle.saved_session.specs.declared.saved.SavedCpu.{SavedCpu}
use Rattle.saved_session.specs.declared.saved.SavedEvent.{SavedEvent}
use Rattle.saved_session.specs.declared.saved.SavedPorts.{SavedPorts}
use Rattle.saved_session.specs.declared.saved.SavedSend.{SavedSend}
use Rattle.saved_session.specs.Parts.{UnitPart, FilePart, BreakPart, ExpectPart, MachinePart, WatchPart, State}
use Rattle.saved_session.specs.Ranges.{is_flag, is_size, is_address, is_time, is_key_count, kind_at, is_unit_count, has_multiplexer, is_position, register_count, holds_value, most_events, can_wait, comes_last, FilePlace, takes_file_at, is_next_unit, is_read_only_of, is_name_length, is_file_length, is_multiplexer_port, is_console_port, most_breaks, longest_actions, most_expects, longest_text, is_text_length, is_expect_count, most_sends, last_send, has_no_line_feed}
use Rattle.saved_session.specs.Order.{next_number, with_event, place_of, behind_file, behind_break, behind_send}

-- each is a byte, a word of 16 bits, a number of 32 bits
abbrev pub AreBytes : List ℕ → Type 0
AreBytes bytes = AllByRecursion (λ b. b < 2 ^ 8) bytes

abbrev pub AreWords : List ℕ → Type 0
AreWords words = AllByRecursion (λ w. w < 2 ^ 16) words

-- each of a list is as those before it ask: it has something of a state, which it changes for the next
abbrev pub Follow : {A S : Type 0} → (S → A → Type 0) → (S → A → S) → S → List A → Type 0
Follow Has next s [] = Unit {0}
Follow Has next s (x ∷ xs) = Has s x × Follow Has next (next s x) xs

-- ---- the machine

pub record IsCpu (c : SavedCpu) : Type 0 where
  pub size_k : IsTrue (is_size c.size_k)
  pub few : length c.acs ≡ 4
  pub acs : AreWords c.acs
  pub carry : IsTrue (is_flag c.carry)
  pub pc : IsTrue (is_address c.pc)
  pub on : IsTrue (is_flag c.on)
  pub hold : IsTrue (is_flag c.hold)
  pub mask : c.mask < 2 ^ 16
  pub sr : c.sr < 2 ^ 16
  pub stop_dev : IsTrue (is_flag c.stop_dev)
  pub autobit : IsTrue (is_flag c.autobit)
  pub time : IsTrue (is_time c.time)
  pub keys_taken : IsTrue (is_key_count c.keys_taken)

-- register number i of a kind can hold that
abbrev pub CanHold : Kind → ℕ → ℕ → Type 0
CanHold kind i value = (value < 2 ^ 32) × IsTrue (holds_value kind i value)

-- the unit at that position, with all its registers
pub record IsUnit (expected : ℕ) (u : UnitPart) : Type 0 where
  pub byte : u.position < 2 ^ 8
  pub position : u.position ≡ expected
  pub all : length u.registers ≡ register_count (kind_at u.position)
  pub registers : Follow (CanHold (kind_at u.position)) next_number 0 u.registers

-- an event behind these: of one of so many units that none of them is of, and not before any of them
pub record IsEvent (count : ℕ) (events : List SavedEvent) (e : SavedEvent) : Type 0 where
  pub position : IsTrue (is_position count e.position)
  pub unit : IsTrue (can_wait events e.position e.unit)
  pub remaining : e.remaining < 2 ^ 32
  pub last : IsTrue (comes_last events e.remaining)

pub record IsMachine (m : MachinePart) : Type 0 where
  pub cpu : IsCpu m.cpu
  pub size : length m.words ≡ 1024 * m.cpu.size_k
  pub words : AreWords m.words
  pub all : IsTrue (is_unit_count (length m.units))
  pub units : Follow IsUnit next_number 0 m.units
  pub few : IsTrue (nat_le (length m.agenda) most_events)
  pub agenda : Follow (IsEvent (length m.units)) with_event [] m.agenda

-- ---- the attached files

-- a file from that place on
pub record IsFile (least : FilePlace) (f : FilePart) : Type 0 where
  pub byte : f.position < 2 ^ 8
  pub position : IsTrue (takes_file_at least f.position)
  pub unit : IsTrue (is_next_unit least f.position f.unit)
  pub read_only : IsTrue (is_read_only_of (kind_at f.position) f.read_only)
  pub long : IsTrue (is_name_length (length f.name))
  pub name : AreBytes f.name
  pub utf8 : IsTrue (is_utf8 f.name)
  pub size : IsTrue (is_file_length (kind_at f.position) f.size)
  pub digest : length f.digest ≡ 32
  pub bytes : AreBytes f.digest

pub record AreFiles (files : List FilePart) : Type 0 where
  pub few : length files < 2 ^ 8
  pub each : Follow IsFile behind_file (place_of 0 0) files

-- ---- what a run watches

-- one line of actions
pub record AreActions (actions : List ℕ) : Type 0 where
  pub short : IsTrue (nat_le (length actions) longest_actions)
  pub bytes : AreBytes actions
  pub line : IsTrue (has_no_line_feed actions)

-- a break from that address on
pub record IsBreak (least : ℕ) (b : BreakPart) : Type 0 where
  pub address : IsTrue (nat_le least b.address && is_address b.address)
  pub count : b.count < 2 ^ 32
  pub actions : AreActions b.actions

pub record IsExpect (e : ExpectPart) : Type 0 where
  pub some : IsTrue (is_expect_count e.count)
  pub count : e.count < 2 ^ 32
  pub long : IsTrue (is_text_length (length e.text))
  pub text : AreBytes e.text
  pub actions : AreActions e.actions

-- a byte that is sent from that time on
pub record IsSend (least : ℕ) (s : SavedSend) : Type 0 where
  pub time : IsTrue (nat_le least s.time && nat_le s.time last_send)
  pub byte : s.byte < 2 ^ 8

pub record IsWatch (w : WatchPart) : Type 0 where
  pub few_breaks : IsTrue (nat_le (length w.breaks) most_breaks)
  pub breaks : Follow IsBreak behind_break 0 w.breaks
  pub few_expects : IsTrue (nat_le (length w.expects) most_expects)
  pub expects : AllByRecursion IsExpect w.expects
  pub short_tail : IsTrue (nat_le (length w.tail) longest_text)
  pub tail : AreBytes w.tail
  pub few_sends : IsTrue (nat_le (length w.sends) most_sends)
  pub sends : Follow IsSend behind_send 0 w.sends

-- ---- the ports

-- no two lines have one port; the multiplexer's lines have none where it is not there
pub record ArePorts (listed : Bool) (p : SavedPorts) : Type 0 where
  pub tti1 : p.tti1 < 2 ^ 16
  pub qty : IsTrue (is_multiplexer_port listed p.tti1 p.qty)
  pub console : p.console < 2 ^ 16
  pub apart : IsTrue (is_console_port p.tti1 p.qty p.console)

-- ---- all of it

pub record Valid (s : State) : Type 0 where
  pub machine : IsMachine s.machine
  pub files : AreFiles s.files
  pub ports : ArePorts (has_multiplexer (length s.machine.units)) s.ports
  pub watch : IsWatch s.watch

-- ---- what has a text

abbrev pub UnitsFit : List UnitPart → Type 0
UnitsFit units = AllByRecursion (λ (u : UnitPart). length u.registers < 2 ^ 8) units

abbrev pub FilesFit : List FilePart → Type 0
FilesFit files = AllByRecursion (λ (f : FilePart). length f.name < 2 ^ 16) files

abbrev pub BreaksFit : List BreakPart → Type 0
BreaksFit breaks = AllByRecursion (λ (b : BreakPart). length b.actions < 2 ^ 16) breaks

abbrev pub ExpectFits : ExpectPart → Type 0
ExpectFits e = (length e.text < 2 ^ 8) × (length e.actions < 2 ^ 16)

abbrev pub ExpectsFit : List ExpectPart → Type 0
ExpectsFit expects = AllByRecursion ExpectFits expects

-- no list is longer than the number before it can tell, and there are as many words as the size says
pub record MachineFits (m : MachinePart) : Type 0 where
  pub size : length m.words ≡ 1024 * m.cpu.size_k
  pub units : length m.units < 2 ^ 8
  pub registers : UnitsFit m.units
  pub agenda : length m.agenda < 2 ^ 16

pub record WatchFits (w : WatchPart) : Type 0 where
  pub breaks : length w.breaks < 2 ^ 16
  pub actions : BreaksFit w.breaks
  pub expects : length w.expects < 2 ^ 8
  pub texts : ExpectsFit w.expects
  pub tail : length w.tail < 2 ^ 8
  pub sends : length w.sends < 2 ^ 16

pub record Fits (s : State) : Type 0 where
  pub machine : MachineFits s.machine
  pub files : length s.files < 2 ^ 8
  pub names : FilesFit s.files
  pub watch : WatchFits s.watch
