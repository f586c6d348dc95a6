-- What each field of a saved session can hold. A unit is named by its position in bus order, from 0; of the eleven kinds
-- a machine has the first ten, or these and the multiplexer.
use Rattle.std.specs.Prelude.{ℕ, ◌+◌, ◌%◌, ◌^◌, ◌==◌, ◌&&◌, ◌||◌, Bool, true, false, not, nat_le, nat_lt, List, length, Option, Some, None, option_map, slice_get}
use Rattle.std.specs.List.{list_any}
use Rattle.unit_trait.specs.declared.kind.Kind.{Kind}
use Rattle.unit_trait.specs.declared.kind.Kind.TheVariants.{Dsk, Mta, Lpt, Ptp, Qty}
use Rattle.unit_trait.specs.Kinds.{all_kinds, units_of, takes_file}
use Rattle.unit_trait.specs.Registers.{Register, registers, register_at}
use Rattle.saved_session.specs.declared.saved.SavedEvent.{SavedEvent}

-- ---- the processor

abbrev pub is_flag : ℕ → Bool
is_flag n = nat_le n 1

-- the size of memory in units of 1024 words
abbrev pub is_size : ℕ → Bool
is_size k = nat_le 4 k && (nat_le k 32 && k % 4 == 0)

abbrev pub is_address : ℕ → Bool
is_address a = nat_lt a 32768

abbrev pub is_time : ℕ → Bool
is_time t = nat_le t (2 ^ 60)

-- how many keys a session takes at most
abbrev pub is_key_count : ℕ → Bool
is_key_count n = nat_le n 65536

-- ---- units and events

abbrev pub kind_or_last : Option Kind → Kind
kind_or_last None = Qty
kind_or_last (Some kind) = kind

-- the kind at a position in bus order
unfoldable pub kind_at : ℕ → Kind
kind_at position = kind_or_last (slice_get all_kinds position)

-- how many kinds a machine has without the multiplexer, and with it
abbrev pub standard_kinds : ℕ
standard_kinds = 10

abbrev pub most_kinds : ℕ
most_kinds = 11

abbrev pub is_unit_count : ℕ → Bool
is_unit_count count = count == standard_kinds || count == most_kinds

-- whether the multiplexer is among so many units
abbrev pub has_multiplexer : ℕ → Bool
has_multiplexer count = count == most_kinds

-- whether one of so many units is at a position
abbrev pub is_position : ℕ → ℕ → Bool
is_position count position = nat_lt position count

-- how many registers the units of a kind have
unfoldable pub register_count : Kind → ℕ
register_count kind = length (registers kind)

abbrev pub within_limits : ℕ → Option (ℕ × ℕ) → Bool
within_limits value None = false
within_limits value (Some limits) = nat_le limits.0 value && nat_le value limits.1

-- whether register number i of a kind can hold a value
unfoldable pub holds_value : Kind → ℕ → ℕ → Bool
holds_value kind i value =
    within_limits value (option_map (λ (r : Register). (r.least, r.largest)) (register_at kind i))

-- how many events wait at most: one for each unit that there can be
abbrev pub most_events : ℕ
most_events = 81

abbrev pub is_event_of : ℕ → ℕ → SavedEvent → Bool
is_event_of position unit e = e.position == position && e.unit == unit

-- whether none of these events is that of a unit
abbrev pub is_free : List SavedEvent → ℕ → ℕ → Bool
is_free events position unit = not (list_any (is_event_of position unit) events)

-- whether a unit of the kind at a position can have an event behind these
abbrev pub can_wait : List SavedEvent → ℕ → ℕ → Bool
can_wait events position unit = nat_lt unit (units_of (kind_at position)) && is_free events position unit

abbrev pub is_later : ℕ → SavedEvent → Bool
is_later remaining e = nat_lt remaining e.remaining

-- whether none of these events comes later
abbrev pub comes_last : List SavedEvent → ℕ → Bool
comes_last events remaining = not (list_any (is_later remaining) events)

-- ---- files

-- the least position that the next file can have, and the least unit at that position
pub record FilePlace : Type 0 where
  pub position : ℕ
  pub unit : ℕ

-- whether a file can be attached at a position, from that place on
abbrev pub takes_file_at : FilePlace → ℕ → Bool
takes_file_at least position = nat_le least.position position && takes_file (kind_at position)

-- whether a unit at a position can have the next file
abbrev pub is_next_unit : FilePlace → ℕ → ℕ → Bool
is_next_unit least position unit =
    nat_lt unit (units_of (kind_at position)) && (nat_lt least.position position || nat_le least.unit unit)

-- the kinds that write their files and never read them
abbrev pub only_writes : Kind → Bool
only_writes Lpt = true
only_writes Ptp = true
only_writes kind = false

-- whether a file of a kind can be marked so: one that is only written cannot be read only
abbrev pub is_read_only_of : Kind → ℕ → Bool
is_read_only_of kind n = is_flag n && (n == 0 || not (only_writes kind))

-- the length of a file name in bytes
abbrev pub is_name_length : ℕ → Bool
is_name_length n = nat_le 1 n && nat_le n 255

-- how many bytes the file of a unit has at most
unfoldable pub longest_file_of : Kind → ℕ
longest_file_of Dsk = 4194304
longest_file_of Mta = 67108864
longest_file_of kind = 16777216

abbrev pub is_file_length : Kind → ℕ → Bool
is_file_length kind n = nat_le n (longest_file_of kind)

-- ---- ports, where 0 is none

-- whether a port is one of those of the multiplexer's lines, by the first of them
abbrev pub is_among : ℕ → ℕ → Bool
is_among first port = nat_le first port && nat_lt port (first + 64)

-- Whether the multiplexer's lines can have ports from that one on, beside that of the second teletype. A machine without the
-- multiplexer has none.
abbrev pub is_multiplexer_port : Bool → ℕ → ℕ → Bool
is_multiplexer_port listed tti1 first = first == 0 || (listed && (nat_le first 65472 && not (is_among first tti1)))

-- whether the console's line can have a port, beside those
abbrev pub is_console_port : ℕ → ℕ → ℕ → Bool
is_console_port tti1 first port = port == 0 || (not (port == tti1) && (first == 0 || not (is_among first port)))

-- ---- what a run watches

abbrev pub most_breaks : ℕ
most_breaks = 256

abbrev pub longest_actions : ℕ
longest_actions = 512

abbrev pub most_expects : ℕ
most_expects = 64

-- how many bytes a text has at most that is waited for, and so how many of the printed ones are kept
abbrev pub longest_text : ℕ
longest_text = 64

abbrev pub is_text_length : ℕ → Bool
is_text_length n = nat_le 1 n && nat_le n longest_text

-- how many times a text is waited for
abbrev pub is_expect_count : ℕ → Bool
is_expect_count n = nat_le 1 n

abbrev pub most_sends : ℕ
most_sends = 4096

abbrev pub last_send : ℕ
last_send = 2 ^ 62

-- actions stand in one line
abbrev pub has_no_line_feed : List ℕ → Bool
has_no_line_feed bytes = not (list_any (λ b. b == 10) bytes)
