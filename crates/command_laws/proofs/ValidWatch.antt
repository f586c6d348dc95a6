-- BREAK, NOBREAK, EXPECT, NOEXPECT, SEND and NOSEND keep the watch tables within their limits, in order, and of bytes.
use Rattle.std.proofs.Common.{◌≡◌, ℕ, ◌+◌, ◌^◌, ◌<◌, ◌≤◌, ◌==◌, ◌&&◌, nat_lt, not, max, Bool, true, false, List, [], ◌∷◌, ◌++◌, length, Option, Some, None, IfSome, option_map, unwrap_or, refl, ap, arith, length-append}
use Rattle.std.specs.List.{AllByRecursion}
use Rattle.std.proofs.lemmas.Bool.{ltb-false}
use Rattle.std.proofs.lemmas.Bool.Decides.{nat_tests}
use Rattle.std.proofs.lemmas.List.Elements.{All-from_recursion, recursion_from_All, All-append, All-cons, All-filter}
use Rattle.nova_word.specs.Quoted.{Stands, itself, carriage_return, line_feed, tab, backslash, quote, octal, StandFor, none, more, quoted_read}
use Rattle.nova_word.proofs.QuotedReadLemmas.{quoted_is_computed}
use Rattle.expect_actions.specs.declared.breaks.Break.{Break}
use Rattle.expect_actions.specs.Breaks.{break_at, has_break, with_break, without_break, is_at, most_breaks, Rising}
use Rattle.expect_actions.specs.Breaks as breaks
use Rattle.expect_actions.specs.Expects.{expect_of, with_expect, no_expects, most_expects}
use Rattle.expect_actions.specs.Sends.{Send, last_queued, timed, queued, most_sends}
use Rattle.expect_actions.specs.Watch.{WatchState, forgotten}
use Rattle.expect_actions.proofs.BreakLemmas.{below, above, without_is, all_kept, fewer, no_more, rising_filter, rising_with}
use Rattle.expect_actions.proofs.SendLemmas.{length-timed, sends_stay}
use Rattle.nova_machine.specs.Valid.{AreBytes, AreShortActions, ValidBreak, ValidExpect, ValidWatch}
use Rattle.nova_machine.proofs.Each.{every-append}
use Rattle.command_session.specs.WatchEffects.{text_of_quoted, lacks_room_for_break}

-- ---- a quoted text stands for bytes

byte-stood : (front : List ℕ) (b : ℕ) → Stands front b → b < 2 ^ 8
byte-stood front byte (itself b low high no_quote no_slash) = omega arith
byte-stood front byte carriage_return = omega arith
byte-stood front byte line_feed = omega arith
byte-stood front byte tab = omega arith
byte-stood front byte backslash = omega arith
byte-stood front byte quote = omega arith
byte-stood front byte (octal a b c first second third) = omega arith

bytes-stood : (inside text : List ℕ) → StandFor inside text → AreBytes text
bytes-stood inside text none = tt
bytes-stood inside text (more front later others b stands stand) = (byte-stood front b stands, bytes-stood later others stand)

-- so is what a quoted text reads as
pub read-bytes : (quoted : List ℕ) → IfSome (quoted_read quoted) (λ read. AreBytes read.0)
read-bytes quoted = by-read (quoted_read quoted) refl
  where
    by-read : (o : Option (List ℕ × List ℕ)) → quoted_read quoted ≡ o → IfSome o (λ read. AreBytes read.0)
    by-read None is = tt
    by-read (Some (text, rest)) is =
        let begins = quoted_is_computed.read quoted text rest is in
        bytes-stood begins.inside text begins.stands

pub quoted-bytes : (quoted : List ℕ) → AreBytes (text_of_quoted quoted)
quoted-bytes quoted = by-read (quoted_read quoted) (read-bytes quoted)
  where
    by-read : (o : Option (List ℕ × List ℕ)) → IfSome o (λ read. AreBytes read.0) → AreBytes (unwrap_or (option_map (λ read. read.0) o) [])
    by-read None bytes = tt
    by-read (Some read) bytes = bytes

-- ---- breaks

with-each : (P : Break → Type 0) (new : Break) (list : List Break) → P new → AllByRecursion P list → AllByRecursion P (with_break new list)
with-each P new list here all =
    let every = All-from_recursion P list all in
    let low = below new.address list in
    let high = above new.address list in
    recursion_from_All P (with_break new list)
    (All-append P low (new ∷ high) (All-filter (λ (b : Break). nat_lt b.address new.address) P list every)
    (All-cons P new high here (All-filter (λ (b : Break). nat_lt new.address b.address) P list every)))

length-with : (new : Break) (list : List Break) → Rising list → length (with_break new list) ≡ length (without_break new.address list) + 1
length-with new list rising =
    let low = below new.address list in
    let high = above new.address list in
    let is = ap length (without_is new.address list rising) in
    let first : length (with_break new list) ≡ length low + length (new ∷ high) = length-append low (new ∷ high) in
    let second : length (low ++ high) ≡ length low + length high = length-append low high in
    omega (arith, is, first, second)

room-with : (new : Break) (list : List Break) → Rising list → length list ≤ most_breaks → lacks_room_for_break new.address list ≡ false → length (with_break new list) ≤ most_breaks
room-with new list rising most room =
    let longer = length-with new list rising in
    let less = by-there (has_break new.address list) refl room in
    omega (arith, longer, less)
  where
    by-there : (b : Bool) → has_break new.address list ≡ b → (not b && (length list == most_breaks)) ≡ false → length (without_break new.address list) + 1 ≤ most_breaks
    by-there true is room = let less = fewer new.address list is in omega (arith, less, most)
    by-there false is room =
        let same = ap length (all_kept new.address list is) in
        let short : length list < 256 = grind (arith, nat_tests) in
        omega (arith, same, short)

pub break-added : (w : WatchState) (at count : ℕ) (actions : List ℕ) → ValidWatch w → at < 2 ^ 15 → count < 2 ^ 32 → AreShortActions actions → lacks_room_for_break at w.breaks.list ≡ false
    → ValidWatch (record w { breaks = breaks.table (with_break (break_at at count actions) w.breaks.list) w.breaks.actions })
break-added w at count actions is low few short room = record {
  breaks = room-with (break_at at count actions) w.breaks.list is.rising is.breaks room;
  rising = rising_with (break_at at count actions) w.breaks.list is.rising;
  each = with-each ValidBreak (break_at at count actions) w.breaks.list (record { address = low; count = few; actions = short }) is.each;
  expects = is.expects;
  texts = is.texts;
  tail = is.tail;
  printed = is.printed;
  sends = is.sends;
  in_time = is.in_time;
  bytes = is.bytes;
  broke = is.broke;
  matched = is.matched;
}

pub break-removed : (w : WatchState) (at : ℕ) → ValidWatch w → ValidWatch (record w { breaks = breaks.table (without_break at w.breaks.list) w.breaks.actions })
break-removed w at is =
    let fewer = no_more at w.breaks.list in
    let kept = λ (b : Break). not (is_at at b) in
    record {
      breaks = omega (arith, fewer, is.breaks);
      rising = rising_filter kept w.breaks.list is.rising;
      each = recursion_from_All ValidBreak (without_break at w.breaks.list) (All-filter kept ValidBreak w.breaks.list (All-from_recursion ValidBreak w.breaks.list is.each));
      expects = is.expects;
      texts = is.texts;
      tail = is.tail;
      printed = is.printed;
      sends = is.sends;
      in_time = is.in_time;
      bytes = is.bytes;
      broke = is.broke;
      matched = is.matched;
    }

pub breaks-removed : (w : WatchState) → ValidWatch w → ValidWatch (record w { breaks = breaks.table [] w.breaks.actions })
breaks-removed w is = record {
  breaks = omega arith;
  rising = tt;
  each = tt;
  expects = is.expects;
  texts = is.texts;
  tail = is.tail;
  printed = is.printed;
  sends = is.sends;
  in_time = is.in_time;
  bytes = is.bytes;
  broke = is.broke;
  matched = is.matched;
}

-- ---- expects

pub expect-added : (w : WatchState) (count : ℕ) (text actions : List ℕ) → ValidWatch w → ValidExpect (expect_of count text actions) → (length w.expects.list == most_expects) ≡ false
    → ValidWatch (record w { expects = with_expect (expect_of count text actions) w.expects })
expect-added w count text actions is valid room =
    let new = expect_of count text actions in
    let longer = length-append w.expects.list (new ∷ []) in
    let most = is.expects in
    let short : length w.expects.list < 64 = grind (arith, nat_tests) in
    record {
      breaks = is.breaks;
      rising = is.rising;
      each = is.each;
      expects = omega (arith, longer, short);
      texts = every-append ValidExpect w.expects.list (new ∷ []) is.texts (valid, tt);
      tail = is.tail;
      printed = is.printed;
      sends = is.sends;
      in_time = is.in_time;
      bytes = is.bytes;
      broke = is.broke;
      matched = is.matched;
    }

pub expects-removed : (w : WatchState) → ValidWatch w → ValidWatch (record w { expects = no_expects w.expects })
expects-removed w is = record {
  breaks = is.breaks;
  rising = is.rising;
  each = is.each;
  expects = omega arith;
  texts = tt;
  tail = is.tail;
  printed = is.printed;
  sends = is.sends;
  in_time = is.in_time;
  bytes = is.bytes;
  broke = is.broke;
  matched = is.matched;
}

-- ---- bytes for the keyboard

abbrev SendsByte : Send → Type 0
SendsByte send = send.1 < 2 ^ 8

timed-bytes : (time delay : ℕ) (text : List ℕ) → AreBytes text → AllByRecursion SendsByte (timed time delay text)
timed-bytes time delay [] bytes = tt
timed-bytes time delay (b ∷ text) bytes = (bytes.0, timed-bytes (time + delay) delay text bytes.1)

pub sends-added : (w : WatchState) (now after delay : ℕ) (text : List ℕ) → ValidWatch w → AreBytes text → nat_lt most_sends (length w.sends + length text) ≡ false
    → ValidWatch (record w { sends = queued now after delay text w.sends })
sends-added w now after delay text is bytes room =
    let from = max now (last_queued w.sends) + after in
    let new = timed from delay text in
    let longer = length-append w.sends new in
    let count = length-timed from delay text in
    let most = ltb-false most_sends (length w.sends + length text) room in
    record {
      breaks = is.breaks;
      rising = is.rising;
      each = is.each;
      expects = is.expects;
      texts = is.texts;
      tail = is.tail;
      printed = is.printed;
      sends = omega (arith, longer, count, most);
      in_time = sends_stay now after delay text w.sends is.in_time;
      bytes = recursion_from_All SendsByte (w.sends ++ new) (All-append SendsByte w.sends new (All-from_recursion SendsByte w.sends is.bytes) (All-from_recursion SendsByte new (timed-bytes from delay text bytes)));
      broke = is.broke;
      matched = is.matched;
    }

pub sends-removed : (w : WatchState) → ValidWatch w → ValidWatch (record w { sends = [] })
sends-removed w is = record {
  breaks = is.breaks;
  rising = is.rising;
  each = is.each;
  expects = is.expects;
  texts = is.texts;
  tail = is.tail;
  printed = is.printed;
  sends = omega arith;
  in_time = tt;
  bytes = tt;
  broke = is.broke;
  matched = is.matched;
}

-- ---- between two texts no actions of a stop are kept

pub watch-forgotten : (w : WatchState) → ValidWatch w → ValidWatch (forgotten w)
watch-forgotten w is = record {
  breaks = is.breaks;
  rising = is.rising;
  each = is.each;
  expects = is.expects;
  texts = is.texts;
  tail = is.tail;
  printed = is.printed;
  sends = is.sends;
  in_time = is.in_time;
  bytes = is.bytes;
  broke = tt;
  matched = tt;
}
