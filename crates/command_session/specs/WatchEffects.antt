-- BREAK, NOBREAK, EXPECT, NOEXPECT, SEND and NOSEND (SIMH Users' Guide, "Breakpoints", "Reacting To Console Output" and
-- "Injecting Console Input").
use Rattle.std.specs.Prelude.{ℕ, ◌+◌, ◌-◌, ◌^◌, ◌==◌, ◌&&◌, nat_le, nat_lt, not, Bool, List, [], length, Option, Some, None, option_map, unwrap_or, Result, Ok, Err, if◌then◌else◌}
use Rattle.nova_word.specs.Quoted.{quoted_read}
use Rattle.expect_actions.specs.declared.breaks.Break.{Break}
use Rattle.expect_actions.specs.Breaks.{BreakTable, table, break_at, has_break, with_break, without_break, most_breaks}
use Rattle.expect_actions.specs.Expects.{ExpectTable, expect_of, with_expect, no_expects, most_expects, longest_text}
use Rattle.expect_actions.specs.Sends.{Send, queued, most_sends}
use Rattle.expect_actions.specs.declared.full.AddFault.{AddFault}
use Rattle.command_session.specs.declared.next.Next.TheVariants.{Go}
use Rattle.command_session.specs.declared.fault.CommandFault.TheVariants.{OutOfRange, Full}
use Rattle.command_session.specs.Live.{Live}
use Rattle.command_session.specs.Reply.{Answer, Reply, goes, refused}
use Rattle.command_session.specs.FaultText.{add_fault}
use Rattle.command_session.specs.RunEffects.{last_address}

-- the same with other breaks, expects or sent bytes
abbrev pub with_breaks : Live → BreakTable → Live
with_breaks live breaks = record live { watch = record live.watch { breaks = breaks } }

abbrev pub with_expects : Live → ExpectTable → Live
with_expects live expects = record live { watch = record live.watch { expects = expects } }

abbrev pub with_sends : Live → List Send → Live
with_sends live sends = record live { watch = record live.watch { sends = sends } }

-- the largest count, and the largest number of AFTER and of DELAY
abbrev pub largest_count : ℕ
largest_count = 2 ^ 32 - 1

-- the bytes that stand for a quoted text
abbrev pub text_of_quoted : List ℕ → List ℕ
text_of_quoted quoted = unwrap_or (option_map (λ read. read.0) (quoted_read quoted)) []

-- what is answered of a break or an expect that was added, or not
abbrev pub added_answer : Result (Unit {0}) AddFault → Answer
added_answer (Ok u) = Ok Go
added_answer (Err fault) = Err (add_fault fault)

-- one break more does not fit, where none is at the address
abbrev pub lacks_room_for_break : ℕ → List Break → Bool
lacks_room_for_break at list = not (has_break at list) && (length list == most_breaks)

-- BREAK puts a break at an address, with its count of tests and the actions of its stop
unfoldable pub break_reply : Live → ℕ → ℕ → List ℕ → Reply
break_reply live at count actions =
    if not (nat_le at last_address && nat_le count largest_count) then refused OutOfRange live
    else if lacks_room_for_break at live.watch.breaks.list then refused Full live
    else goes (with_breaks live (table (with_break (break_at at count actions) live.watch.breaks.list) live.watch.breaks.actions))

-- NOBREAK takes the break of an address away, if one is there, and NOBREAK ALL all of them
unfoldable pub no_break_reply : Live → Option ℕ → Reply
no_break_reply live None = goes (with_breaks live (table [] live.watch.breaks.actions))
no_break_reply live (Some at) =
    if nat_le at last_address then goes (with_breaks live (table (without_break at live.watch.breaks.list) live.watch.breaks.actions))
    else refused OutOfRange live

-- a count and a text that can be waited for
abbrev pub can_be_expected : ℕ → List ℕ → Bool
can_be_expected count text = nat_le 1 count && nat_le count largest_count && nat_le 1 (length text) && nat_le (length text) longest_text

-- EXPECT waits for a text on the console, behind all that are waited for already
abbrev pub expect_text : Live → ℕ → List ℕ → List ℕ → Reply
expect_text live count text actions =
    if not (can_be_expected count text) then refused OutOfRange live
    else if length live.watch.expects.list == most_expects then refused Full live
    else goes (with_expects live (with_expect (expect_of count text actions) live.watch.expects))

unfoldable pub expect_reply : Live → ℕ → List ℕ → List ℕ → Reply
expect_reply live count quoted actions = expect_text live count (text_of_quoted quoted) actions

-- NOEXPECT waits for no text any more; what was printed last is kept
unfoldable pub no_expect_reply : Live → Reply
no_expect_reply live = goes (with_expects live (no_expects live.watch.expects))

-- SEND queues the bytes of a text for the keyboard
abbrev pub send_text : Live → ℕ → ℕ → List ℕ → Reply
send_text live after delay text =
    if not (nat_le after largest_count && nat_le delay largest_count) then refused OutOfRange live
    else if nat_lt most_sends (length live.watch.sends + length text) then refused Full live
    else goes (with_sends live (queued live.machine.time after delay text live.watch.sends))

unfoldable pub send_reply : Live → ℕ → ℕ → List ℕ → Reply
send_reply live after delay quoted = send_text live after delay (text_of_quoted quoted)

-- NOSEND takes away what is queued
unfoldable pub no_send_reply : Live → Reply
no_send_reply live = goes (with_sends live [])
